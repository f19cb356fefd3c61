-- How the parties of the code stand for the machine over a depot. This project's own choice.
use Rattle.std.specs.Prelude.{◌≡◌, ℕ, Bool, true, false, not, List, [], ◌∷◌, map, slice_get, Option, Some, None}
use Rattle.std.proofs.Common.{Vec, Global}
use Rattle.std.specs.List.{list_any}
use Rattle.depot_rows.specs.table_changes.Changed.{rows_of}
use Rattle.depot_rows.specs.depot_model.Deeds.{Deed}
use Rattle.depot_rows.specs.depot_model.Tables.{needs_of}
use Rattle.depot_rows.specs.depot_model.declared.request.Request.{Request}
use Rattle.depot_rows.specs.Standing.{Stand}
use Rattle.command_core.specs.Outcomes.{IsOutcome}
use Rattle.command_core.specs.declared.outcome.Outcome.{Outcome}
use Rattle.lock_machine.specs.Machine.{Commit, State, Finish, event, is_enabled}
use Rattle.lock_machine.specs.Machine as model
use Rattle.lock_machine.specs.Proper.{IsProper}
use Rattle.lock_machine.specs.Runs.{IsRun, depot_after}
use Rattle.lock_machine.specs.declared.stage.Stage.TheVariants.{Judged}
use Rattle.lock_core.specs.Parties.{IsShown, holds, waits}
use Rattle.lock_core.specs.Works.{IsRoomOf}
use Rattle.lock_core.specs.declared.machine.LockCore.{LockCore}
use Rattle.lock_core.specs.declared.party.Party.{Party}
use Rattle.lock_core.specs.declared.party.Wait.{Wait}
use Rattle.lock_core.specs.declared.party.Wait.TheVariants.{Never, Now, For}
use Rattle.lock_core.specs.declared.turn.Turn.{Turn}
use Rattle.lock_core.specs.declared.turn.Turn.TheVariants.{Idle, Moved, Ready}
use Rattle.lock_core.specs.declared.work.Room.{Room}
use Rattle.lock_core.specs.declared.work.Work.{Work}

-- ---- who may go on

-- for what a party waits
abbrev pub wait_in : Option Party → Wait
wait_in None = Never
wait_in (Some p) = waits p

abbrev pub wait_at : List Party → ℕ → Wait
wait_at parties i = wait_in (slice_get parties i)

-- whether it may go on
abbrev pub may_wait : List Party → Wait → Bool
may_wait parties Never = false
may_wait parties Now = true
may_wait parties (For lock) = not (list_any (holds lock) parties)

abbrev pub is_waiting : Wait → Bool
is_waiting Never = false
is_waiting Now = true
is_waiting (For lock) = true

-- the request of the command that it has at hand
abbrev pub request_by : Option Work → Option Request
request_by None = None
request_by (Some w) = Some w.request

abbrev pub request_in : Option Party → Option Request
request_in None = None
request_in (Some p) = request_by p.work

-- whether it has a command at hand or left
abbrev pub is_working : Party → Bool
is_working p = is_waiting (waits p)

-- ---- the machine's

-- the requests of each party
abbrev pub all_items : List (Vec Request Global) → List (List Request)
all_items requests = map (λ (v : Vec Request Global). v.items) requests

abbrev pub AllProper : List Request → Type 0
AllProper [] = Unit {0}
AllProper (request ∷ requests) = IsProper request × AllProper requests

abbrev pub AllProperIn : List (List Request) → Type 0
AllProperIn [] = Unit {0}
AllProperIn (left ∷ requests) = AllProper left × AllProperIn requests

-- each party is one of the machine's
abbrev pub AreShown : List Commit → List Party → List model.Party → Type 0
AreShown order [] [] = Unit {0}
AreShown order (p ∷ ps) (q ∷ qs) = IsShown order p q × AreShown order ps qs
AreShown order [] (q ∷ qs) = ⊥
AreShown order (p ∷ ps) [] = ⊥

-- The parties of the code are the machine after some events over a depot, and the tables have the rows of the depot after its places.
pub record Shows (start : List Deed) (core : LockCore) (s : State) : Type 0 where
  pub run : IsRun start s
  pub stand : Stand (rows_of core.tables) (depot_after start s.order)
  pub parties : AreShown s.order core.parties.items s.parties

-- ---- a commit at hand

-- the commit of a request is at hand at a place
pub record IsAt (parties : List model.Party) (i : ℕ) (request : Request) : Type 0 where
  pub party : model.Party
  pub work : model.Work
  pub there : slice_get parties i ≡ Some party
  pub has : party.work ≡ Some work
  pub judged : work.stage ≡ Judged
  pub asks : work.request ≡ request

-- The commit of a request is at hand in the machine that the core is.
pub record IsCommit (start : List Deed) (s : State) (core : LockCore) (i : ℕ) (request : Request) : Type 0 where
  pub enabled : is_enabled s i ≡ true
  pub at : IsAt s.parties i request
  pub shows : Shows start core s

-- a party of the code has the room for its commit
pub record HasRoomAt (core : LockCore) (i : ℕ) (outcome : Outcome) : Type 0 where
  pub party : Party
  pub work : Work
  pub room : Room
  pub there : slice_get core.parties.items i ≡ Some party
  pub has : party.work ≡ Some work
  pub with_room : work.room ≡ Some room
  pub is : IsRoomOf (rows_of core.tables) outcome.changes room

-- It is, with its outcome, and there is room for its changes: the reply is the model's for the depot after the places so far, as for each that the rows
-- stand for, and the changes are what differs then.
pub record IsReady (start : List Deed) (s : State) (core : LockCore) (i : ℕ) (request : Request) (outcome : Outcome) : Type 0 where
  pub commit : IsCommit start s core i request
  pub outcome_is : (d : List Deed) → Stand (rows_of core.tables) d → IsOutcome (rows_of core.tables) core.tables.archive_end d request outcome
  pub room : HasRoomAt core i outcome

-- ---- turns

-- what a turn did
abbrev pub IsTurn : List Deed → State → LockCore → LockCore → ℕ → Turn → Type 0
IsTurn start s old new i Idle = (is_enabled s i ≡ false) × (new ≡ old)
IsTurn start s old new i Moved = (is_enabled s i ≡ true) × ((how : Finish) → Shows start new (event needs_of s i how)) × (new.tables ≡ old.tables)
IsTurn start s old new i (Ready outcome) = ((request : Request) × IsReady start s new i request outcome) × (new.tables ≡ old.tables)

-- the same tables and parties
abbrev pub IsAsBefore : LockCore → LockCore → Type 0
IsAsBefore old new = (new.tables ≡ old.tables) × (new.parties.items ≡ old.parties.items)
