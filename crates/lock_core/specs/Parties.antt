-- How a party of the code stands for one of the machine. This project's own choice.
use Rattle.std.specs.Prelude.{◌≡◌, Bool, true, false, ℕ, IsTrue, List, [], ◌∷◌, map, reverse, Option, Some, None}
use Rattle.depot_rows.specs.table_changes.Changed.{AllRows}
use Rattle.depot_rows.specs.depot_model.Deeds.{Deed}
use Rattle.depot_rows.specs.depot_model.Rules.{IsSound}
use Rattle.depot_rows.specs.depot_model.Tables.{needs_of}
use Rattle.depot_rows.specs.depot_model.declared.lock.LockId.{LockId}
use Rattle.depot_rows.specs.depot_model.declared.request.Request.{Request}
use Rattle.sound_requests.specs.Asked.{is_typed}
use Rattle.command_core.specs.Outcomes.{HasNeeded, IsFormedBy, IsOutcome}
use Rattle.command_core.specs.declared.outcome.Outcome.{Outcome}
use Rattle.lock_machine.specs.Machine.{Commit, moved}
use Rattle.lock_machine.specs.Machine as model
use Rattle.lock_machine.specs.declared.stage.Stage.{Stage}
use Rattle.lock_machine.specs.declared.stage.Stage.TheVariants.{Gathering, Judged}
use Rattle.command_needs.specs.Sets.{locks_in, need_in}
use Rattle.lock_core.specs.Works.{IsRoomOf, IsWorkShown, holds_lock, waits_for}
use Rattle.lock_core.specs.declared.party.Party.{Party}
use Rattle.lock_core.specs.declared.party.Wait.{Wait}
use Rattle.lock_core.specs.declared.party.Wait.TheVariants.{Never, Now, For}
use Rattle.lock_core.specs.declared.turn.Turn.{Turn}
use Rattle.lock_core.specs.declared.turn.Turn.TheVariants.{Idle, Moved, Ready}
use Rattle.lock_core.specs.declared.work.Room.{Room}
use Rattle.lock_core.specs.declared.work.Work.{Work}

abbrev pub holds_by : LockId → Option Work → Bool
holds_by lock None = false
holds_by lock (Some w) = holds_lock lock w

-- it owns a lock
abbrev pub holds : LockId → Party → Bool
holds lock p = holds_by lock p.work

abbrev pub wait_of : Option LockId → Wait
wait_of None = Now
wait_of (Some lock) = For lock

abbrev pub waits_by : List Work → Option Work → Wait
waits_by left (Some w) = wait_of (waits_for w)
waits_by [] None = Never
waits_by (work ∷ left) None = Now

-- for what it waits
abbrev pub waits : Party → Wait
waits p = waits_by p.left.items p.work

-- ---- a party of the machine

-- a command that isn't begun
pub record IsFresh (w : Work) : Type 0 where
  pub stage : w.stage ≡ Gathering
  pub second : w.second ≡ false
  pub done : w.done ≡ 0
  pub stale : w.stale ≡ false
  pub set : map (need_in w.needs) (locks_in w.needs) ≡ needs_of w.request

abbrev pub AllFresh : List Work → Type 0
AllFresh [] = Unit {0}
AllFresh (w ∷ works) = IsFresh w × AllFresh works

abbrev pub IsShownBy : List Commit → Option Work → Option model.Work → Type 0
IsShownBy order None None = Unit {0}
IsShownBy order (Some w) (Some v) = IsWorkShown order w v
IsShownBy order None (Some v) = ⊥
IsShownBy order (Some w) None = ⊥

pub record IsShownAs (order : List Commit) (left : List Work) (work : Option Work) (q : model.Party) : Type 0 where
  pub fresh : AllFresh left
  pub left_is : map (λ (w : Work). w.request) (reverse left) ≡ q.left
  pub work_is : IsShownBy order work q.work

-- a party of the code is one of the machine's after an order of places
abbrev pub IsShown : List Commit → Party → model.Party → Type 0
IsShown order p q = IsShownAs order p.left.items p.work q

-- the parts of requests are of their types
abbrev pub AreTyped : List Request → Type 0
AreTyped [] = Unit {0}
AreTyped (request ∷ requests) = IsTrue (is_typed request) × AreTyped requests

abbrev pub AllTypedIn : List (List Request) → Type 0
AllTypedIn [] = Unit {0}
AllTypedIn (left ∷ requests) = AreTyped left × AllTypedIn requests

-- ---- its turns

-- The commit of a party is at hand: the outcome is the command's by the rows of the tables, and the room is for its changes.
pub record IsReadyBy (rows : AllRows) (from : ℕ) (old new : Party) (outcome : Outcome) : Type 0 where
  pub work : Work
  pub room : Room
  pub before : old.work ≡ Some work
  pub judged : work.stage ≡ Judged
  pub after : new ≡ record old { work = Some (record work { room = Some room }) }
  pub outcome_is : (d : List Deed) → IsSound d → IsFormedBy work.request → HasNeeded rows d work.request → IsOutcome rows from d work.request outcome
  pub room_is : IsRoomOf rows outcome.changes room

abbrev pub is_judged_at : Stage → Bool
is_judged_at Judged = true
is_judged_at _ = false

-- it has judged, and not committed
abbrev pub is_judged : Option Work → Bool
is_judged None = false
is_judged (Some w) = is_judged_at w.stage

-- what a turn of a party did, where it may go on
abbrev pub IsTurnOf : AllRows → ℕ → Party → Party → Turn → Type 0
IsTurnOf rows from old new Idle = ⊥
IsTurnOf rows from old new Moved =
    (is_judged old.work ≡ false) × ((order : List Commit) (q : model.Party) → IsShown order old q → IsShown order new (moved needs_of order q.left q.work))
IsTurnOf rows from old new (Ready outcome) = IsReadyBy rows from old new outcome
