-- What the end of a commit leaves. This project's own choice.
use Rattle.std.specs.Prelude.{◌≡◌, ℕ, List, map, Option, Some, None, option_map}
use Rattle.command_needs.specs.Sets.{tables_in}
use Rattle.depot_rows.specs.db_records.declared.table.TableId.{TableId}
use Rattle.depot_rows.specs.table_changes.Changed.{changed_by, rows_of}
use Rattle.depot_rows.specs.depot_model.Deeds.{Deed}
use Rattle.depot_rows.specs.depot_model.Tables.{needs_of}
use Rattle.depot_rows.specs.depot_model.declared.request.Request.{Request}
use Rattle.command_core.specs.declared.outcome.Outcome.{Outcome}
use Rattle.lock_machine.specs.Machine.{State, event}
use Rattle.lock_machine.specs.Machine as model
use Rattle.lock_machine.specs.declared.stage.Stage.TheVariants.{Committed}
use Rattle.lock_core.specs.Core.{Shows, IsCommit, IsReady}
use Rattle.lock_core.specs.Works.{marked}
use Rattle.lock_core.specs.declared.machine.LockCore.{LockCore}
use Rattle.lock_core.specs.declared.party.Party.{Party}
use Rattle.lock_core.specs.declared.turn.Finish.{Finish}
use Rattle.lock_core.specs.declared.turn.Finish.TheVariants.{Done, Fault, NoMemory}
use Rattle.lock_core.specs.declared.work.Room.{Room}
use Rattle.lock_core.specs.declared.work.Work.{Work}

-- ---- the parties

-- a party whose command is stale where it looked at one of these tables
abbrev pub marked_party : List TableId → Party → Party
marked_party changed p = record p { work = option_map (marked changed) p.work }

abbrev pub marked_parties : List TableId → List Party → List Party
marked_parties changed parties = map (marked_party changed) parties

-- what a commit that is done puts in, over these parties
pub record IsPut (room : Room) (parties : List Party) (new : LockCore) : Type 0 where
  pub tables : new.tables ≡ room.tables
  pub marked : new.parties.items ≡ marked_parties (tables_in room.changed) parties

abbrev pub PutsIn : Option Room → List Party → LockCore → Type 0
PutsIn None parties new = Unit {0}
PutsIn (Some room) parties new = IsPut room parties new

-- a party whose command has its place
abbrev pub committed_work : Work → Work
committed_work w = record w { stage = Committed; room = None }

abbrev pub committed_party : Party → Party
committed_party p = record p { work = option_map committed_work p.work }

-- the room of its command
abbrev pub room_in : Option Work → Option Room
room_in None = None
room_in (Some w) = w.room

abbrev pub room_at : Option Party → Option Room
room_at None = None
room_at (Some p) = room_in p.work

-- ---- the machine

-- It has taken a commit that is done: the tables of the changes are those that the order tells, and the rows are those after the changes.
pub record IsDone (start : List Deed) (s : State) (old new : LockCore) (i : ℕ) (outcome : Outcome) : Type 0 where
  pub changed : List TableId
  pub shows : Shows start new (event needs_of s i (model.Done changed))
  pub rows : rows_of new.tables ≡ changed_by (rows_of old.tables) outcome.changes

-- it has taken one that isn't done, and the rows are those before
pub record IsUndone (start : List Deed) (s : State) (old new : LockCore) (i : ℕ) (how : model.Finish) : Type 0 where
  pub shows : Shows start new (event needs_of s i how)
  pub rows : rows_of new.tables ≡ rows_of old.tables

-- where a commit is at hand, the machine has taken it as it ended
abbrev pub Finishes : LockCore → LockCore → ℕ → Finish → Type 0
Finishes old new i Done =
    (start : List Deed) (s : State) (request : Request) (outcome : Outcome) → IsReady start s old i request outcome → IsDone start s old new i outcome
Finishes old new i Fault = (start : List Deed) (s : State) (request : Request) → IsCommit start s old i request → IsUndone start s old new i model.Fault
Finishes old new i NoMemory = (start : List Deed) (s : State) (request : Request) → IsCommit start s old i request → IsUndone start s old new i model.NoMemory
