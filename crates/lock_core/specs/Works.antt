-- How a command at hand in the code stands for one of the machine, and what becomes of it. This project's own choice.
use Rattle.std.specs.Prelude.{◌≡◌, ◌+◌, ◌==◌, Bool, true, false, not, ◌&&◌, ◌||◌, List, map, take, drop, slice_get, is_some, unwrap_or, if◌then◌else◌, Option, Some, None}
use Rattle.std.specs.List.{list_any}
use Rattle.depot_rows.specs.db_records.Record.{table_of}
use Rattle.depot_rows.specs.db_records.Table.{table_number}
use Rattle.depot_rows.specs.db_records.declared.change.Change.{Change}
use Rattle.depot_rows.specs.db_records.declared.table.TableId.{TableId}
use Rattle.depot_rows.specs.table_changes.Changed.{AllRows, changed_by, rows_of}
use Rattle.depot_rows.specs.depot_model.Tables.{needs_of}
use Rattle.depot_rows.specs.depot_model.declared.lock.LockId.{LockId}
use Rattle.depot_rows.specs.depot_model.declared.lock.LockId.TheVariants.{Journal}
use Rattle.lock_machine.specs.Machine.{Seen, Commit, guards, has_judged, is_lock, is_stale}
use Rattle.lock_machine.specs.Machine as model
use Rattle.lock_machine.specs.declared.stage.Stage.{Stage}
use Rattle.lock_machine.specs.declared.stage.Stage.TheVariants.{Gathering, Judged, Committed}
use Rattle.command_needs.specs.Sets.{has_table, locks_in, need_in, writes_behind}
use Rattle.command_needs.specs.declared.needs.Needs.{Needs}
use Rattle.lock_core.specs.declared.work.Room.{Room}
use Rattle.lock_core.specs.declared.work.Work.{Work}

-- ---- its locks

-- one that it has taken is that lock, and it owns it
abbrev pub holds_taken : Needs → Bool → LockId → LockId → Bool
holds_taken needs second lock taken = (second || writes_behind needs taken) && is_lock taken lock

-- it owns a lock
abbrev pub holds_lock : LockId → Work → Bool
holds_lock lock w = list_any (holds_taken w.needs w.second lock) (take w.done (locks_in w.needs)) || (has_judged w.stage && is_lock lock Journal)

-- the lock of its set that it takes next, if one is left
abbrev pub next_of : Work → Option LockId
next_of w = slice_get (locks_in w.needs) w.done

abbrev pub waits_at : Stage → Option LockId → Option LockId
waits_at Gathering next = Some (unwrap_or next Journal)
waits_at Judged next = None
waits_at Committed next = None

-- the lock for which it waits
abbrev pub waits_for : Work → Option LockId
waits_for w = waits_at w.stage (next_of w)

-- ---- what becomes of it

-- it takes the next table of its set; or else it judges, and begins its second attempt where it is stale
abbrev pub gathered : Work → Work
gathered w =
    if is_some (next_of w) then record w { done = w.done + 1 }
    else if w.stale then record w { second = true; stale = false; done = 0 }
    else record w { stage = Judged }

-- it looked at one of these tables
abbrev pub looked_behind : Needs → Bool → List TableId → LockId → Bool
looked_behind needs second changed taken = not (second || writes_behind needs taken) && guards changed taken

abbrev pub looked_at : List TableId → Work → Bool
looked_at changed w = list_any (looked_behind w.needs w.second changed) (take w.done (locks_in w.needs))

-- it is stale where it looked at one of these tables, which were changed
abbrev pub marked : List TableId → Work → Work
marked changed w = record w { stale = w.stale || looked_at changed w }

-- ---- the room for its commit

-- the changes are of rows of a table
abbrev pub is_changed : List Change → TableId → Bool
is_changed changes table = list_any (λ (change : Change). table_number (table_of change.row) == table_number table) changes

-- a room is for these changes of rows
pub record IsRoomOf (rows : AllRows) (changes : List Change) (room : Room) : Type 0 where
  pub after : rows_of room.tables ≡ changed_by rows changes
  pub changed : (table : TableId) → has_table room.changed table ≡ is_changed changes table

-- ---- the machine's

-- A command of the code at hand is one of the machine's after an order of places. While it goes through its set it knows whether what it looked at was
-- changed since.
pub record IsWorkShown (order : List Commit) (w : Work) (v : model.Work) : Type 0 where
  pub request : w.request ≡ v.request
  pub stage : w.stage ≡ v.stage
  pub second : w.second ≡ v.second
  pub set : map (need_in w.needs) (locks_in w.needs) ≡ needs_of v.request
  pub seen : map (λ (s : Seen). s.need) v.seen ≡ map (need_in w.needs) (take w.done (locks_in w.needs))
  pub rest : v.rest ≡ map (need_in w.needs) (drop w.done (locks_in w.needs))
  pub stale : v.stage ≡ Gathering → w.stale ≡ list_any (is_stale order v.second) v.seen
