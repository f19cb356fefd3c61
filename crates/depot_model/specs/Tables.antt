-- The tables that each command reads and writes: one line a form. Groups, protections and forms are read by every command. This project's own choice.
use Rattle.std.specs.Prelude.{◌==◌, List, [], ◌∷◌, ◌++◌, map, filter, Bool, true, false, ◌||◌, Result, Ok, Err}
use Rattle.std.specs.List.{list_any}
use Rattle.db_records.specs.Table.{all_tables, table_number}
use Rattle.db_records.specs.declared.table.TableId.{TableId}
use Rattle.db_records.specs.declared.table.TableId.TheVariants.{Counter, Group, Protect, Domain, Have, Label, Integed, Resolve, Working, Change, Rev}
use Rattle.depot_model.specs.declared.lock.LockId.{LockId}
use Rattle.depot_model.specs.declared.lock.LockId.TheVariants.{Table, Archive, Journal}
use Rattle.depot_model.specs.declared.request.Request.{Request}
use Rattle.depot_model.specs.declared.request.WordFault.{WordFault}
use Rattle.depot_model.specs.declared.command.Command.{Command}
use Rattle.depot_model.specs.declared.command.Command.TheVariants.{CounterShow, CounterSet, CounterDelete, Counters, ClientShow, ClientSave, LabelShow, LabelSave, GroupShow, GroupSave, ProtectShow, ProtectSave, Where, Add, Edit, Delete, Move, Revert, Reopen, Lock, Unlock, Opened, ChangeSave, ChangeShow, ChangeDelete, Changes, SubmitChange, SubmitDefault, Sync, Have, Tag, LabelSync, Labels, Integrate, Resolve, Integrated, Files, FileLog, Print, Describe, Dirs, FileStat, Shelve, ShelveDelete, Unshelve, DescribeShelved, JobShow, JobSave, Jobs, Fix, FixDelete, Fixes, Checkpoint, Pull}

-- those that are read alone, but for the three that every command reads, and those that are written
pub record Tables : Type 0 where
  pub read : List TableId
  pub written : List TableId

abbrev pub tables : List TableId → List TableId → Tables
tables read written = record { read = read; written = written }

abbrev pub own_tables : Command → Tables
own_tables (CounterShow name) = tables (Counter ∷ []) []
own_tables (CounterSet name value) = tables [] (Counter ∷ [])
own_tables (CounterDelete name) = tables [] (Counter ∷ [])
own_tables Counters = tables (Counter ∷ []) []
own_tables (ClientShow name) = tables [] []
own_tables ClientSave = tables [] (Domain ∷ [])
own_tables (LabelShow name) = tables [] []
own_tables LabelSave = tables [] (Domain ∷ [])
own_tables (GroupShow name) = tables [] []
own_tables GroupSave = tables [] (Group ∷ [])
own_tables ProtectShow = tables [] []
own_tables ProtectSave = tables [] (Protect ∷ [])
own_tables (Where paths) = tables [] []
own_tables (Add change type paths) = tables (Change ∷ Rev ∷ []) (Working ∷ [])
own_tables (Edit change type files) = tables (Have ∷ Change ∷ Rev ∷ []) (Working ∷ [])
own_tables (Delete change files) = tables (Have ∷ Change ∷ Rev ∷ []) (Working ∷ [])
own_tables (Move change from to) = tables (Change ∷ Rev ∷ []) (Resolve ∷ Working ∷ [])
own_tables (Revert change files) = tables (Have ∷ []) (Resolve ∷ Working ∷ [])
own_tables (Reopen change type files) = tables (Change ∷ []) (Working ∷ [])
own_tables (Lock change files) = tables [] (Working ∷ [])
own_tables (Unlock change files) = tables [] (Working ∷ [])
own_tables (Opened all files) = tables (Working ∷ []) []
own_tables ChangeSave = tables [] (Counter ∷ Working ∷ Change ∷ [])
own_tables (ChangeShow change) = tables (Working ∷ Change ∷ []) []
own_tables (ChangeDelete change) = tables (Working ∷ []) (Change ∷ [])
own_tables (Changes most status user client files) = tables (Have ∷ Label ∷ Change ∷ Rev ∷ []) []
own_tables (SubmitChange change) = tables [] (Counter ∷ Domain ∷ Have ∷ Integed ∷ Resolve ∷ Working ∷ Change ∷ Rev ∷ [])
own_tables (SubmitDefault text) = tables [] (Counter ∷ Domain ∷ Have ∷ Integed ∷ Resolve ∷ Working ∷ Change ∷ Rev ∷ [])
own_tables (Sync again shows files) = tables (Label ∷ Working ∷ Change ∷ Rev ∷ []) (Have ∷ Resolve ∷ [])
own_tables (Have files) = tables (Have ∷ []) []
own_tables (Tag label removes files) = tables (Have ∷ Change ∷ Rev ∷ []) (Domain ∷ Label ∷ [])
own_tables (LabelSync label labelling files) = tables (Have ∷ Change ∷ Rev ∷ []) (Label ∷ [])
own_tables Labels = tables [] []
own_tables (Integrate change from to) = tables (Label ∷ Integed ∷ Change ∷ Rev ∷ []) (Have ∷ Resolve ∷ Working ∷ [])
own_tables (Resolve taking files) = tables (Rev ∷ []) (Have ∷ Resolve ∷ Working ∷ [])
own_tables (Integrated files) = tables (Integed ∷ Rev ∷ []) []
own_tables (Files live files) = tables (Have ∷ Label ∷ Change ∷ Rev ∷ []) []
own_tables (FileLog files) = tables (Have ∷ Label ∷ Integed ∷ Change ∷ Rev ∷ []) []
own_tables (Print files) = tables (Have ∷ Label ∷ Change ∷ Rev ∷ []) []
own_tables (Describe change) = tables (Change ∷ Rev ∷ []) []
own_tables (Dirs patterns) = tables (Rev ∷ []) []
own_tables (FileStat files) = tables (Have ∷ Label ∷ Working ∷ Change ∷ Rev ∷ []) []
own_tables (Shelve change replaces files) = tables (Working ∷ Change ∷ Rev ∷ []) (Domain ∷ [])
own_tables (ShelveDelete change files) = tables (Change ∷ []) (Domain ∷ [])
own_tables (Unshelve shelved change files) = tables (Change ∷ Rev ∷ []) (Working ∷ [])
own_tables (DescribeShelved change) = tables (Change ∷ []) []
own_tables (JobShow job) = tables [] []
own_tables JobSave = tables [] (Domain ∷ [])
own_tables Jobs = tables [] []
own_tables (Fix change jobs) = tables (Change ∷ []) (Domain ∷ [])
own_tables (FixDelete change jobs) = tables (Change ∷ []) (Domain ∷ [])
own_tables (Fixes change job) = tables [] []
own_tables Checkpoint = tables (Have ∷ Label ∷ Integed ∷ Resolve ∷ Working ∷ Change ∷ Rev ∷ []) (Counter ∷ [])
own_tables Pull = tables [] []

-- the archive is read where a reply shows contents, and written where they are stored
abbrev pub reads_archive : Command → Bool
reads_archive (Print files) = true
reads_archive _ = false

abbrev pub writes_archive : Command → Bool
writes_archive (SubmitChange change) = true
writes_archive (SubmitDefault text) = true
writes_archive _ = false

-- a table is among some
abbrev pub is_in : List TableId → TableId → Bool
is_in tables table = list_any (λ other. table_number other == table_number table) tables

-- whether a command reads a table, whether it writes it, and whether it is in the command's set at all
abbrev pub reads : Command → TableId → Bool
reads command table = is_in (Group ∷ Protect ∷ Domain ∷ (own_tables command).read) table

abbrev pub writes : Command → TableId → Bool
writes command table = is_in (own_tables command).written table

abbrev pub touches : Command → TableId → Bool
touches command table = reads command table || writes command table

-- the same of words, which may be no command: these have no set
abbrev pub needs_table : Result Command WordFault → TableId → Bool
needs_table (Err fault) table = false
needs_table (Ok command) table = touches command table

abbrev pub writes_table : Result Command WordFault → TableId → Bool
writes_table (Err fault) table = false
writes_table (Ok command) table = writes command table

-- ---- locks

-- those of tables and of the archive, in the order in which a command goes through its set
abbrev pub set_locks : List LockId
set_locks = map Table all_tables ++ Archive ∷ []

abbrev pub takes : Command → LockId → Bool
takes command (Table table) = touches command table
takes command Archive = reads_archive command || writes_archive command
takes command Journal = false

abbrev pub writes_behind : Command → LockId → Bool
writes_behind command (Table table) = writes command table
writes_behind command Archive = writes_archive command
writes_behind command Journal = false

-- how a command takes what a lock guards
pub record Need : Type 0 where
  pub lock : LockId
  pub writes : Bool

abbrev pub need_for : Command → LockId → Need
need_for command lock = record { lock = lock; writes = writes_behind command lock }

-- the set of a request in that order; one whose words are no command has none
abbrev pub needs_of : Request → List Need
needs_of request = elim request.command [ Err fault ↦ [] | Ok command ↦ map (need_for command) (filter (takes command) set_locks) ]
