-- The families of commands, by what they are about: each command is of one. This project's own choice.
use Rattle.std.specs.Prelude.{Bool, true, false}
use Rattle.depot_rows.specs.depot_model.declared.command.Command.{Command}
use Rattle.depot_rows.specs.depot_model.declared.command.Command.TheVariants.{CounterShow, CounterSet, CounterDelete, Counters, ClientShow, ClientSave, LabelShow, LabelSave, Labels, GroupShow, GroupSave, ProtectShow, ProtectSave, Add, Edit, Delete, Move, Revert, Reopen, Lock, Unlock, Opened, ChangeShow, ChangeSave, ChangeDelete, Changes, Describe, Where, Sync, Have, Tag, LabelSync, Files, FileLog, Print, Dirs, FileStat, Integrate, Resolve, Integrated, Checkpoint, Pull, JobShow, JobSave, Jobs, Fix, FixDelete, Fixes, Shelve, ShelveDelete, Unshelve, DescribeShelved}
use Rattle.depot_rows.specs.depot_model.Tables.{writes_archive}

-- counters and forms: of clients, labels, groups and protections, and those of changes that are saved or deleted
abbrev pub is_spec : Command → Bool
is_spec (CounterShow name) = true
is_spec (CounterSet name value) = true
is_spec (CounterDelete name) = true
is_spec Counters = true
is_spec (ClientShow name) = true
is_spec ClientSave = true
is_spec (LabelShow name) = true
is_spec LabelSave = true
is_spec Labels = true
is_spec (GroupShow name) = true
is_spec GroupSave = true
is_spec ProtectShow = true
is_spec ProtectSave = true
is_spec ChangeSave = true
is_spec (ChangeDelete change) = true
is_spec _ = false

-- opened files
abbrev pub is_opening : Command → Bool
is_opening (Add change file_type paths) = true
is_opening (Edit change file_type files) = true
is_opening (Delete change files) = true
is_opening (Move change from to) = true
is_opening (Revert change files) = true
is_opening (Reopen change file_type files) = true
is_opening (Lock change files) = true
is_opening (Unlock change files) = true
is_opening (Opened all files) = true
is_opening _ = false

-- changes that are shown
abbrev pub is_change : Command → Bool
is_change (ChangeShow change) = true
is_change (Changes most status user client files) = true
is_change (Describe change) = true
is_change _ = false

-- have lists, labels and integration
abbrev pub is_syncing : Command → Bool
is_syncing (Where paths) = true
is_syncing (Sync again shows files) = true
is_syncing (Have files) = true
is_syncing (Tag label removes files) = true
is_syncing (LabelSync label labelling files) = true
is_syncing (Integrate change from to) = true
is_syncing (Resolve taking files) = true
is_syncing _ = false

-- submitted files
abbrev pub is_history : Command → Bool
is_history (Files live files) = true
is_history (FileLog files) = true
is_history (Print files) = true
is_history (Dirs patterns) = true
is_history (FileStat files) = true
is_history (Integrated files) = true
is_history _ = false

-- the server itself
abbrev pub is_server : Command → Bool
is_server Checkpoint = true
is_server Pull = true
is_server _ = false

-- jobs and fixes
abbrev pub is_job : Command → Bool
is_job (JobShow name) = true
is_job JobSave = true
is_job Jobs = true
is_job (Fix change jobs) = true
is_job (FixDelete change jobs) = true
is_job (Fixes change job) = true
is_job _ = false

-- submits, which alone write to the archive
abbrev pub is_submit : Command → Bool
is_submit command = writes_archive command

-- shelved files
abbrev pub is_shelf : Command → Bool
is_shelf (Shelve change replaces files) = true
is_shelf (ShelveDelete change files) = true
is_shelf (Unshelve shelved change files) = true
is_shelf (DescribeShelved change) = true
is_shelf _ = false
