-- What is known of each form of command: its word, the right that it needs, whether it needs a client, and its arguments: one line a form
-- (Command-Line Reference, each command's page). The rights are this project's own choice.
use Rattle.std.specs.Prelude.{ℕ, Bool, true, false, List, [], ◌∷◌, codes}
use Rattle.depot_model.specs.declared.command.FileArgument.{FileArgument}
use Rattle.depot_model.specs.declared.command.PatternArgument.{PatternArgument}
use Rattle.depot_model.specs.declared.command.Command.{Command}
use Rattle.depot_model.specs.declared.command.Command.TheVariants.{CounterShow, CounterSet, CounterDelete, Counters, ClientShow, ClientSave, LabelShow, LabelSave, GroupShow, GroupSave, ProtectShow, ProtectSave, Where, Add, Edit, Delete, Revert, Reopen, Lock, Unlock, Opened, ChangeSave, ChangeShow, ChangeDelete, Changes, SubmitChange, SubmitDefault, Sync, Have, Tag, LabelSync, Labels, Integrate, Resolve, Integrated, Files, FileLog, Print, Describe, Dirs, FileStat, Checkpoint, Pull, Move, Shelve, ShelveDelete, Unshelve, DescribeShelved, JobShow, JobSave, Jobs, Fix, FixDelete, Fixes}
use Rattle.depot_model.specs.Asking.{to_list, to_read, to_open, to_write, to_super}

pub record About : Type 0 where
  pub word : List ℕ
  pub need : ℕ
  pub needs_client : Bool
  pub files : List FileArgument
  pub patterns : List PatternArgument

abbrev pub entry : List ℕ → ℕ → Bool → List FileArgument → List PatternArgument → About
entry word need needs_client files patterns = record { word = word; need = need; needs_client = needs_client; files = files; patterns = patterns }

abbrev pub about : Command → About
about (CounterShow name) = entry (codes "counter") to_list false [] []
about (CounterSet name value) = entry (codes "counter") to_write false [] []
about (CounterDelete name) = entry (codes "counter") to_write false [] []
about Counters = entry (codes "counters") to_list false [] []
about (ClientShow name) = entry (codes "client") to_list false [] []
about ClientSave = entry (codes "client") to_list false [] []
about (LabelShow name) = entry (codes "label") to_list false [] []
about LabelSave = entry (codes "label") to_open false [] []
about (GroupShow name) = entry (codes "group") to_list false [] []
about GroupSave = entry (codes "group") to_super false [] []
about ProtectShow = entry (codes "protect") to_super false [] []
about ProtectSave = entry (codes "protect") to_super false [] []
about (Where paths) = entry (codes "where") to_list true paths []
about (Add change type paths) = entry (codes "add") to_open true paths []
about (Edit change type files) = entry (codes "edit") to_open true files []
about (Delete change files) = entry (codes "delete") to_open true files []
about (Move change from to) = entry (codes "move") to_open true (from ∷ []) (to ∷ [])
about (Revert change files) = entry (codes "revert") to_open true files []
about (Reopen change type files) = entry (codes "reopen") to_open true files []
about (Lock change files) = entry (codes "lock") to_write true files []
about (Unlock change files) = entry (codes "unlock") to_write true files []
about (Opened all files) = entry (codes "opened") to_list true files []
about ChangeSave = entry (codes "change") to_open true [] []
about (ChangeShow change) = entry (codes "change") to_list true [] []
about (ChangeDelete change) = entry (codes "change") to_open true [] []
about (Changes most status user client files) = entry (codes "changes") to_list false files []
about (SubmitChange change) = entry (codes "submit") to_write true [] []
about (SubmitDefault text) = entry (codes "submit") to_write true [] []
about (Sync again shows files) = entry (codes "sync") to_read true files []
about (Have files) = entry (codes "have") to_list true files []
about (Tag label removes files) = entry (codes "tag") to_open false files []
about (LabelSync label labelling files) = entry (codes "labelsync") to_open true files []
about Labels = entry (codes "labels") to_list false [] []
about (Integrate change from to) = entry (codes "integrate") to_open true (from ∷ []) (to ∷ [])
about (Resolve taking files) = entry (codes "resolve") to_open true files []
about (Integrated files) = entry (codes "integrated") to_list false files []
about (Files live files) = entry (codes "files") to_list false files []
about (FileLog files) = entry (codes "filelog") to_list false files []
about (Print files) = entry (codes "print") to_read false files []
about (Describe change) = entry (codes "describe") to_list false [] []
about (Dirs patterns) = entry (codes "dirs") to_list false patterns []
about (FileStat files) = entry (codes "fstat") to_list false files []
about (Shelve change replaces files) = entry (codes "shelve") to_open true files []
about (ShelveDelete change files) = entry (codes "shelve") to_open true files []
about (Unshelve shelved change files) = entry (codes "unshelve") to_open true files []
about (DescribeShelved change) = entry (codes "describe") to_list false [] []
about (JobShow job) = entry (codes "job") to_list false [] []
about JobSave = entry (codes "job") to_open false [] []
about Jobs = entry (codes "jobs") to_list false [] []
about (Fix change jobs) = entry (codes "fix") to_open false [] []
about (FixDelete change jobs) = entry (codes "fix") to_open false [] []
about (Fixes change job) = entry (codes "fixes") to_list false [] []
about Checkpoint = entry (codes "admin") to_super false [] []
about Pull = entry (codes "pull") to_list false [] []
