-- The commands whose arguments are files, each with its options and arguments in the order of its words (Command-Line Reference, "Commands").
use Rattle.std.specs.Prelude.{codes, Result, Ok}
use Rattle.depot_path.specs.Answers.{◌>>=◌}
use Rattle.depot_model.specs.declared.request.WordFault.{WordFault}
use Rattle.depot_model.specs.declared.command.Command.{Command}
use Rattle.depot_model.specs.declared.command.Command.TheVariants.{Add, Changes, Delete, Dirs, Edit, FileLog, FileStat, Files, Have, Integrate, Integrated, LabelSync, Lock, Move, Opened, Print, Reopen, Resolve, Revert, Shelve, ShelveDelete, Sync, Tag, Unlock, Unshelve, Where}
use Rattle.depot_model.specs.declared.command.Labelling.{Labelling}
use Rattle.depot_model.specs.declared.command.Taking.{Taking}
use Rattle.command_words.specs.declared.arguments.Takes.TheVariants.{Path, Directory, NoRevision, OneRevision, Ranges}
use Rattle.command_words.specs.declared.table.FileForm.{FileForm}
use Rattle.command_words.specs.declared.table.FileForm.TheVariants as forms
use Rattle.command_words.specs.Options.{Invocation}
use Rattle.command_words.specs.Fields.{number_option, change_option, name_option, type_option, text_option, has, wanted, files, some_files, both_ends}

-- `where PATH...`
abbrev pub where_paths : Invocation → Result Command WordFault
where_paths words = do
  paths ← some_files Path words
  Ok (Where paths)

-- `add [-c N] [-t TYPE] PATH...`
abbrev pub add : Invocation → Result Command WordFault
add words = do
  change ← number_option (codes "-c") words
  file_type ← type_option (codes "-t") words
  paths ← some_files Path words
  Ok (Add change file_type paths)

-- `edit [-c N] [-t TYPE] FILE...`
abbrev pub edit : Invocation → Result Command WordFault
edit words = do
  change ← number_option (codes "-c") words
  file_type ← type_option (codes "-t") words
  files ← some_files NoRevision words
  Ok (Edit change file_type files)

-- `delete [-c N] FILE...`
abbrev pub delete : Invocation → Result Command WordFault
delete words = do
  change ← number_option (codes "-c") words
  files ← some_files NoRevision words
  Ok (Delete change files)

-- `move [-c N] FROM TO`
abbrev pub move_files : Invocation → Result Command WordFault
move_files words = do
  change ← number_option (codes "-c") words
  given ← both_ends NoRevision words
  Ok (Move change given.from given.to)

-- `revert [-c N] FILE...`
abbrev pub revert : Invocation → Result Command WordFault
revert words = do
  change ← number_option (codes "-c") words
  files ← some_files NoRevision words
  Ok (Revert change files)

-- `reopen [-c N] [-t TYPE] FILE...`
abbrev pub reopen : Invocation → Result Command WordFault
reopen words = do
  change ← change_option (codes "-c") words
  file_type ← type_option (codes "-t") words
  files ← some_files NoRevision words
  Ok (Reopen change file_type files)

-- `lock [-c N] FILE...`
abbrev pub lock : Invocation → Result Command WordFault
lock words = do
  change ← number_option (codes "-c") words
  files ← some_files NoRevision words
  Ok (Lock change files)

-- `unlock [-c N] FILE...`
abbrev pub unlock : Invocation → Result Command WordFault
unlock words = do
  change ← number_option (codes "-c") words
  files ← some_files NoRevision words
  Ok (Unlock change files)

-- `opened [-a] [FILE...]`
abbrev pub opened : Invocation → Result Command WordFault
opened words = do
  files ← files NoRevision words
  Ok (Opened (has (codes "-a") words) files)

-- `changes [-m N] [-s STATUS] [-u USER] [-c CLIENT] [FILE...]`
abbrev pub changes : Invocation → Result Command WordFault
changes words = do
  most ← number_option (codes "-m") words
  status ← text_option (codes "-s") words
  user ← name_option (codes "-u") words
  client ← name_option (codes "-c") words
  files ← files Ranges words
  Ok (Changes most status user client files)

-- `sync [-f] [-n] [FILE...]`
abbrev pub sync : Invocation → Result Command WordFault
sync words = do
  files ← files OneRevision words
  Ok (Sync (has (codes "-f") words) (has (codes "-n") words) files)

-- `have [FILE...]`
abbrev pub have : Invocation → Result Command WordFault
have words = do
  files ← files NoRevision words
  Ok (Have files)

-- `tag -l LABEL [-d] FILE...`
abbrev pub tag : Invocation → Result Command WordFault
tag words = do
  given ← name_option (codes "-l") words
  label ← wanted given words
  files ← some_files OneRevision words
  Ok (Tag label (has (codes "-d") words) files)

-- `labelsync -l LABEL [-a or -d] [FILE...]`
abbrev pub label_sync : Labelling → Invocation → Result Command WordFault
label_sync labelling words = do
  given ← name_option (codes "-l") words
  label ← wanted given words
  files ← files OneRevision words
  Ok (LabelSync label labelling files)

-- `integrate [-c N] FROM TO`
abbrev pub integrate : Invocation → Result Command WordFault
integrate words = do
  change ← number_option (codes "-c") words
  given ← both_ends Ranges words
  Ok (Integrate change given.from given.to)

-- `resolve -at or -ay [FILE...]`
abbrev pub resolve : Taking → Invocation → Result Command WordFault
resolve taking words = do
  files ← files NoRevision words
  Ok (Resolve taking files)

-- `integrated FILE...`
abbrev pub integrated : Invocation → Result Command WordFault
integrated words = do
  files ← some_files NoRevision words
  Ok (Integrated files)

-- `files [-e] FILE...`
abbrev pub files_shown : Invocation → Result Command WordFault
files_shown words = do
  files ← some_files OneRevision words
  Ok (Files (has (codes "-e") words) files)

-- `filelog FILE...`
abbrev pub file_log : Invocation → Result Command WordFault
file_log words = do
  files ← some_files OneRevision words
  Ok (FileLog files)

-- `print FILE...`
abbrev pub print : Invocation → Result Command WordFault
print words = do
  files ← some_files OneRevision words
  Ok (Print files)

-- `dirs PATTERN...`
abbrev pub dirs : Invocation → Result Command WordFault
dirs words = do
  patterns ← some_files Directory words
  Ok (Dirs patterns)

-- `fstat FILE...`
abbrev pub file_stat : Invocation → Result Command WordFault
file_stat words = do
  files ← some_files OneRevision words
  Ok (FileStat files)

-- `shelve -c N [-f] [FILE...]`
abbrev pub shelve : Invocation → Result Command WordFault
shelve words = do
  given ← number_option (codes "-c") words
  change ← wanted given words
  files ← files NoRevision words
  Ok (Shelve change (has (codes "-f") words) files)

-- `shelve -d -c N [FILE...]`
abbrev pub shelve_delete : Invocation → Result Command WordFault
shelve_delete words = do
  given ← number_option (codes "-c") words
  change ← wanted given words
  files ← files NoRevision words
  Ok (ShelveDelete change files)

-- `unshelve -s N [-c M] [FILE...]`
abbrev pub unshelve : Invocation → Result Command WordFault
unshelve words = do
  given ← number_option (codes "-s") words
  shelved ← wanted given words
  change ← number_option (codes "-c") words
  files ← files NoRevision words
  Ok (Unshelve shelved change files)

abbrev pub file_command : FileForm → Invocation → Result Command WordFault
file_command forms.Where words = where_paths words
file_command forms.Add words = add words
file_command forms.Edit words = edit words
file_command forms.Delete words = delete words
file_command forms.Move words = move_files words
file_command forms.Revert words = revert words
file_command forms.Reopen words = reopen words
file_command forms.Lock words = lock words
file_command forms.Unlock words = unlock words
file_command forms.Opened words = opened words
file_command forms.Changes words = changes words
file_command forms.Sync words = sync words
file_command forms.Have words = have words
file_command forms.Tag words = tag words
file_command (forms.LabelSync labelling) words = label_sync labelling words
file_command forms.Integrate words = integrate words
file_command (forms.Resolve taking) words = resolve taking words
file_command forms.Integrated words = integrated words
file_command forms.Files words = files_shown words
file_command forms.FileLog words = file_log words
file_command forms.Print words = print words
file_command forms.Dirs words = dirs words
file_command forms.FileStat words = file_stat words
file_command forms.Shelve words = shelve words
file_command forms.ShelveDelete words = shelve_delete words
file_command forms.Unshelve words = unshelve words
