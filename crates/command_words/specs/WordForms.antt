-- The other commands, each with its options and arguments in the order of its words (Command-Line Reference, "Commands").
use Rattle.std.specs.Prelude.{ℕ, Bool, ◌||◌, List, [], ◌∷◌, codes, if◌then◌else◌, Result, Ok, Err}
use Rattle.depot_path.specs.Answers.{◌>>=◌}
use Rattle.depot_path.specs.Bytes.{same}
use Rattle.depot_model.specs.declared.request.WordFault.{WordFault}
use Rattle.depot_model.specs.declared.request.WordFault.TheVariants.{BadUsage}
use Rattle.depot_model.specs.declared.command.Command.{Command}
use Rattle.depot_model.specs.declared.command.Command.TheVariants as commands
use Rattle.command_words.specs.declared.table.BareForm.{BareForm}
use Rattle.command_words.specs.declared.table.BareForm.TheVariants as bare
use Rattle.command_words.specs.declared.table.WordForm.{WordForm}
use Rattle.command_words.specs.declared.table.WordForm.TheVariants as forms
use Rattle.command_words.specs.Arguments.{no_word, some_words, at_most_one, exactly_one}
use Rattle.command_words.specs.Options.{Invocation}
use Rattle.command_words.specs.Fields.{number_option, text_option, wanted, nothing}
use Rattle.command_words.specs.Values.{number, value, name, text}

-- ---- a command of its word and options alone

abbrev pub bare_made : BareForm → Command
bare_made bare.Counters = commands.Counters
bare_made bare.ClientSave = commands.ClientSave
bare_made bare.LabelSave = commands.LabelSave
bare_made bare.GroupSave = commands.GroupSave
bare_made bare.ProtectShow = commands.ProtectShow
bare_made bare.ProtectSave = commands.ProtectSave
bare_made bare.ChangeSave = commands.ChangeSave
bare_made bare.Labels = commands.Labels
bare_made bare.JobSave = commands.JobSave
bare_made bare.Jobs = commands.Jobs
bare_made bare.Pull = commands.Pull

abbrev pub bare_command : BareForm → Invocation → Result Command WordFault
bare_command form words = do
  none ← nothing words
  Ok (bare_made form)

-- ---- counters

-- the counters that the program keeps, and no command sets
abbrev pub is_kept : List ℕ → Bool
is_kept word = same word (codes "change") || same word (codes "journal")

abbrev pub free_name : List ℕ → List ℕ → Result (List ℕ) WordFault
free_name command word = if is_kept word then Err (BadUsage command) else name command word

abbrev pub counter_show : List ℕ → List ℕ → Result Command WordFault
counter_show command word = do
  name ← name command word
  Ok (commands.CounterShow name)

abbrev pub counter_set : List ℕ → List ℕ → List (List ℕ) → Result Command WordFault
counter_set command word values = do
  name ← free_name command word
  value ← exactly_one command (value command) values
  Ok (commands.CounterSet name value)

-- `counter NAME` and `counter NAME VALUE`
abbrev pub counter_of : List ℕ → List ℕ → List (List ℕ) → Result Command WordFault
counter_of command word [] = counter_show command word
counter_of command word (value ∷ words) = counter_set command word (value ∷ words)

abbrev pub counter_words : List ℕ → List (List ℕ) → Result Command WordFault
counter_words command [] = Err (BadUsage command)
counter_words command (word ∷ words) = counter_of command word words

abbrev pub counter : Invocation → Result Command WordFault
counter words = counter_words words.command words.arguments

-- `counter -d NAME`
abbrev pub counter_delete : Invocation → Result Command WordFault
counter_delete words = do
  name ← exactly_one words.command (free_name words.command) words.arguments
  Ok (commands.CounterDelete name)

-- ---- clients, labels and groups

-- `client -o [NAME]`
abbrev pub client_show : Invocation → Result Command WordFault
client_show words = do
  name ← at_most_one words.command (name words.command) words.arguments
  Ok (commands.ClientShow name)

-- `label -o NAME`
abbrev pub label_show : Invocation → Result Command WordFault
label_show words = do
  name ← exactly_one words.command (name words.command) words.arguments
  Ok (commands.LabelShow name)

-- `group -o NAME`
abbrev pub group_show : Invocation → Result Command WordFault
group_show words = do
  name ← exactly_one words.command (name words.command) words.arguments
  Ok (commands.GroupShow name)

-- ---- changes

-- `change -o [N]`
abbrev pub change_show : Invocation → Result Command WordFault
change_show words = do
  change ← at_most_one words.command (number words.command) words.arguments
  Ok (commands.ChangeShow change)

-- `change -d N`
abbrev pub change_delete : Invocation → Result Command WordFault
change_delete words = do
  given ← number_option (codes "-d") words
  change ← wanted given words
  none ← nothing words
  Ok (commands.ChangeDelete change)

-- `submit -c N`
abbrev pub submit_change : Invocation → Result Command WordFault
submit_change words = do
  given ← number_option (codes "-c") words
  change ← wanted given words
  none ← nothing words
  Ok (commands.SubmitChange change)

-- `submit -d TEXT`
abbrev pub submit_default : Invocation → Result Command WordFault
submit_default words = do
  given ← text_option (codes "-d") words
  text ← wanted given words
  none ← nothing words
  Ok (commands.SubmitDefault text)

-- `describe -s N`
abbrev pub describe : Invocation → Result Command WordFault
describe words = do
  given ← number_option (codes "-s") words
  change ← wanted given words
  none ← nothing words
  Ok (commands.Describe change)

-- `describe -S N`
abbrev pub describe_shelved : Invocation → Result Command WordFault
describe_shelved words = do
  given ← number_option (codes "-S") words
  change ← wanted given words
  none ← nothing words
  Ok (commands.DescribeShelved change)

-- ---- jobs, of which any word may be the name

-- `job -o [JOB]`
abbrev pub job_show : Invocation → Result Command WordFault
job_show words = do
  job ← at_most_one words.command (text words.command) words.arguments
  Ok (commands.JobShow job)

-- `fix -c N JOB...`
abbrev pub fix : Invocation → Result Command WordFault
fix words = do
  given ← number_option (codes "-c") words
  change ← wanted given words
  jobs ← some_words words.command words.arguments
  Ok (commands.Fix change jobs)

-- `fix -d -c N JOB...`
abbrev pub fix_delete : Invocation → Result Command WordFault
fix_delete words = do
  given ← number_option (codes "-c") words
  change ← wanted given words
  jobs ← some_words words.command words.arguments
  Ok (commands.FixDelete change jobs)

-- `fixes [-c N] [-j JOB]`
abbrev pub fixes : Invocation → Result Command WordFault
fixes words = do
  change ← number_option (codes "-c") words
  job ← text_option (codes "-j") words
  none ← nothing words
  Ok (commands.Fixes change job)

-- ---- the server

abbrev pub checkpoint : List ℕ → List ℕ → List (List ℕ) → Result Command WordFault
checkpoint command word rest = if same word (codes "checkpoint") then (no_word command rest >>= (λ none. Ok commands.Checkpoint)) else Err (BadUsage command)

-- `admin checkpoint`
abbrev pub admin_words : List ℕ → List (List ℕ) → Result Command WordFault
admin_words command [] = Err (BadUsage command)
admin_words command (word ∷ rest) = checkpoint command word rest

abbrev pub admin : Invocation → Result Command WordFault
admin words = admin_words words.command words.arguments

abbrev pub word_command : WordForm → Invocation → Result Command WordFault
word_command forms.Counter words = counter words
word_command forms.CounterDelete words = counter_delete words
word_command forms.ClientShow words = client_show words
word_command forms.LabelShow words = label_show words
word_command forms.GroupShow words = group_show words
word_command forms.ChangeShow words = change_show words
word_command forms.ChangeDelete words = change_delete words
word_command forms.SubmitChange words = submit_change words
word_command forms.SubmitDefault words = submit_default words
word_command forms.Describe words = describe words
word_command forms.DescribeShelved words = describe_shelved words
word_command forms.JobShow words = job_show words
word_command forms.Fix words = fix words
word_command forms.FixDelete words = fix_delete words
word_command forms.Fixes words = fixes words
word_command forms.Admin words = admin words
