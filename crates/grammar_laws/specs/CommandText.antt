-- The words of a command: `p4`, the command's word, its options, and its arguments (Command-Line Reference, each command's syntax). Where a command
-- may be given in several ways this is one of them: options stand in the order of the reference, and numbers have no leading zeros.
use Rattle.std.specs.Prelude.{◌≡◌, ◌≤◌, ℕ, Bool, true, false, not, ◌&&◌, List, [], ◌∷◌, ◌++◌, map, flat_map, codes, decimal, option_map, Option, Some, None, Ok}
use Rattle.std.specs.List.{list_any}
use Rattle.depot_rows.specs.depot_path.Pattern.{pattern_of}
use Rattle.depot_rows.specs.depot_path.Revision.{file_spec_of}
use Rattle.depot_rows.specs.depot_path.declared.file_spec.FileSpec.{FileSpec}
use Rattle.depot_rows.specs.depot_model.declared.command.Command.{Command}
use Rattle.depot_rows.specs.depot_model.declared.command.Command.TheVariants as commands
use Rattle.depot_rows.specs.depot_model.declared.command.FileArgument.{FileArgument}
use Rattle.depot_rows.specs.depot_model.declared.command.PatternArgument.{PatternArgument}
use Rattle.depot_rows.specs.depot_model.declared.command.Labelling.{Labelling}
use Rattle.depot_rows.specs.depot_model.declared.command.Labelling.TheVariants.{Exact, Adding, Removing}
use Rattle.depot_rows.specs.depot_model.declared.command.Taking.{Taking}
use Rattle.depot_rows.specs.depot_model.declared.command.Taking.TheVariants.{Theirs, Yours}
use Rattle.depot_rows.specs.depot_model.declared.line.Line.{Line}
use Rattle.depot_rows.specs.depot_model.declared.line.Line.TheVariants.{Words}
use Rattle.command_words.specs.Arguments.{has_revision, is_range, spells_path, is_dots}
use Rattle.command_words.specs.Options.{is_option}
use Rattle.command_words.specs.Reading.{command_of}
use Rattle.command_words.specs.Values.{most_value}
use Rattle.command_words.specs.WellFormed.{IsWellFormed}

-- ---- the words of a command

-- an option alone, or with its value
pub data OptionText : Type 0 where
  Flag : List ℕ → OptionText
  Valued : List ℕ → List ℕ → OptionText

abbrev pub option_words : OptionText → List (List ℕ)
option_words (Flag option) = option ∷ []
option_words (Valued option value) = option ∷ value ∷ []

-- an option that is given or not
abbrev pub flag_if : List ℕ → Bool → List OptionText
flag_if option true = Flag option ∷ []
flag_if option false = []

-- an option whose value is given or not
abbrev pub value_if : List ℕ → Option (List ℕ) → List OptionText
value_if option None = []
value_if option (Some value) = Valued option value ∷ []

abbrev pub number_if : List ℕ → Option ℕ → List OptionText
number_if option n = value_if option (option_map decimal n)

abbrev pub number : List ℕ → ℕ → OptionText
number option n = Valued option (decimal n)

-- a word that may be there
abbrev pub word_if : Option (List ℕ) → List (List ℕ)
word_if None = []
word_if (Some word) = word ∷ []

abbrev pub texts : List FileArgument → List (List ℕ)
texts files = map (λ (f : FileArgument). f.text) files

-- how a command is given: its word, its options, its arguments, and whether an input block belongs to it
pub record CommandText : Type 0 where
  pub word : List ℕ
  pub options : List OptionText
  pub arguments : List (List ℕ)
  pub has_input : Bool

abbrev pub given : List ℕ → List OptionText → List (List ℕ) → CommandText
given word options arguments = record { word = word; options = options; arguments = arguments; has_input = false }

-- a command with `-i`, which takes what its input block holds
abbrev pub saved : List ℕ → CommandText
saved word = record { word = word; options = Flag (codes "-i") ∷ []; arguments = []; has_input = true }

-- the option of a form that shows
abbrev pub shown : List OptionText
shown = Flag (codes "-o") ∷ []

abbrev pub labelling_flags : Labelling → List OptionText
labelling_flags Exact = []
labelling_flags Adding = Flag (codes "-a") ∷ []
labelling_flags Removing = Flag (codes "-d") ∷ []

abbrev pub taking_flag : Taking → OptionText
taking_flag Theirs = Flag (codes "-at")
taking_flag Yours = Flag (codes "-ay")

abbrev pub text_of : Command → CommandText
text_of (commands.CounterShow name) = given (codes "counter") [] (name ∷ [])
text_of (commands.CounterSet name value) = given (codes "counter") [] (name ∷ decimal value ∷ [])
text_of (commands.CounterDelete name) = given (codes "counter") (Flag (codes "-d") ∷ []) (name ∷ [])
text_of commands.Counters = given (codes "counters") [] []
text_of (commands.ClientShow name) = given (codes "client") shown (word_if name)
text_of commands.ClientSave = saved (codes "client")
text_of (commands.LabelShow name) = given (codes "label") shown (name ∷ [])
text_of commands.LabelSave = saved (codes "label")
text_of (commands.GroupShow name) = given (codes "group") shown (name ∷ [])
text_of commands.GroupSave = saved (codes "group")
text_of commands.ProtectShow = given (codes "protect") shown []
text_of commands.ProtectSave = saved (codes "protect")
text_of (commands.Where paths) = given (codes "where") [] (texts paths)
text_of (commands.Add change type paths) = given (codes "add") (number_if (codes "-c") change ++ value_if (codes "-t") type) (texts paths)
text_of (commands.Edit change type files) = given (codes "edit") (number_if (codes "-c") change ++ value_if (codes "-t") type) (texts files)
text_of (commands.Delete change files) = given (codes "delete") (number_if (codes "-c") change) (texts files)
text_of (commands.Move change from to) = given (codes "move") (number_if (codes "-c") change) (from.text ∷ to.text ∷ [])
text_of (commands.Revert change files) = given (codes "revert") (number_if (codes "-c") change) (texts files)
text_of (commands.Reopen change type files) = given (codes "reopen") (number_if (codes "-c") change ++ value_if (codes "-t") type) (texts files)
text_of (commands.Lock change files) = given (codes "lock") (number_if (codes "-c") change) (texts files)
text_of (commands.Unlock change files) = given (codes "unlock") (number_if (codes "-c") change) (texts files)
text_of (commands.Opened all files) = given (codes "opened") (flag_if (codes "-a") all) (texts files)
text_of commands.ChangeSave = saved (codes "change")
text_of (commands.ChangeShow change) = given (codes "change") shown (word_if (option_map decimal change))
text_of (commands.ChangeDelete change) = given (codes "change") (number (codes "-d") change ∷ []) []
text_of (commands.Changes most status user client files) =
    given (codes "changes") (number_if (codes "-m") most ++ value_if (codes "-s") status ++ value_if (codes "-u") user ++ value_if (codes "-c") client) (texts files)
text_of (commands.SubmitChange change) = given (codes "submit") (number (codes "-c") change ∷ []) []
text_of (commands.SubmitDefault text) = given (codes "submit") (Valued (codes "-d") text ∷ []) []
text_of (commands.Sync again shows files) = given (codes "sync") (flag_if (codes "-f") again ++ flag_if (codes "-n") shows) (texts files)
text_of (commands.Have files) = given (codes "have") [] (texts files)
text_of (commands.Tag label removes files) = given (codes "tag") (Valued (codes "-l") label ∷ flag_if (codes "-d") removes) (texts files)
text_of (commands.LabelSync label labelling files) = given (codes "labelsync") (Valued (codes "-l") label ∷ labelling_flags labelling) (texts files)
text_of commands.Labels = given (codes "labels") [] []
text_of (commands.Integrate change from to) = given (codes "integrate") (number_if (codes "-c") change) (from.text ∷ to.text ∷ [])
text_of (commands.Resolve taking files) = given (codes "resolve") (taking_flag taking ∷ []) (texts files)
text_of (commands.Integrated files) = given (codes "integrated") [] (texts files)
text_of (commands.Files live files) = given (codes "files") (flag_if (codes "-e") live) (texts files)
text_of (commands.FileLog files) = given (codes "filelog") [] (texts files)
text_of (commands.Print files) = given (codes "print") [] (texts files)
text_of (commands.Describe change) = given (codes "describe") (number (codes "-s") change ∷ []) []
text_of (commands.Dirs patterns) = given (codes "dirs") [] (texts patterns)
text_of (commands.FileStat files) = given (codes "fstat") [] (texts files)
text_of (commands.Shelve change replaces files) = given (codes "shelve") (number (codes "-c") change ∷ flag_if (codes "-f") replaces) (texts files)
text_of (commands.ShelveDelete change files) = given (codes "shelve") (Flag (codes "-d") ∷ number (codes "-c") change ∷ []) (texts files)
text_of (commands.Unshelve shelved change files) = given (codes "unshelve") (number (codes "-s") shelved ∷ number_if (codes "-c") change) (texts files)
text_of (commands.DescribeShelved change) = given (codes "describe") (number (codes "-S") change ∷ []) []
text_of (commands.JobShow job) = given (codes "job") shown (word_if job)
text_of commands.JobSave = saved (codes "job")
text_of commands.Jobs = given (codes "jobs") [] []
text_of (commands.Fix change jobs) = given (codes "fix") (number (codes "-c") change ∷ []) jobs
text_of (commands.FixDelete change jobs) = given (codes "fix") (Flag (codes "-d") ∷ number (codes "-c") change ∷ []) jobs
text_of (commands.Fixes change job) = given (codes "fixes") (number_if (codes "-c") change ++ value_if (codes "-j") job) []
text_of commands.Checkpoint = given (codes "admin") [] (codes "checkpoint" ∷ [])
text_of commands.Pull = given (codes "pull") [] []

abbrev pub words_of : Command → List (List ℕ)
words_of command = codes "p4" ∷ (text_of command).word ∷ (flat_map option_words (text_of command).options ++ (text_of command).arguments)

-- ---- which commands can be given

-- what a file argument may ask for
abbrev pub asks_head : FileSpec → Bool
asks_head spec = not (has_revision spec.wanted)

abbrev pub asks_no_range : FileSpec → Bool
asks_no_range spec = not (is_range spec.wanted)

abbrev pub asks_any : FileSpec → Bool
asks_any spec = true

abbrev pub asks_path : FileSpec → Bool
asks_path spec = asks_head spec && spells_path spec.pattern

abbrev pub asks_folder : FileSpec → Bool
asks_folder spec = asks_head spec && not (list_any is_dots spec.pattern)

-- the text of a file argument spells what it is kept as, and that is what the command takes
pub record Spells (takes : FileSpec → Bool) (argument : FileArgument) : Type 0 where
  pub spells : file_spec_of argument.text ≡ Ok argument.spec
  pub fits : takes argument.spec ≡ true

abbrev pub AllSpell : (FileSpec → Bool) → List FileArgument → Type 0
AllSpell takes [] = Unit {0}
AllSpell takes (argument ∷ arguments) = Spells takes argument × AllSpell takes arguments

-- one file or more
abbrev pub SomeSpell : (FileSpec → Bool) → List FileArgument → Type 0
SomeSpell takes [] = ⊥
SomeSpell takes (argument ∷ arguments) = AllSpell takes (argument ∷ arguments)

-- a source and a target
abbrev pub BothSpell : (FileSpec → Bool) → FileArgument → PatternArgument → Type 0
BothSpell takes from to = Spells takes from × (pattern_of false to.text ≡ Ok to.pattern)

-- one job or more, of which the first isn't taken for an option
abbrev pub AreJobs : List (List ℕ) → Type 0
AreJobs [] = ⊥
AreJobs (job ∷ jobs) = is_option job ≡ false

-- the texts of a command's arguments spell them, there is one where the command wants one, and a value is as small as words spell it
abbrev pub IsSpelled : Command → Type 0
IsSpelled (commands.CounterSet name value) = value ≤ most_value
IsSpelled (commands.Where paths) = SomeSpell asks_path paths
IsSpelled (commands.Add change type paths) = SomeSpell asks_path paths
IsSpelled (commands.Edit change type files) = SomeSpell asks_head files
IsSpelled (commands.Delete change files) = SomeSpell asks_head files
IsSpelled (commands.Move change from to) = BothSpell asks_head from to
IsSpelled (commands.Revert change files) = SomeSpell asks_head files
IsSpelled (commands.Reopen change type files) = SomeSpell asks_head files
IsSpelled (commands.Lock change files) = SomeSpell asks_head files
IsSpelled (commands.Unlock change files) = SomeSpell asks_head files
IsSpelled (commands.Opened all files) = AllSpell asks_head files
IsSpelled (commands.Changes most status user client files) = AllSpell asks_any files
IsSpelled (commands.Sync again shows files) = AllSpell asks_no_range files
IsSpelled (commands.Have files) = AllSpell asks_head files
IsSpelled (commands.Tag label removes files) = SomeSpell asks_no_range files
IsSpelled (commands.LabelSync label labelling files) = AllSpell asks_no_range files
IsSpelled (commands.Integrate change from to) = BothSpell asks_any from to
IsSpelled (commands.Resolve taking files) = AllSpell asks_head files
IsSpelled (commands.Integrated files) = SomeSpell asks_head files
IsSpelled (commands.Files live files) = SomeSpell asks_no_range files
IsSpelled (commands.FileLog files) = SomeSpell asks_no_range files
IsSpelled (commands.Print files) = SomeSpell asks_no_range files
IsSpelled (commands.Dirs patterns) = SomeSpell asks_folder patterns
IsSpelled (commands.FileStat files) = SomeSpell asks_no_range files
IsSpelled (commands.Shelve change replaces files) = AllSpell asks_head files
IsSpelled (commands.ShelveDelete change files) = AllSpell asks_head files
IsSpelled (commands.Unshelve shelved change files) = AllSpell asks_head files
IsSpelled (commands.JobShow None) = Unit {0}
IsSpelled (commands.JobShow (Some job)) = is_option job ≡ false
IsSpelled (commands.Fix change jobs) = AreJobs jobs
IsSpelled (commands.FixDelete change jobs) = AreJobs jobs
IsSpelled _ = Unit {0}

-- the words of a well-formed command whose arguments are spelled by their texts read to it
abbrev pub CommandsHaveWords : Type 0
CommandsHaveWords = (command : Command) → IsWellFormed command → IsSpelled command → command_of (Words (words_of command)) (text_of command).has_input ≡ Ok command

-- each command that a line spells is spelled by the texts of its arguments
abbrev pub LinesSpellCommands : Type 0
LinesSpellCommands = (line : Line) (has_input : Bool) (command : Command) → command_of line has_input ≡ Ok command → IsSpelled command

-- a command that some line spells is spelled by its own words
abbrev pub OwnWordsSuffice : Type 0
OwnWordsSuffice =
    (line : Line) (has_input : Bool) (command : Command) → command_of line has_input ≡ Ok command → command_of (Words (words_of command)) (text_of command).has_input ≡ Ok command
