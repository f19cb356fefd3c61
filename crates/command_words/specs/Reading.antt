-- The command that a line spells, or the fault of its first word from the left that has one (Command-Line Reference, "Commands"; that a line
-- begins with `p4` is how the shell calls the client, and the faults are this project's own choice).
use Rattle.std.specs.Prelude.{ℕ, Bool, List, [], ◌∷◌, codes, if◌then◌else◌, Result, Err}
use Rattle.depot_path.specs.Answers.{◌>>=◌}
use Rattle.depot_path.specs.Bytes.{same}
use Rattle.depot_model.specs.declared.line.Line.{Line}
use Rattle.depot_model.specs.declared.line.Line.TheVariants.{Words, Bad}
use Rattle.depot_model.specs.declared.request.WordFault.{WordFault}
use Rattle.depot_model.specs.declared.request.WordFault.TheVariants.{UnknownCommand, BadUsage}
use Rattle.depot_model.specs.declared.command.Command.{Command}
use Rattle.command_words.specs.declared.table.Form.{Form}
use Rattle.command_words.specs.declared.table.Form.TheVariants as forms
use Rattle.command_words.specs.Table.{table, is_command}
use Rattle.command_words.specs.Options.{Invocation, invocation_of}
use Rattle.command_words.specs.Choice.{form_of}
use Rattle.command_words.specs.FileForms.{file_command}
use Rattle.command_words.specs.WordForms.{bare_command, word_command}

abbrev pub form_command : Form → Invocation → Result Command WordFault
form_command (forms.Bare form) words = bare_command form words
form_command (forms.Files form) words = file_command form words
form_command (forms.Words form) words = word_command form words

-- a command of the table: its options, then the form that they choose and its input block, then its arguments
abbrev pub known_command : List ℕ → List (List ℕ) → Bool → Result Command WordFault
known_command command rest has_input = do
  words ← invocation_of command rest
  form ← form_of command words.options has_input
  form_command form words

-- the words behind `p4`
abbrev pub command_of_words : List (List ℕ) → Bool → Result Command WordFault
command_of_words [] has_input = Err (BadUsage [])
command_of_words (command ∷ rest) has_input =
    if is_command table command then known_command command rest has_input else Err (UnknownCommand command)

abbrev pub command_of_line : List (List ℕ) → Bool → Result Command WordFault
command_of_line [] has_input = Err (BadUsage [])
command_of_line (program ∷ words) has_input =
    if same program (codes "p4") then command_of_words words has_input else Err (UnknownCommand program)

abbrev pub command_of : Line → Bool → Result Command WordFault
command_of (Words words) has_input = command_of_line words has_input
command_of Bad has_input = Err (BadUsage [])
