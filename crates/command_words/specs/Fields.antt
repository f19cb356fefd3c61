-- The fields that a form takes from the options and the arguments that were given.
use Rattle.std.specs.Prelude.{ℕ, Bool, List, Option, Some, None, Result, Ok}
use Rattle.depot_path.specs.Answers.{◌>>=◌}
use Rattle.depot_model.specs.declared.request.WordFault.{WordFault}
use Rattle.depot_model.specs.declared.command.FileArgument.{FileArgument}
use Rattle.command_words.specs.declared.arguments.Takes.{Takes}
use Rattle.command_words.specs.declared.ends.Ends.{Ends}
use Rattle.command_words.specs.Values.{number, change, name, file_type, text}
use Rattle.command_words.specs.Options.{Invocation, value_of, was_given}
use Rattle.command_words.specs.Arguments as arguments

-- the value of an option, where it was given
abbrev pub optional : {A : Type 0} → (List ℕ → Result A WordFault) → Option (List ℕ) → Result (Option A) WordFault
optional read None = Ok None
optional read (Some word) = do
  value ← read word
  Ok (Some value)

abbrev pub number_option : List ℕ → Invocation → Result (Option ℕ) WordFault
number_option option words = optional (number words.command) (value_of option words.options)

abbrev pub change_option : List ℕ → Invocation → Result (Option ℕ) WordFault
change_option option words = optional (change words.command) (value_of option words.options)

abbrev pub name_option : List ℕ → Invocation → Result (Option (List ℕ)) WordFault
name_option option words = optional (name words.command) (value_of option words.options)

abbrev pub type_option : List ℕ → Invocation → Result (Option (List ℕ)) WordFault
type_option option words = optional (file_type words.command) (value_of option words.options)

abbrev pub text_option : List ℕ → Invocation → Result (Option (List ℕ)) WordFault
text_option option words = optional (text words.command) (value_of option words.options)

-- an option without a value
abbrev pub has : List ℕ → Invocation → Bool
has option words = was_given option words.options

-- an option that the form always has
abbrev pub wanted : {A : Type 0} → Option A → Invocation → Result A WordFault
wanted value words = arguments.wanted words.command value

-- the arguments
abbrev pub files : Takes → Invocation → Result (List FileArgument) WordFault
files takes words = arguments.files words.command takes words.arguments

abbrev pub some_files : Takes → Invocation → Result (List FileArgument) WordFault
some_files takes words = arguments.some_files words.command takes words.arguments

abbrev pub both_ends : Takes → Invocation → Result Ends WordFault
both_ends takes words = arguments.both_ends words.command takes words.arguments

abbrev pub nothing : Invocation → Result (Unit {0}) WordFault
nothing words = arguments.no_word words.command words.arguments
