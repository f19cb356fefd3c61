-- The words behind a command: options come first, each at most once, in any order, and then arguments. An option's value is the next word
-- (Command-Line Reference, "Commands"; which fault comes first is this project's own choice: that of the first word from the left that has one).
use Rattle.std.specs.Prelude.{ℕ, Bool, true, false, List, [], ◌∷◌, ◌++◌, map, codes, if◌then◌else◌, Option, Some, None, is_some, Result, Ok, Err}
use Rattle.depot_path.specs.Answers.{◌>>=◌}
use Rattle.depot_path.specs.Bytes.{same, begins_with}
use Rattle.depot_model.specs.declared.request.WordFault.{WordFault}
use Rattle.depot_model.specs.declared.request.WordFault.TheVariants.{BadUsage}
use Rattle.command_words.specs.declared.table.ValueKind.{ValueKind}
use Rattle.command_words.specs.declared.options.Given.{Given as CodeGiven}
use Rattle.command_words.specs.declared.options.Next.{Next as CodeNext}
use Rattle.command_words.specs.declared.options.Invocation.{Invocation as CodeInvocation}
use Rattle.command_words.specs.Table.{table, kind_of, takes_value}
use Rattle.command_words.specs.Values.{checked}

-- an option as it was given, with its value, which is empty where it has none
pub record Given : Type 0 where
  pub option : List ℕ
  pub value : List ℕ

abbrev pub given : List ℕ → List ℕ → Given
given option value = record { option = option; value = value }

-- a command as it was given: its word, its options and its arguments
pub record Invocation : Type 0 where
  pub command : List ℕ
  pub options : List Given
  pub arguments : List (List ℕ)

abbrev pub invocation : List ℕ → List Given → List (List ℕ) → Invocation
invocation command options arguments = record { command = command; options = options; arguments = arguments }

-- the value of an option that was given
abbrev pub value_of : List ℕ → List Given → Option (List ℕ)
value_of option [] = None
value_of option (g ∷ options) = if same g.option option then Some g.value else value_of option options

abbrev pub was_given : List ℕ → List Given → Bool
was_given option options = is_some (value_of option options)

abbrev pub is_option : List ℕ → Bool
is_option word = begins_with word (codes "-")

-- what the value of the next option is; it must be one of the command's that wasn't given before
abbrev pub next_kind : List ℕ → List Given → List ℕ → Result ValueKind WordFault
next_kind command options option =
    elim (kind_of table command option) [
      | None ↦ Err (BadUsage command)
      | Some kind ↦ if was_given option options then Err (BadUsage command) else Ok kind
    ]

-- what the next word may be: an option or the first argument, or else the value of an option; behind the options that were given
pub data State : Type 0 where
  Ready : List Given → State
  Waiting : List ℕ → ValueKind → List Given → State

abbrev pub after_option : List Given → List ℕ → ValueKind → State
after_option options option kind = elim (takes_value kind) [ false ↦ Ready (options ++ given option [] ∷ []) | true ↦ Waiting option kind options ]

-- the options and the arguments that words are, or the first fault
abbrev pub parted : List ℕ → State → List (List ℕ) → Result Invocation WordFault
parted command (Ready options) [] = Ok (invocation command options [])
parted command (Waiting option kind options) [] = Err (BadUsage command)
parted command (Ready options) (word ∷ words) =
    elim (is_option word) [
      | false ↦ Ok (invocation command options (word ∷ words))
      | true ↦ next_kind command options word >>= (λ kind. parted command (after_option options word kind) words)
    ]
parted command (Waiting option kind options) (word ∷ words) =
    checked command kind word >>= (λ value. parted command (Ready (options ++ given option value ∷ [])) words)

abbrev pub invocation_of : List ℕ → List (List ℕ) → Result Invocation WordFault
invocation_of command words = parted command (Ready []) words

-- the option with which words begin, and the words behind it
abbrev pub first_option : List (List ℕ) → Option (List ℕ × List (List ℕ))
first_option [] = None
first_option (word ∷ words) = elim (is_option word) [ false ↦ None | true ↦ Some (word, words) ]

-- the next option with its value, and the words behind it
abbrev pub with_value : List ℕ → List ℕ → ValueKind → List (List ℕ) → Result (Given × List (List ℕ)) WordFault
with_value command option kind [] = Err (BadUsage command)
with_value command option kind (word ∷ words) = checked command kind word >>= (λ value. Ok (given option value, words))

abbrev pub option_of_kind : List ℕ → List ℕ → List (List ℕ) → ValueKind → Result (Given × List (List ℕ)) WordFault
option_of_kind command option words kind = elim (takes_value kind) [ false ↦ Ok (given option [], words) | true ↦ with_value command option kind words ]

abbrev pub next_option : List ℕ → List Given → List ℕ → List (List ℕ) → Result (Given × List (List ℕ)) WordFault
next_option command options option words = next_kind command options option >>= option_of_kind command option words

-- what the code keeps, whose words stand behind references
abbrev pub seen_option : CodeGiven → Given
seen_option g = given g.option.now g.value.now

abbrev pub seen_options : List CodeGiven → List Given
seen_options options = map seen_option options

abbrev pub seen_next : CodeNext → Given × List (List ℕ)
seen_next n = (seen_option n.given, n.rest.now)

abbrev pub seen : CodeInvocation → Invocation
seen i = invocation i.command.now (seen_options i.options.items) i.arguments.now
