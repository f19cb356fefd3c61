-- Printed options are read as they were given.
use Rattle.std.proofs.Common.{◌≡◌, ℕ, Bool, true, false, List, [], ◌∷◌, ◌++◌, Result, Ok, Err, refl, sym, ap, ◌∙◌, append_assoc}
use Rattle.std.specs.Prelude.{◌&&◌, not, map, flat_map, if◌then◌else◌}
use Rattle.std.proofs.lemmas.List.{append-nil}
use Rattle.depot_rows.specs.depot_path.Answers.{◌>>=◌}
use Rattle.depot_rows.specs.depot_model.declared.command.Command.{Command}
use Rattle.depot_rows.specs.depot_model.declared.line.Line.TheVariants.{Words}
use Rattle.depot_rows.specs.depot_model.declared.request.WordFault.{WordFault}
use Rattle.depot_rows.specs.depot_model.declared.request.WordFault.TheVariants.{UnknownCommand}
use Rattle.command_words.specs.Choice.{form_of}
use Rattle.command_words.specs.Options.{Given, Invocation, State, Ready, Waiting, given, invocation, is_option, next_kind, after_option, parted}
use Rattle.command_words.specs.Reading.{form_command, known_command, command_of}
use Rattle.command_words.specs.Table.{table, is_command, takes_value}
use Rattle.command_words.specs.Values.{is_value, no_value}
use Rattle.grammar_laws.specs.CommandText.{OptionText, Flag, Valued, option_words, CommandText, text_of, words_of}
use Rattle.std.proofs.lemmas.Bool.{not-true, and_parts}

-- an option as it is kept
abbrev pub given_by : OptionText → Given
given_by (Flag option) = given option []
given_by (Valued option value) = given option value

-- the command has these options, each may be given behind those before it, and its value is one
abbrev pub can_read : List ℕ → List Given → List OptionText → Bool
can_read command done [] = true
can_read command done (Flag option ∷ options) =
    is_option option && (elim (next_kind command done option) as (λ _. Bool) [ Ok kind ↦ not (takes_value kind) | Err fault ↦ false ])
    && can_read command (done ++ given option [] ∷ []) options
can_read command done (Valued option value ∷ options) =
    is_option option && (elim (next_kind command done option) as (λ _. Bool) [ Ok kind ↦ takes_value kind && is_value kind value | Err fault ↦ false ])
    && can_read command (done ++ given option value ∷ []) options

-- the first argument isn't taken for an option
abbrev pub is_plain : List (List ℕ) → Bool
is_plain [] = true
is_plain (word ∷ words) = not (is_option word)

-- an answer that passes a test
given_ok : {K B : Type 0} (test : K → Bool) (r : Result K WordFault) (f : K → Result B WordFault) (y : Result B WordFault) → (elim r as (λ _. Bool) [ Ok k ↦ test k | Err fault ↦ false ]) ≡ true
    → ((k : K) → test k ≡ true → f k ≡ y) → r >>= f ≡ y
given_ok test (Ok k) f y e goes = goes k e
given_ok test (Err fault) f y e goes = absurd cc

module _ (command : List ℕ) (done : List Given) (option : List ℕ) where
  option_there : (words : List (List ℕ)) → is_option option ≡ true → parted command (Ready done) (option ∷ words) ≡ next_kind command done option >>= (λ kind. parted command (after_option done option kind) words)
  option_there words is =
      ap (λ (b : Bool). elim b as (λ _. Result Invocation WordFault) [
        | false ↦ Ok (invocation command done (option ∷ words))
        | true ↦ next_kind command done option >>= (λ kind. parted command (after_option done option kind) words)
      ]) is

  after_flag : (kind : _) → not (takes_value kind) ≡ true → after_option done option kind ≡ Ready (done ++ given option [] ∷ [])
  after_flag kind e = ap (λ (b : Bool). elim b as (λ _. State) [ false ↦ Ready (done ++ given option [] ∷ []) | true ↦ Waiting option kind done ]) (not-true (takes_value kind) e)

  after_valued : (kind : _) → takes_value kind ≡ true → after_option done option kind ≡ Waiting option kind done
  after_valued kind e = ap (λ (b : Bool). elim b as (λ _. State) [ false ↦ Ready (done ++ given option [] ∷ []) | true ↦ Waiting option kind done ]) e

  flag_read : (words : List (List ℕ)) → (elim (next_kind command done option) as (λ _. Bool) [ Ok kind ↦ not (takes_value kind) | Err fault ↦ false ]) ≡ true
      → next_kind command done option >>= (λ kind. parted command (after_option done option kind) words) ≡ parted command (Ready (done ++ given option [] ∷ [])) words
  flag_read words e =
      given_ok (λ kind. not (takes_value kind)) (next_kind command done option) (λ kind. parted command (after_option done option kind) words) (parted command (Ready (done ++ given option [] ∷ [])) words) e
      (λ kind h. ap (λ (s : State). parted command s words) (after_flag kind h))

  value_read : (value : List ℕ) (words : List (List ℕ)) → (elim (next_kind command done option) as (λ _. Bool) [ Ok kind ↦ takes_value kind && is_value kind value | Err fault ↦ false ]) ≡ true
      → next_kind command done option >>= (λ kind. parted command (after_option done option kind) (value ∷ words)) ≡ parted command (Ready (done ++ given option value ∷ [])) words
  value_read value words e =
      given_ok (λ kind. takes_value kind && is_value kind value) (next_kind command done option) (λ kind. parted command (after_option done option kind) (value ∷ words)) (parted command (Ready (done ++ given option value ∷ [])) words) e
      (λ kind h.
      ap (λ (s : State). parted command s (value ∷ words)) (after_valued kind (and_parts (takes_value kind) (is_value kind value) h).0)
      ∙ ap (λ (b : Bool). (if b then Ok value else Err (no_value kind command)) >>= (λ v. parted command (Ready (done ++ given option v ∷ [])) words)) (and_parts (takes_value kind) (is_value kind value) h).1)

arguments_read : (command : List ℕ) (done : List Given) (arguments : List (List ℕ)) → is_plain arguments ≡ true → parted command (Ready done) arguments ≡ Ok (invocation command done arguments)
arguments_read command done [] plain = refl
arguments_read command done (word ∷ words) plain =
    ap (λ (b : Bool). elim b as (λ _. Result Invocation WordFault) [
      | false ↦ Ok (invocation command done (word ∷ words))
      | true ↦ next_kind command done word >>= (λ kind. parted command (after_option done word kind) words)
    ]) (not-true (is_option word) plain)

options_read : (command : List ℕ) (done : List Given) (options : List OptionText) (arguments : List (List ℕ)) → can_read command done options ≡ true → is_plain arguments ≡ true
    → parted command (Ready done) (flat_map option_words options ++ arguments) ≡ Ok (invocation command (done ++ map given_by options) arguments)
options_read command done [] arguments can plain =
    arguments_read command done arguments plain ∙ ap (λ (g : List Given). Ok (invocation command g arguments)) (sym (append-nil done))
options_read command done (Flag option ∷ options) arguments can plain =
    let words : List (List ℕ) = flat_map option_words options ++ arguments in
    let first = (and_parts _ (can_read command (done ++ given option [] ∷ []) options) can).0 in
    option_there command done option words (and_parts (is_option option) _ first).0
    ∙ (flag_read command done option words (and_parts (is_option option) _ first).1
    ∙ (options_read command (done ++ given option [] ∷ []) options arguments (and_parts _ (can_read command (done ++ given option [] ∷ []) options) can).1 plain
    ∙ ap (λ (g : List Given). Ok (invocation command g arguments)) (append_assoc done (given option [] ∷ []) (map given_by options))))
options_read command done (Valued option value ∷ options) arguments can plain =
    let words : List (List ℕ) = flat_map option_words options ++ arguments in
    let first = (and_parts _ (can_read command (done ++ given option value ∷ []) options) can).0 in
    option_there command done option (value ∷ words) (and_parts (is_option option) _ first).0
    ∙ (value_read command done option value words (and_parts (is_option option) _ first).1
    ∙ (options_read command (done ++ given option value ∷ []) options arguments (and_parts _ (can_read command (done ++ given option value ∷ []) options) can).1 plain
    ∙ ap (λ (g : List Given). Ok (invocation command g arguments)) (append_assoc done (given option value ∷ []) (map given_by options))))

-- ---- a command

abbrev pub given_in : CommandText → Invocation
given_in text = invocation text.word (map given_by text.options) text.arguments

-- the options of a command
abbrev pub options_of : Command → List Given
options_of command = map given_by (text_of command).options

-- what the options and the arguments of a text make
abbrev pub made_of : CommandText → Result Command WordFault
made_of text = form_of text.word (map given_by text.options) text.has_input >>= (λ form. form_command form (given_in text))

-- the words of a command read to it
abbrev pub Reads : Command → Type 0
Reads command = command_of (Words (words_of command)) (text_of command).has_input ≡ Ok command

pub reads : (command : Command) → is_command table (text_of command).word ≡ true → can_read (text_of command).word [] (text_of command).options ≡ true
    → is_plain (text_of command).arguments ≡ true → made_of (text_of command) ≡ Ok command → Reads command
reads command there can plain made =
    let text : CommandText = text_of command in
    let rest : List (List ℕ) = flat_map option_words text.options ++ text.arguments in
    ap (λ (b : Bool). if b then known_command text.word rest text.has_input else Err (UnknownCommand text.word)) there
    ∙ (ap (λ (r : Result Invocation WordFault). r >>= (λ words. form_of text.word words.options text.has_input >>= (λ form. form_command form words))) (options_read text.word [] text.options text.arguments can plain)
    ∙ made)
