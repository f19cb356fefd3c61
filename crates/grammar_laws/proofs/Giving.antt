-- What holds of the arguments that words give.
use Rattle.std.proofs.Common.{◌≡◌, ℕ, ◌≤◌, Bool, true, false, List, [], ◌∷◌, ◌++◌, Some, Result, Ok, Err, refl, sym, ap, ◌∙◌, arith}
use Rattle.std.specs.Prelude.{◌&&◌, not, nat_le}
use Rattle.std.proofs.lemmas.Bool.Decides.{nat_tests}
use Rattle.std.proofs.lemmas.Bool.{and_parts}
use Rattle.depot_rows.specs.depot_path.Answers.{◌>>=◌, on_err}
use Rattle.depot_rows.specs.depot_path.Digits.{number_of, is_digits, is_number as fits}
use Rattle.depot_rows.specs.depot_path.Pattern.{pattern_of}
use Rattle.depot_rows.specs.depot_path.Revision.{file_spec_of}
use Rattle.depot_rows.specs.depot_path.declared.fault.PathFault.{PathFault}
use Rattle.depot_rows.specs.depot_path.declared.file_spec.FileSpec.{FileSpec}
use Rattle.depot_rows.specs.depot_path.declared.piece.Piece.{Piece}
use Rattle.depot_rows.specs.view_map.Specifiers.{same_specifiers}
use Rattle.depot_rows.specs.depot_model.declared.command.FileArgument.{FileArgument}
use Rattle.depot_rows.specs.depot_model.declared.command.PatternArgument.{PatternArgument}
use Rattle.depot_rows.specs.depot_model.declared.request.WordFault.{WordFault}
use Rattle.depot_rows.specs.depot_model.declared.request.WordFault.TheVariants.{BadUsage, BadPath, BadNumber}
use Rattle.command_words.specs.Arguments as spec
use Rattle.command_words.specs.Options.{Invocation, State, Ready, Waiting, given, invocation, is_option, next_kind, after_option, parted}
use Rattle.command_words.specs.Values.{most_value, value, checked}
use Rattle.command_words.proofs.Giving.{Gives, gives, refused, refused_where, given_where, after_it, after_any}
use Rattle.grammar_laws.specs.CommandText.{Spells, AllSpell, SomeSpell, BothSpell}
use Rattle.grammar_laws.proofs.OptionWords.{is_plain}

-- ---- the first argument isn't an option

pub arguments_plain : (command : List ℕ) (state : State) (words : List (List ℕ)) → Gives (λ (i : Invocation). is_plain i.arguments ≡ true) (parted command state words)
arguments_plain command (Ready options) [] = gives _ (invocation command options []) refl
arguments_plain command (Waiting option kind options) [] = refused _ _
arguments_plain command (Ready options) (word ∷ words) = go (is_option word) refl (λ kind. arguments_plain command (after_option options word kind) words)
  where
    go : (b : Bool) → is_option word ≡ b → ((kind : _) → Gives (λ (i : Invocation). is_plain i.arguments ≡ true) (parted command (after_option options word kind) words))
        → Gives (λ (i : Invocation). is_plain i.arguments ≡ true) (elim b as (λ _. Result Invocation WordFault) [
          | false ↦ Ok (invocation command options (word ∷ words))
          | true ↦ next_kind command options word >>= (λ kind. parted command (after_option options word kind) words)
        ])
    go false e later = gives _ (invocation command options (word ∷ words)) (ap not e)
    go true e later = after_any _ (next_kind command options word) _ later
arguments_plain command (Waiting option kind options) (word ∷ words) =
    after_any _ (checked command kind word) _ (λ value. arguments_plain command (Ready (options ++ given option value ∷ [])) words)

-- ---- files

spec_given : (text : List ℕ) → Gives (λ (s : FileSpec). file_spec_of text ≡ Ok s) (spec.file_spec text)
spec_given text = go (file_spec_of text)
  where
    go : (r : Result FileSpec PathFault) → Gives (λ (s : FileSpec). r ≡ Ok s) (on_err (spec.spec_fault text) r)
    go (Ok s) = gives _ s refl
    go (Err fault) = refused _ _

module _ (command : List ℕ) (takes : _) (test : FileSpec → Bool)
    (asks : (given : FileSpec) → (spec.is_range given.wanted && not (spec.takes_ranges takes)) ≡ false → (spec.has_revision given.wanted && not (spec.takes_revision takes)) ≡ false
    → spec.is_pattern_taken takes given.pattern ≡ true → test given ≡ true) where
  fit_given : (text : List ℕ) (given : FileSpec) → Gives (λ (s : FileSpec). (s ≡ given) × (test s ≡ true)) (spec.fit command takes text given)
  fit_given text given =
      refused_where _ (spec.is_range given.wanted && not (spec.takes_ranges takes)) _ _ (λ range.
      refused_where _ (spec.has_revision given.wanted && not (spec.takes_revision takes)) _ _ (λ revision.
      given_where _ (spec.is_pattern_taken takes given.pattern) given _ (λ pattern. (refl, asks given range revision pattern))))

  pub file_given : (text : List ℕ) → Gives (Spells test) (spec.file command takes text)
  file_given text =
      after_it _ (Spells test) (spec.file_spec text) _ (spec_given text) (λ s spells.
      after_it _ (Spells test) (spec.fit command takes text s) _ (fit_given text s) (λ fitting h.
      gives (Spells test) (spec.file_argument text fitting) (record { spells = spells ∙ ap Ok (sym h.0); fits = h.1 })))

  pub files_given : (words : List (List ℕ)) → Gives (AllSpell test) (spec.files command takes words)
  files_given [] = gives (AllSpell test) [] tt
  files_given (word ∷ words) =
      after_it (Spells test) (AllSpell test) (spec.file command takes word) _ (file_given word) (λ first h.
      after_it (AllSpell test) (AllSpell test) (spec.files command takes words) _ (files_given words) (λ others k.
      gives (AllSpell test) (first ∷ others) (h, k)))

  first_given : (word : List ℕ) (words : List (List ℕ)) → Gives (SomeSpell test) (spec.files command takes (word ∷ words))
  first_given word words =
      after_it (Spells test) (SomeSpell test) (spec.file command takes word) _ (file_given word) (λ first h.
      after_it (AllSpell test) (SomeSpell test) (spec.files command takes words) _ (files_given words) (λ others k.
      gives (SomeSpell test) (first ∷ others) (h, k)))

  pub some_given : (words : List (List ℕ)) → Gives (SomeSpell test) (spec.some_files command takes words)
  some_given [] = refused _ _
  some_given (word ∷ words) = first_given word words

-- ---- a source and a target

one_given : {A : Type 0} (P : A → Type 0) (command : List ℕ) (read : List ℕ → Result A WordFault) (words : List (List ℕ)) → ((word : List ℕ) → Gives P (read word)) → Gives P (spec.exactly_one command read words)
one_given P command read [] h = refused _ _
one_given P command read (word ∷ words) h = go (read word) (h word) (spec.no_word command words)
  where
    go : (r : Result _ WordFault) → Gives P r → (n : Result (Unit {0}) WordFault) → Gives P (r >>= (λ v. n >>= (λ none. Ok (Some v))) >>= spec.wanted command)
    go (Ok x) k (Ok u) = gives P x k.value
    go (Ok x) k (Err fault) = refused _ _
    go (Err fault) k n = refused _ _

pattern_given : (text : List ℕ) → Gives (λ (p : List Piece). pattern_of false text ≡ Ok p) (spec.target_pattern text)
pattern_given text = go (pattern_of false text)
  where
    go : (r : Result (List Piece) PathFault) → Gives (λ (p : List Piece). r ≡ Ok p) (on_err (BadPath text) r)
    go (Ok p) = gives _ p refl
    go (Err fault) = refused _ _

abbrev IsTarget : PatternArgument → Type 0
IsTarget to = pattern_of false to.text ≡ Ok to.pattern

target_given : (command : List ℕ) (from : FileArgument) (text : List ℕ) → Gives IsTarget (spec.target command from text)
target_given command from text =
    after_it _ IsTarget (spec.target_pattern text) _ (pattern_given text) (λ pattern h.
    given_where IsTarget (same_specifiers from.spec.pattern pattern) (spec.pattern_argument text pattern) (BadUsage command) (λ same. h))

module _ (command : List ℕ) (takes : _) (test : FileSpec → Bool)
    (asks : (given : FileSpec) → (spec.is_range given.wanted && not (spec.takes_ranges takes)) ≡ false → (spec.has_revision given.wanted && not (spec.takes_revision takes)) ≡ false
    → spec.is_pattern_taken takes given.pattern ≡ true → test given ≡ true) where
  pub ends_given : (words : List (List ℕ)) → Gives (λ given. BothSpell test given.from given.to) (spec.both_ends command takes words)
  ends_given [] = refused _ _
  ends_given (word ∷ words) =
      after_it (Spells test) _ (spec.file command takes word) _ (file_given command takes test asks word) (λ from h.
      after_it IsTarget _ (spec.exactly_one command (spec.target command from) words) _ (one_given IsTarget command (spec.target command from) words (target_given command from)) (λ to k.
      gives _ (record { from = from; to = to }) (h, k)))

-- ---- values of counters

value_given : (command word : List ℕ) → Gives (λ n. n ≤ most_value) (value command word)
value_given command word =
    given_where (λ n. n ≤ most_value) (fits most_value word) (number_of word) (BadNumber command) (λ h. at_most (number_of word) (and_parts (is_digits word) (nat_le (number_of word) most_value) h).1)
  where
    at_most : (n : ℕ) → nat_le n most_value ≡ true → n ≤ most_value
    at_most n e = grind (arith, nat_tests)

pub one_value : (command : List ℕ) (words : List (List ℕ)) → Gives (λ n. n ≤ most_value) (spec.exactly_one command (value command) words)
one_value command words = one_given (λ n. n ≤ most_value) command (value command) words (value_given command)
