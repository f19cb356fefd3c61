-- What the arguments and the options of a command are found to be.
use Rattle.std.proofs.Common.{◌≡◌, refl, ℕ, Bool, true, false, ◌&&◌, not, nat_le, List, [], ◌∷◌, Option, Some, None, Result, Ok, if◌then◌else◌}
use Rattle.std.specs.List.{list_all, list_any}
use Rattle.std.specs.Option.{option_map_or}
use Rattle.depot_path.specs.Answers.{◌>>=◌}
use Rattle.depot_path.specs.Digits.{number_of, is_digits, is_number as fits}
use Rattle.depot_path.specs.Fit.{is_specifier}
use Rattle.depot_path.specs.Name.{is_name}
use Rattle.depot_path.specs.declared.file_spec.FileSpec.{FileSpec}
use Rattle.depot_path.specs.declared.revision.Wanted.{Wanted}
use Rattle.depot_path.specs.declared.revision.Wanted.TheVariants.{Head, One, Range}
use Rattle.depot_model.specs.view_map.Specifiers.{same_specifiers}
use Rattle.depot_model.specs.Types.{is_type, printed_type, is_printed_type}
use Rattle.depot_model.specs.WellFormed as formed
use Rattle.depot_model.specs.declared.command.FileArgument.{FileArgument}
use Rattle.depot_model.specs.declared.request.WordFault.{WordFault}
use Rattle.depot_model.specs.declared.request.WordFault.TheVariants.{BadUsage, BadNumber}
use Rattle.command_words.specs.Arguments as spec
use Rattle.command_words.specs.Fields.{optional}
use Rattle.command_words.specs.Values.{most_number, number, change, is_default, name, file_type}
use Rattle.command_words.specs.WellFormed.{is_number}
use Rattle.command_words.specs.declared.arguments.Takes.{Takes}
use Rattle.command_words.specs.declared.arguments.Takes.TheVariants.{Path, NoRevision}
use Rattle.command_words.specs.declared.ends.Ends.{Ends}
use Rattle.command_words.proofs.Giving.{Gives, Passes, both, second_of_both, gives, refused, after_it, after_any, given_where, refused_where, weaker}
use Rattle.command_words.proofs.PrintedTypes.{printed_types}

-- ---- words that are no files

pub numbers : (command word : List ℕ) → Passes is_number (number command word)
numbers command word =
    given_where (λ n. is_number n ≡ true) (fits most_number word) (number_of word) (BadNumber command)
    (λ h. second_of_both (is_digits word) (nat_le (number_of word) most_number) h)

pub changes : (command word : List ℕ) → Passes is_number (change command word)
changes command word = changes_by (is_default word)
  where
    changes_by : (b : Bool) → Passes is_number (if b then Ok 0 else number command word)
    changes_by true = gives _ 0 refl
    changes_by false = numbers command word

pub names : (command word : List ℕ) → Passes is_name (name command word)
names command word = given_where (λ n. is_name n ≡ true) (is_name word) word (BadUsage command) (λ h. h)

pub types : (command word : List ℕ) → Passes is_printed_type (file_type command word)
types command word = given_where (λ t. is_printed_type t ≡ true) (is_type word) (printed_type word) (BadUsage command) (printed_types word)

-- ---- what may be there

pub options : {A : Type 0} (test : A → Bool) (read : List ℕ → Result A WordFault) (value : Option (List ℕ)) →
    ((word : List ℕ) → Passes test (read word)) → Passes (λ (o : Option A). option_map_or test o true) (optional read value)
options test read None h = gives _ None refl
options test read (Some word) h = after_it (λ x. test x ≡ true) _ (read word) _ (h word) (λ x k. gives _ (Some x) k)

pub at_most_one : {A : Type 0} (test : A → Bool) (command : List ℕ) (read : List ℕ → Result A WordFault) (words : List (List ℕ)) →
    ((word : List ℕ) → Passes test (read word)) → Passes (λ (o : Option A). option_map_or test o true) (spec.at_most_one command read words)
at_most_one test command read [] h = gives _ None refl
at_most_one test command read (word ∷ words) h =
    after_it (λ x. test x ≡ true) _ (read word) _ (h word) (λ x k. after_any _ (spec.no_word command words) _ (λ none. gives _ (Some x) k))

pub wanted : {A : Type 0} (test : A → Bool) (command : List ℕ) (value : Option A) → option_map_or test value true ≡ true → Passes test (spec.wanted command value)
wanted test command None h = refused _ _
wanted test command (Some x) h = gives _ x h

pub exactly_one : {A : Type 0} (test : A → Bool) (command : List ℕ) (read : List ℕ → Result A WordFault) (words : List (List ℕ)) →
    ((word : List ℕ) → Passes test (read word)) → Passes test (spec.exactly_one command read words)
exactly_one test command read words h =
    after_it (λ o. option_map_or test o true ≡ true) _ (spec.at_most_one command read words) _ (at_most_one test command read words h) (λ value k. wanted test command value k)

-- ---- files

abbrev pub is_taken : Takes → FileArgument → Bool
is_taken takes argument = spec.is_pattern_taken takes argument.spec.pattern

fits_it : (command : List ℕ) (takes : Takes) (text : List ℕ) (given : FileSpec) → Passes (λ (s : FileSpec). spec.is_pattern_taken takes s.pattern) (spec.fit command takes text given)
fits_it command takes text given =
    refused_where _ (spec.is_range given.wanted && not (spec.takes_ranges takes)) _ _ (λ _.
    refused_where _ (spec.has_revision given.wanted && not (spec.takes_revision takes)) _ _ (λ _.
    given_where _ (spec.is_pattern_taken takes given.pattern) given _ (λ h. h)))

pub files : (command : List ℕ) (takes : Takes) (text : List ℕ) → Passes (is_taken takes) (spec.file command takes text)
files command takes text =
    after_any _ (spec.file_spec text) _ (λ given.
    after_it (λ (s : FileSpec). spec.is_pattern_taken takes s.pattern ≡ true) _ (spec.fit command takes text given) _ (fits_it command takes text given)
    (λ fitting h. gives _ (spec.file_argument text fitting) h))

pub each : {A : Type 0} (test : A → Bool) (read : List ℕ → Result A WordFault) (words : List (List ℕ)) →
    ((word : List ℕ) → Passes test (read word)) → Passes (list_all test) (spec.each read words)
each test read [] h = gives _ [] refl
each test read (word ∷ words) h =
    after_it (λ x. test x ≡ true) _ (read word) _ (h word) (λ first k.
    after_it (λ xs. list_all test xs ≡ true) _ (spec.each read words) _ (each test read words h) (λ others m.
    gives _ (first ∷ others) (both (test first) (list_all test others) k m)))

path_spelled : (command word : List ℕ) → Passes formed.spells_path (spec.file command Path word)
path_spelled command word = weaker _ _ (spec.file command Path word) (λ argument h. second_of_both (not (list_any is_specifier argument.spec.pattern)) _ h) (files command Path word)

pub paths : (command : List ℕ) (words : List (List ℕ)) → Passes (list_all formed.spells_path) (spec.some_files command Path words)
paths command words = after_any _ (spec.some_words command words) _ (λ given. each formed.spells_path (spec.file command Path) given (path_spelled command))

-- arguments that take no revision ask for the head
no_revision : (wanted : Wanted) → (spec.has_revision wanted && true) ≡ false → (elim wanted as (λ _. Bool) [ Head ↦ true | _ ↦ false ]) ≡ true
no_revision Head h = refl
no_revision (One revision) h = absurd cc
no_revision (Range first second) h = absurd cc

abbrev AsksHead : FileSpec → Type 0
AsksHead given = (elim given.wanted as (λ _. Bool) [ Head ↦ true | _ ↦ false ]) ≡ true

fits_head : (command text : List ℕ) (given : FileSpec) → Gives AsksHead (spec.fit command NoRevision text given)
fits_head command text given =
    refused_where AsksHead (spec.is_range given.wanted && true) _ _ (λ _.
    refused_where AsksHead (spec.has_revision given.wanted && true) _ _ (λ none.
    gives AsksHead given (no_revision given.wanted none)))

pub head_asked : (command text : List ℕ) → Passes formed.asks_head (spec.file command NoRevision text)
head_asked command text =
    after_any _ (spec.file_spec text) _ (λ given.
    after_it AsksHead _ (spec.fit command NoRevision text given) _ (fits_head command text given)
    (λ fitting h. gives _ (spec.file_argument text fitting) h))

pub all_heads : (command : List ℕ) (words : List (List ℕ)) → Passes (list_all formed.asks_head) (spec.files command NoRevision words)
all_heads command words = each formed.asks_head (spec.file command NoRevision) words (head_asked command)

pub heads : (command : List ℕ) (words : List (List ℕ)) → Passes (list_all formed.asks_head) (spec.some_files command NoRevision words)
heads command words = after_any _ (spec.some_words command words) _ (all_heads command)

-- ---- a source and a target

abbrev pub AnswerOneAnother : Ends → Type 0
AnswerOneAnother ends = formed.answer_one_another ends.from ends.to ≡ true

targets : (command : List ℕ) (from : FileArgument) (text : List ℕ) → Passes (formed.answer_one_another from) (spec.target command from text)
targets command from text =
    after_any _ (spec.target_pattern text) _ (λ pattern.
    given_where _ (same_specifiers from.spec.pattern pattern) (spec.pattern_argument text pattern) (BadUsage command) (λ h. h))

module _ (Q : FileArgument → Type 0) where
  ends_after : (command : List ℕ) (takes : Takes) (word : List ℕ) (words : List (List ℕ)) → Gives Q (spec.file command takes word)
      → Gives (λ (given : Ends). AnswerOneAnother given × Q given.from) (spec.both_ends command takes (word ∷ words))
  ends_after command takes word words asked =
      after_it Q _ (spec.file command takes word) _ asked (λ from q.
      after_it (λ to. formed.answer_one_another from to ≡ true) _ (spec.exactly_one command (spec.target command from) words) _
      (exactly_one (formed.answer_one_another from) command (spec.target command from) words (targets command from))
      (λ to h. gives _ (record { from = from; to = to }) (h, q)))

pub head_ends : (command : List ℕ) (words : List (List ℕ))
    → Gives (λ (given : Ends). AnswerOneAnother given × (formed.asks_head given.from ≡ true)) (spec.both_ends command NoRevision words)
head_ends command [] = refused _ _
head_ends command (word ∷ words) = ends_after (λ from. formed.asks_head from ≡ true) command NoRevision word words (head_asked command word)

pub ends : (command : List ℕ) (takes : Takes) (words : List (List ℕ)) → Gives AnswerOneAnother (spec.both_ends command takes words)
ends command takes [] = refused _ _
ends command takes (word ∷ words) =
    after_any _ (spec.file command takes word) _ (λ from.
    after_it (λ to. formed.answer_one_another from to ≡ true) _ (spec.exactly_one command (spec.target command from) words) _
    (exactly_one (formed.answer_one_another from) command (spec.target command from) words (targets command from))
    (λ to h. gives AnswerOneAnother (record { from = from; to = to }) h))
