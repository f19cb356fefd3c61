-- The end of the words: what the rows say there is what the words ask.
use Rattle.std.proofs.Common.{◌≡◌, ◌∙◌, ◌||◌, ℕ, Bool, cond, not, true, false, refl, sym, ap, ap₂, subst, List, [], ◌∷◌, Option, Some, None, codes, unwrap_or}
use Rattle.std.specs.Prelude.{fold, slice_get}
use Rattle.std.specs.Option.{option_and_then, option_map, option_map_or}
use Rattle.clap.specs.Facts.{explicit_source}
use Rattle.clap.specs.Walk.{Row, all_of, first_of, has_row, with_default, with_values}
use Rattle.clap.specs.Kinds.{Kinds, or_else}
use Rattle.clap.specs.Faults.{check_fault, default_fault, defaults_fault}
use Rattle.clap.specs.Simple.{filled, with_index}
use Rattle.clap.proofs.FaultLemmas.{past}
use Rattle.clap.specs.declared.builder.value_parser.Reading.TheVariants.{AsWritten}
use Rattle.clap.specs.declared.error.kind.ErrorKind.TheVariants as kind
use Rattle.clap.specs.declared.parser.matches.ValueSource.TheVariants.{DefaultValue}
use Rattle.program_words.specs.Commands.{count_rule, mode_rule, name_rule, seed_rule}
use Rattle.program_words.specs.Rows.{job_by_texts, job_in, job_numbered}
use Rattle.program_words.specs.Words.{Job, asked_by, job_with, number_given, number_in}
use Rattle.program_words.proofs.Asking.{Text, no_words, opt_list}
use Rattle.program_words.proofs.Lexing.{rules, top}
use Rattle.program_words.proofs.RowLemmas.{elsewhere, fresh, no_row, row_at, some_row}
use Rattle.program_words.proofs.Settling.{Holds, mode_words, name_words, row_for, said_settled}

-- where there is no fault, what is read is what is asked; where there is one, nothing is asked
abbrev pub Agree : Kinds → Option Job → Option Job → Type 0
Agree [] read asks = read ≡ asks
Agree (k ∷ ks) read asks = asks ≡ None

same_both : {X : Type 0} (b : Bool) (x : X) → cond b x x ≡ x
same_both true x = refl
same_both false x = refl

-- ---- defaults

abbrev default_row : Text → Text → List Row → List Row
default_row id text rows = cond (has_row id rows) rows (with_values id AsWritten DefaultValue (text ∷ []) rows)

default_elsewhere : (id text other : Text) (rows : List Row) → row_at other (with_values id AsWritten DefaultValue (text ∷ []) rows) ≡ row_at other rows
    → row_at other (default_row id text rows) ≡ row_at other rows
default_elsewhere id text other rows same = go (has_row id rows)
  where
    go : (b : Bool) → row_at other (cond b rows (with_values id AsWritten DefaultValue (text ∷ []) rows)) ≡ row_at other rows
    go true = refl
    go false = same

abbrev first_in : Option Row → Option Text
first_in row = option_and_then (λ r. slice_get r.values 0) row

-- an option reads as it is given, or else as its default
default_given : (id text : Text) (rows : List Row) (given : Option Text) → row_at id rows ≡ row_for id (opt_list given)
    → (row_at id rows ≡ None → row_at id (with_values id AsWritten DefaultValue (text ∷ []) rows)
    ≡ Some (record { id = id; values = text ∷ []; count = None; source = Some DefaultValue; reading = AsWritten }))
    → first_in (row_at id (default_row id text rows)) ≡ Some (unwrap_or given text)
default_given id text rows None row new =
    ap (λ (b : Bool). first_in (row_at id (cond b rows (with_values id AsWritten DefaultValue (text ∷ []) rows)))) (no_row id rows row) ∙ ap first_in (new row)
default_given id text rows (Some value) row new =
    ap (λ (b : Bool). first_in (row_at id (cond b rows (with_values id AsWritten DefaultValue (text ∷ []) rows)))) (some_row id rows _ row) ∙ ap first_in row

-- the rows at the end
abbrev pub ended : List Row → List Row
ended rows = fold with_default rows rules

abbrev two_defaults : List Row → List Row
two_defaults rows = default_row (codes "count") (codes "100") (default_row (codes "seed") (codes "1") rows)

ended_is : (rows : List Row) → ended rows ≡ two_defaults rows
ended_is rows =
    let now : List Row = two_defaults rows in
    let mode : with_default now (with_index 1 (filled mode_rule)) ≡ now = same_both (has_row (codes "MODE") now) now in
    ap (λ (rs : List Row). with_default rs (with_index 2 (filled name_rule))) mode ∙ same_both (has_row (codes "NAME") now) now

module _ (rows : List Row) (seed count : Option Text) (plain : List Text) (holds : Holds rows seed count plain) where
  seed_is : first_of (codes "seed") (ended rows) ≡ Some (unwrap_or seed (codes "1"))
  seed_is =
      ap (λ (rs : List Row). first_of (codes "seed") rs) (ended_is rows)
      ∙ (ap first_in (default_elsewhere (codes "count") (codes "100") (codes "seed") (default_row (codes "seed") (codes "1") rows)
      (elsewhere (codes "count") AsWritten DefaultValue (codes "100" ∷ []) (codes "seed") (default_row (codes "seed") (codes "1") rows) refl))
      ∙ default_given (codes "seed") (codes "1") rows seed holds.seed_row (fresh (codes "seed") AsWritten DefaultValue (codes "1" ∷ []) rows refl))

  count_row_is : row_at (codes "count") (default_row (codes "seed") (codes "1") rows) ≡ row_for (codes "count") (opt_list count)
  count_row_is =
      default_elsewhere (codes "seed") (codes "1") (codes "count") rows (elsewhere (codes "seed") AsWritten DefaultValue (codes "1" ∷ []) (codes "count") rows refl) ∙ holds.count_row

  count_is : first_of (codes "count") (ended rows) ≡ Some (unwrap_or count (codes "100"))
  count_is =
      ap (λ (rs : List Row). first_of (codes "count") rs) (ended_is rows)
      ∙ default_given (codes "count") (codes "100") (default_row (codes "seed") (codes "1") rows) count count_row_is
      (fresh (codes "count") AsWritten DefaultValue (codes "100" ∷ []) (default_row (codes "seed") (codes "1") rows) refl)

  -- the rows of the positionals stay
  stays : (id : Text) → row_at id (with_values (codes "seed") AsWritten DefaultValue (codes "1" ∷ []) rows) ≡ row_at id rows
      → row_at id (with_values (codes "count") AsWritten DefaultValue (codes "100" ∷ []) (default_row (codes "seed") (codes "1") rows)) ≡ row_at id (default_row (codes "seed") (codes "1") rows)
      → row_at id (ended rows) ≡ row_at id rows
  stays id by_seed by_count =
      ap (λ (rs : List Row). row_at id rs) (ended_is rows)
      ∙ (default_elsewhere (codes "count") (codes "100") id (default_row (codes "seed") (codes "1") rows) by_count ∙ default_elsewhere (codes "seed") (codes "1") id rows by_seed)

  mode_is : row_at (codes "MODE") (ended rows) ≡ row_for (codes "MODE") (mode_words plain)
  mode_is =
      stays (codes "MODE") (elsewhere (codes "seed") AsWritten DefaultValue (codes "1" ∷ []) (codes "MODE") rows refl)
      (elsewhere (codes "count") AsWritten DefaultValue (codes "100" ∷ []) (codes "MODE") (default_row (codes "seed") (codes "1") rows) refl)
      ∙ holds.mode_row

  name_is : row_at (codes "NAME") (ended rows) ≡ row_for (codes "NAME") (name_words plain)
  name_is =
      stays (codes "NAME") (elsewhere (codes "seed") AsWritten DefaultValue (codes "1" ∷ []) (codes "NAME") rows refl)
      (elsewhere (codes "count") AsWritten DefaultValue (codes "100" ∷ []) (codes "NAME") (default_row (codes "seed") (codes "1") rows) refl)
      ∙ holds.name_row

-- ---- faults

-- no default is refused
pub defaults_pass : (rows : List Row) → defaults_fault rows rules ≡ []
unfolding defaults_fault
defaults_pass rows =
    let a : List Row = with_default rows (with_index 1 (filled seed_rule)) in
    let b : List Row = with_default a (with_index 1 (filled count_rule)) in
    let c : List Row = with_default b (with_index 1 (filled mode_rule)) in
    let four : Kinds = default_fault c (with_index 2 (filled name_rule)) in
    let three : Kinds = default_fault b (with_index 1 (filled mode_rule)) in
    let two : Kinds = default_fault a (with_index 1 (filled count_rule)) in
    let none : Kinds = [] in
    past (default_fault rows (with_index 1 (filled seed_rule))) (or_else two (or_else three (or_else four []))) (same_both (has_row (codes "seed") rows || false) none)
    ∙ (past two (or_else three (or_else four [])) (same_both (has_row (codes "count") a || false) none)
    ∙ (past three (or_else four []) (same_both (has_row (codes "MODE") b || true) none)
    ∙ past four [] (same_both (has_row (codes "NAME") c || true) none)))

abbrev mode_fault : Option Row → Kinds
mode_fault row = cond (not (option_map_or (λ r. explicit_source r.source) row false) || false) (kind.MissingRequiredArgument ∷ []) []

-- ---- what is read

numbers : (least most absent : ℕ) (text : Text) (given : Option Text) → number_in least most text ≡ Some absent
    → number_in least most (unwrap_or given text) ≡ number_given least most absent (opt_list given)
numbers least most absent text None e = e
numbers least most absent text (Some value) e = refl

names_are : (names : List Text) → unwrap_or (option_map (λ r. r.values) (row_for (codes "NAME") names)) [] ≡ names
names_are [] = refl
names_are (name ∷ names) = refl

numbered : (seed count : Option ℕ) (mode : Text) (names : List Text) → job_numbered seed count mode names ≡ job_with seed count (mode ∷ names)
numbered None None mode names = refl
numbered None (Some c) mode names = refl
numbered (Some s) None mode names = refl
numbered (Some s) (Some c) mode names = refl

ends_so : (rows : List Row) (seed count : Option Text) (plain : List Text) → Holds rows seed count plain
    → Agree (check_fault top (ended rows) false) (job_in (ended rows)) (asked_by (said_settled seed count plain))
ends_so rows seed count [] holds =
    let faults : check_fault top (ended rows) false ≡ kind.MissingRequiredArgument ∷ [] = ap mode_fault (mode_is rows seed count [] holds) in
    let P : Kinds → Type 0 = λ f. Agree f (job_in (ended rows)) (asked_by (said_settled seed count [])) in
    subst P (sym faults) (no_words _ _)
ends_so rows seed count (mode ∷ names) holds =
    let faults : check_fault top (ended rows) false ≡ [] = ap mode_fault (mode_is rows seed count (mode ∷ names) holds) in
    let P : Kinds → Type 0 = λ f. Agree f (job_in (ended rows)) (asked_by (said_settled seed count (mode ∷ names))) in
    let word : first_of (codes "MODE") (ended rows) ≡ Some mode = ap first_in (mode_is rows seed count (mode ∷ names) holds) in
    let others : unwrap_or (all_of (codes "NAME") (ended rows)) [] ≡ names =
    ap (λ (o : Option Row). unwrap_or (option_map (λ (r : Row). r.values) o) []) (name_is rows seed count (mode ∷ names) holds) ∙ names_are names in
    let seeds = numbers 0 2147483647 1 (codes "1") seed refl in
    let counts = numbers 1 10000 100 (codes "100") count refl in
    let texts : job_in (ended rows) ≡ job_by_texts (Some (unwrap_or seed (codes "1"))) (Some (unwrap_or count (codes "100"))) (Some mode) names =
    λ i. job_by_texts (seed_is rows seed count (mode ∷ names) holds i) (count_is rows seed count (mode ∷ names) holds i) (word i) (others i) in
    subst P (sym faults) (texts ∙ (ap₂ (λ (s c : Option ℕ). job_numbered s c mode names) seeds counts ∙ numbered _ _ mode names))

-- behind the last word, with nothing pending
pub ends_agree : (rows : List Row) (seed count : Option Text) (plain : List Text) → Holds rows seed count plain
    → Agree (or_else (defaults_fault rows rules) (check_fault top (ended rows) false)) (job_in (ended rows)) (asked_by (said_settled seed count plain))
ends_agree rows seed count plain holds =
    let P : Kinds → Type 0 = λ f. Agree f (job_in (ended rows)) (asked_by (said_settled seed count plain)) in
    subst P (sym (past (defaults_fault rows rules) (check_fault top (ended rows) false) (defaults_pass rows))) (ends_so rows seed count plain holds)
