-- The step that takes shelved files away.
use Rattle.std.proofs.Common.{◌≡◌, ◌≤◌, ◌<◌, ◌^◌, ℕ, Bool, true, false, List, [], ◌∷◌, ◌++◌, length, Option, Some, None, refl, sym, ap, subst, ◌∙◌, arith}
use Rattle.std.specs.Prelude.{◌&&◌, ◌||◌, not, codes, decimal, map, sum, nat_lt, is_some}
use Rattle.depot_rows.specs.depot_path.Bytes.{same}
use Rattle.depot_rows.specs.depot_path.Digits.{number_of}
use Rattle.depot_rows.specs.depot_path.Path.{printed, is_path}
use Rattle.depot_rows.proofs.spec_form.Printed.{good_reads_back}
use Rattle.depot_rows.specs.spec_form.Shapes.{fields_of}
use Rattle.depot_rows.specs.spec_form.declared.shape.Shape.TheVariants.{Shelf}
use Rattle.depot_rows.specs.depot_model.Arguments.{named, names, over_all, no_file}
use Rattle.depot_rows.specs.depot_model.Asking.{to_open}
use Rattle.depot_rows.specs.depot_model.Deeds.{Deed, Spec, ShelfForm, Pending}
use Rattle.depot_rows.specs.depot_model.Numbers.{pending, landing, top}
use Rattle.depot_rows.specs.depot_model.Numerals.{is_numeral}
use Rattle.depot_rows.specs.depot_model.Rules.{IsSound, IsSpelled}
use Rattle.depot_rows.specs.depot_model.Shelves.{shelf_name, kept_paths, gone_form}
use Rattle.depot_rows.specs.depot_model.Step.{Step, after, refuse_if}
use Rattle.depot_rows.specs.depot_model.Steps.Opening.{is_of, change_refusal, right_refusal}
use Rattle.depot_rows.specs.depot_model.Steps.Shelving.{unkeep, within_forms, size_in, shelve_delete, shelf_refusal}
use Rattle.depot_rows.specs.depot_model.Values.{valued}
use Rattle.depot_rows.specs.depot_model.declared.command.FileArgument.{FileArgument}
use Rattle.depot_rows.specs.depot_model.declared.refusal.Refusal.{Refusal}
use Rattle.depot_rows.specs.depot_model.declared.refusal.Refusal.TheVariants.{NoSuchChange, NotYours, OverLimit}
use Rattle.depot_rows.specs.depot_model.declared.refusal.Limit.TheVariants.{Files, Shelf as LimitShelf}
use Rattle.depot_rows.specs.depot_model.declared.request.Caller.{Caller}
use Rattle.depot_rows.proofs.ChangeCounter.{change_of, top_value}
use Rattle.depot_facts.specs.Fields.{is_number_of}
use Rattle.sound_deeds.specs.Keeping.{ShelfKeeps}
use Rattle.sound_deeds.proofs.Whole.{one_sound}
use Rattle.depot_facts.proofs.Fields.{value_back}
use Rattle.depot_facts.proofs.Decimals.{numeral_decimal, number_decimal}
use Rattle.depot_facts.proofs.PathsTold.{kept_are}
use Rattle.depot_facts.proofs.Values.{good_decimal, good_path}
use Rattle.depot_facts.proofs.Spelled.{good_name}
use Rattle.depot_facts.proofs.Steps.{AllOf, all_filtered, unless_all, over_any}

gone_spelled : (n : ℕ) (path : List ℕ) → is_path path ≡ true → IsSpelled ShelfForm (gone_form n path)
unfolding fields_of
gone_spelled n path is = (
  refl,
  good_reads_back Shelf (valued (codes "State") (codes "gone") ∷ valued (codes "Change") (decimal n) ∷ valued (codes "Path") (printed path) ∷ [])
      (good_name (codes "gone") refl, refl, (good_decimal n, refl, (good_path path is, refl, tt))) refl,
)

-- ---- forms of files that are gone

pub record IsGone (d : List Deed) (deed : Deed) : Type 0 where
  pub number : ℕ
  pub path : List ℕ
  pub is : deed ≡ Spec ShelfForm (shelf_name number path) (gone_form number path)
  pub pathed : is_path path ≡ true
  pub fits : number ≤ top d
  pub small : number < 2 ^ 64

gone_keeps : (d : List Deed) (n : ℕ) (path : List ℕ) → is_path path ≡ true → n ≤ top d → n < 2 ^ 64 → ShelfKeeps d (shelf_name n path) (gone_form n path)
gone_keeps d n path is fits small = record {
  path = path;
  is_path = is;
  path_is = value_back (printed path);
  named = sym (λ i. value_back (decimal n) i ++ 0x20 ∷ value_back (printed path) i);
  numbers = λ i. number_true i && (true && (true && true));
  change_is = ap is_numeral (value_back (decimal n)) ∙ numeral_decimal n small;
  change_fits = subst (λ (m : ℕ). m ≤ top d) (sym (ap number_of (value_back (decimal n)) ∙ number_decimal n small)) fits;
  state = refl;
  kept = λ e. absurd (let f = ap (same (codes "gone")) e in cc);
}
  where
    number_true : is_number_of (gone_form n path) (codes "Change") ≡ true
    number_true = or_true _ _ (ap is_numeral (value_back (decimal n)) ∙ numeral_decimal n small)
      where
        or_true : (a b : Bool) → b ≡ true → (a || b) ≡ true
        or_true true b e = refl
        or_true false b e = e

pub gones_sound : (d deeds : List Deed) → IsSound d → AllOf (IsGone d) deeds → IsSound (after d deeds)
gones_sound d [] sound m = sound
gones_sound d (deed ∷ deeds) sound m =
    let n = (m.0).number in
    let path = (m.0).path in
    let first : Deed = Spec ShelfForm (shelf_name n path) (gone_form n path) in
    let here : IsSound (first ∷ d) = one_sound d first sound refl (gone_spelled n path (m.0).pathed, gone_keeps d n path (m.0).pathed (m.0).fits (m.0).small) tt in
    subst (λ (x : Deed). IsSound (after (x ∷ d) deeds)) (sym (m.0).is) (gones_sound (first ∷ d) deeds here (still n path deeds m.1))
  where
    still : (n : ℕ) (path : List ℕ) (xs : List Deed) → AllOf (IsGone d) xs → AllOf (IsGone (Spec ShelfForm (shelf_name n path) (gone_form n path) ∷ d)) xs
    still n path [] k = tt
    still n path (x ∷ xs) k = (
      record {
        number = (k.0).number;
        path = (k.0).path;
        is = (k.0).is;
        pathed = (k.0).pathed;
        fits = (k.0).fits;
        small = (k.0).small;
      },
      still n path xs k.1,
    )

-- ---- shelve -d

module _ (d : List Deed) (sound : IsSound d) (caller : Caller) (n : ℕ) where
  pending_fits : (p : Option Pending) → pending d n ≡ p → (elim p as (λ _. Option Refusal) [ None ↦ Some (NoSuchChange n) | Some q ↦ refuse_if (not (is_of caller q)) (NotYours n) ]) ≡ None
      → (n ≤ top d) × (n < 2 ^ 64)
  pending_fits None e h = absurd cc
  pending_fits (Some p) e h =
      let there : is_some (change_of (pending d n) (landing d n)) ≡ true = ap (λ (o : Option Pending). is_some (change_of o (landing d n))) e in
      let low = (sound.rules).top_is n there in
      let tops = top_value d in
      let most = (sound.rules).top_fits in
      (omega (arith, low, tops), omega (arith, low, most))

  module _ (fits : n ≤ top d) (small : n < 2 ^ 64) where
    gone_one : (path : List ℕ) → is_path path ≡ true → AllOf (IsGone d) (unkeep d caller n path).deeds
    gone_one path is = unless_all (IsGone d) (right_refusal to_open d caller path ∷ []) _
        (λ none. (record { number = n; path = path; is = refl; pathed = is; fits = fits; small = small }, tt))

  forms_within : (step : Step) → AllOf (IsGone d) step.deeds → AllOf (IsGone d) (within_forms step).deeds
  forms_within step h =
      unless_all (IsGone d) (refuse_if (nat_lt 10000 (length step.deeds)) (OverLimit Files) ∷ refuse_if (nat_lt 16777216 (sum (map size_in step.deeds))) (OverLimit LimitShelf) ∷ []) step (λ none. h)

  pub shelve_delete_sound : (files : List FileArgument) → IsSound (after d (shelve_delete d caller n files).deeds)
  shelve_delete_sound files = gones_sound d (shelve_delete d caller n files).deeds sound
      (unless_all (IsGone d) (change_refusal d caller n ∷ shelf_refusal d caller n ∷ []) (within_forms step) (λ none.
      let numbers = pending_fits (pending d n) refl none.0 in
      forms_within step
      (over_any (IsGone d) is_path (named true d caller (kept_paths d n)) (λ _. unkeep d caller n)
      (λ a. all_filtered is_path (names true d caller a.spec) (kept_paths d n) (kept_are d sound.paths n))
      (λ a x is. gone_one numbers.0 numbers.1 x is) no_file (λ a. tt) files)))
    where
      step : Step
      step = over_all (named true d caller (kept_paths d n)) no_file (λ _. unkeep d caller n) files
