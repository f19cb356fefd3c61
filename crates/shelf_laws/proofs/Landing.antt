-- In a sound depot no file is kept in a change that landed.
use Rattle.std.proofs.Common.{◌≡◌, ◌≤◌, ◌<◌, ◌^◌, ℕ, Bool, true, false, List, [], ◌∷◌, length, Option, Some, None, inl, refl, sym, ap, subst, ◌∙◌, arith}
use Rattle.std.specs.Prelude.{nat_lt, nat_le, is_some, IsSome, IsSomeAnd, codes, decimal, option_map, option_and_then}
use Rattle.std.specs.List.{list_all}
use Rattle.std.proofs.lemmas.Bool.{and_parts}
use Rattle.depot_model.specs.depot_path.Bytes.{same, is_digit}
use Rattle.depot_model.specs.depot_path.Digits.{number_of, is_digits}
use Rattle.depot_model.specs.depot_path.Path.{printed}
use Rattle.depot_model.specs.db_records.declared.key.Key.TheVariants as keys
use Rattle.depot_model.specs.db_records.declared.record.Record.{Record}
use Rattle.depot_model.specs.spec_form.Form.{FormValue}
use Rattle.depot_model.specs.spec_form.Printing.{printed_form}
use Rattle.depot_model.specs.Arguments.{paths_of}
use Rattle.depot_model.specs.Deeds.{Deed, Landing, Pending, ShelfForm}
use Rattle.depot_model.specs.Latest.{when, spec}
use Rattle.depot_model.specs.Numbers.{pending, landing}
use Rattle.depot_model.specs.Numerals.{is_numeral}
use Rattle.depot_model.specs.Records.{record_of, pending_record, landed_record}
use Rattle.depot_model.specs.Rules.{IsSound, IsShelf, IsPending, shelf_value, shelf_number, top_in}
use Rattle.depot_model.specs.Shelves.{is_kept, is_shelved, kept, kept_paths, shelf_name, shelf_paths}
use Rattle.depot_model.specs.Values.{value_of}
use Rattle.depot_rows.proofs.Entries.{In}
use Rattle.depot_rows.proofs.Keys.{same-is}
use Rattle.depot_facts.proofs.Decimals.{decimal_digits, number_decimal, parts_are}
use Rattle.depot_facts.proofs.Listed.{in_filter}
use Rattle.depot_facts.proofs.Found.{spec_value, saved_shelf}

abbrev change_row : Option Pending → Option Landing → Option Record
change_row p l = elim p [ Some q ↦ Some (pending_record q) | None ↦ option_map landed_record l ]

module _ (d : List Deed) (sound : IsSound d) (n : ℕ) (there : IsSome (landing d n)) where
  abbrev change : Option Record
  change = record_of d (keys.Change n)

  number_there : IsSome change
  number_there = go (pending d n) (landing d n) there
    where
      go : (p : Option Pending) (l : Option Landing) → IsSome l → IsSome (change_row p l)
      go (Some p) l h = refl
      go None (Some l) h = refl
      go None None h = absurd cc

  small : n < 2 ^ 64
  small =
      let low : n ≤ top_in (record_of d) = sound.rules.top_is n number_there in
      let high : top_in (record_of d) ≤ 2147483647 = sound.rules.top_fits in
      omega (arith, low, high)

  not_pending : IsSomeAnd change IsPending → ⊥
  not_pending = go (pending d n) (landing d n) there (λ p. sound.landed_or_pending n p there)
    where
      go : (p : Option Pending) (l : Option Landing) → IsSome l → (IsSome p → ⊥) → IsSomeAnd (change_row p l) IsPending → ⊥
      go (Some p) l h one row = one refl
      go None (Some l) h one row = let e = ap (same (codes "submitted")) row in let no : true ≡ false = e in cc
      go None None h one row = absurd cc

  module _ (path : List ℕ) (form : FormValue) (saved : spec d ShelfForm (shelf_name n path) ≡ Some form) (is : is_kept form ≡ true) where
    abbrev text : List ℕ
    text = printed_form form

    abbrev number : List ℕ
    number = shelf_value (codes "Change") text

    shelf : IsShelf (record_of d) (shelf_name n path) text
    shelf = saved_shelf d sound (shelf_name n path) form saved

    digits : list_all is_digit number ≡ true
    digits = (and_parts (nat_le 1 (length number)) (list_all is_digit number) (and_parts (is_digits number) _ (and_parts (is_numeral number) _ shelf.change).0).0).1

    number_is : shelf_number (codes "Change") text ≡ n
    number_is =
        ap number_of (sym (parts_are (decimal n) number (printed path) (shelf_value (codes "Path") text) (decimal_digits n) digits shelf.named).0) ∙ number_decimal n small

    state_is : shelf_value (codes "State") text ≡ codes "kept"
    state_is = spec_value d sound ShelfForm (shelf_name n path) form saved (codes "State") ∙ same-is (value_of form (codes "State")) (codes "kept") is

    refuted : ⊥
    refuted = not_pending (subst (λ (m : ℕ). IsSomeAnd (record_of d (keys.Change m)) IsPending) number_is (shelf.kept state_is).pending)

  none_kept : (path : List ℕ) → is_some (kept d n path) ≡ true → ⊥
  none_kept path = go (spec d ShelfForm (shelf_name n path)) refl
    where
      by : (form : FormValue) → spec d ShelfForm (shelf_name n path) ≡ Some form → (b : Bool) → is_kept form ≡ b → is_some (when b form) ≡ true → ⊥
      by form e true is h = refuted path form e is
      by form e false is h = absurd cc

      go : (o : Option FormValue) → spec d ShelfForm (shelf_name n path) ≡ o → is_some (option_and_then (λ (form : FormValue). when (is_kept form) form) o) ≡ true → ⊥
      go None e h = absurd cc
      go (Some form) e h = by form e (is_kept form) refl h

pub none_lands : (d : List Deed) → IsSound d → (n : ℕ) → IsSome (landing d n) → is_shelved d n ≡ false
none_lands d sound n there = go (kept_paths d n) (λ path h. none_kept d sound n there path (in_filter (λ path. is_some (kept d n path)) (paths_of (shelf_paths n) d) path h).1)
  where
    go : (paths : List (List ℕ)) → ((path : List ℕ) → In paths path → ⊥) → nat_lt 0 (length paths) ≡ false
    go [] none = refl
    go (path ∷ paths) none = absurd (none path (inl refl))
