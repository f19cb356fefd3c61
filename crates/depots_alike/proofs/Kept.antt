-- The files that are kept in a shelf, of sound depots with the same rows.
use Rattle.std.proofs.Common.{◌≡◌, ℕ, true, false, List, [], ◌∷◌, length, Option, Some, None, refl, sym, ap, ◌∙◌}
use Rattle.std.specs.Prelude.{◌||◌, is_some, nat_lt, option_and_then}
use Rattle.std.specs.List.{list_all}
use Rattle.std.proofs.lemmas.Bool.{true≢false, and_parts}
use Rattle.depot_rows.specs.depot_path.Bytes.{same}
use Rattle.depot_rows.specs.depot_path.Path.{is_path}
use Rattle.depot_rows.specs.spec_form.Form.{FormValue}
use Rattle.depot_rows.specs.depot_model.Arguments.{paths_of}
use Rattle.depot_rows.specs.depot_model.Deeds.{Deed, ShelfForm}
use Rattle.depot_rows.specs.depot_model.Latest.{when, spec}
use Rattle.depot_rows.specs.depot_model.Rules.{IsSound}
use Rattle.depot_rows.specs.depot_model.Shelves.{shelf_name, is_kept, kept, shelf_paths, kept_paths, is_shelved}
use Rattle.depot_rows.proofs.Keys.{same-self}
use Rattle.depot_facts.proofs.Found.{shelf_among}
use Rattle.depots_alike.proofs.Lists.{has, one_path_list, some_paths_rise, has_filter}
use Rattle.depot_facts.proofs.PathsTold.{kept_are, shelf_told}
use Rattle.depot_facts.proofs.Nowhere.{other_path}
use Rattle.depots_alike.proofs.Paths.{only_test, paths_rise, same_turned}
use Rattle.depots_alike.proofs.Searches.{spec_same, by_path}
use Rattle.depots_alike.proofs.Twins.{Twins}
use Rattle.depot_facts.proofs.Listed.{any_of}

absent : (xs : List (List ℕ)) (z : List ℕ) → list_all is_path xs ≡ true → is_path z ≡ false → has xs z ≡ false
absent [] z all nowhere = refl
absent (x ∷ xs) z all nowhere = λ i. (same_turned z x ∙ other_path x z (and_parts (is_path x) (list_all is_path xs) all).0 nowhere) i
    || absent xs z (and_parts (is_path x) (list_all is_path xs) all).1 nowhere i

module _ (d : List Deed) (sound : IsSound d) (n : ℕ) where
  not_kept : (z : List ℕ) → is_path z ≡ true → has (paths_of (shelf_paths n) d) z ≡ false → is_some (kept d n z) ≡ false
  not_kept z is none = go (spec d ShelfForm (shelf_name n z)) refl
    where
      go : (o : Option FormValue) → spec d ShelfForm (shelf_name n z) ≡ o → is_some (option_and_then (λ form. when (is_kept form) form) o) ≡ false
      go None e = refl
      go (Some form) e =
          absurd (true≢false (sym (any_of (same z) (paths_of (shelf_paths n) d) z (shelf_among d sound n z is form e) (same-self z)) ∙ none))

  kept_has : (z : List ℕ) → is_path z ≡ true → has (kept_paths d n) z ≡ is_some (kept d n z)
  kept_has z is = has_filter (λ path. is_some (kept d n path)) (paths_of (shelf_paths n) d) z
      ∙ only_test (has (paths_of (shelf_paths n) d) z) (is_some (kept d n z)) (not_kept z is)

module _ (d e : List Deed) (twins : Twins d e) where
  pub kept_same : (n : ℕ) (path : List ℕ) → kept d n path ≡ kept e n path
  kept_same n path = ap (λ (o : Option FormValue). option_and_then (λ form. when (is_kept form) form) o) (spec_same d e twins ShelfForm (shelf_name n path))

  pub kept_paths_same : (n : ℕ) → kept_paths d n ≡ kept_paths e n
  kept_paths_same n = one_path_list (kept_paths d n) (kept_paths e n)
      (some_paths_rise (λ path. is_some (kept d n path)) (paths_of (shelf_paths n) d) (paths_rise (shelf_paths n) (shelf_told n) d twins.left.paths))
      (some_paths_rise (λ path. is_some (kept e n path)) (paths_of (shelf_paths n) e) (paths_rise (shelf_paths n) (shelf_told n) e twins.right.paths))
      (λ z. by_path z (has (kept_paths d n) z) (has (kept_paths e n) z)
      (λ is. kept_has d twins.left n z is ∙ ap is_some (kept_same n z) ∙ sym (kept_has e twins.right n z is))
      (λ nowhere. absent (kept_paths d n) z (kept_are d twins.left.paths n) nowhere ∙ sym (absent (kept_paths e n) z (kept_are e twins.right.paths n) nowhere)))

  pub is_shelved_same : (n : ℕ) → is_shelved d n ≡ is_shelved e n
  is_shelved_same n = ap (λ (paths : List (List ℕ)). nat_lt 0 (length paths)) (kept_paths_same n)
