-- A change is shelved exactly where one of the forms holds it.
use Rattle.std.proofs.Common.{◌≡◌, ℕ, Bool, true, false, List, [], ◌∷◌, ◌++◌, length, Option, Some, None, refl, sym, ap, ◌∙◌}
use Rattle.std.specs.Prelude.{◌&&◌, ◌||◌, codes, decimal, filter, if◌then◌else◌, is_some, nat_lt, option_and_then}
use Rattle.std.specs.List.{list_all, list_any}
use Rattle.std.specs.Option.{option_map_or}
use Rattle.std.proofs.lemmas.Bool.{true≢false, and_parts}
use Rattle.depot_rows.specs.depot_path.Bytes.{begins_with, same}
use Rattle.depot_rows.specs.depot_path.Path.{is_path}
use Rattle.depot_rows.specs.spec_form.Form.{FormValue}
use Rattle.depot_rows.specs.spec_form.declared.shape.Shape.TheVariants.{Shelf as ShelfShape}
use Rattle.depot_rows.specs.depot_model.Arguments.{paths_of}
use Rattle.depot_rows.specs.depot_model.Deeds.{Deed, ShelfForm}
use Rattle.depot_rows.specs.depot_model.Latest.{keys_of, spec, spec_name, spec_said, when}
use Rattle.depot_rows.specs.depot_model.Rules.{IsSound, value_in}
use Rattle.depot_rows.specs.depot_model.Shelves.{is_kept, is_of_change, is_shelved, kept, shelf_name, shelf_paths}
use Rattle.depot_rows.specs.depot_model.Values.{value_of}
use Rattle.depot_rows.proofs.Keys.{same-is, same-self}
use Rattle.depot_facts.proofs.Found.{saved_shelf, shelf_there, spec_names, shelf_parts, spec_value}
use Rattle.depot_facts.proofs.Members.{key_in}
use Rattle.depot_facts.proofs.PathsTold.{kept_are}
use Rattle.depot_facts.proofs.Listed.{any_of}
use Rattle.named_forms.proofs.Texts.{begins_front}
use Rattle.held_changes.specs.Holding.{holds, is_held}
use Rattle.depot_rows.specs.spec_form.Printing.{printed_form}

-- ---- shelved files

none_of : (test : List ℕ → Bool) → ((x : List ℕ) → test x ≡ false) → (xs : List (List ℕ)) → list_any test xs ≡ false
none_of test all [] = refl
none_of test all (x ∷ xs) = (λ i. all x i || list_any test xs) ∙ none_of test all xs

module _ (test : List ℕ → Bool) where
  found : (xs : List (List ℕ)) → list_all is_path (filter test xs) ≡ true → nat_lt 0 (length (filter test xs)) ≡ true
      → (z : List ℕ) × (is_path z ≡ true) × (test z ≡ true)
  found [] all h = absurd (let f : false ≡ true = h in cc)
  found (x ∷ xs) all h = go (test x) refl all h (found xs)
    where
      go : (b : Bool) → test x ≡ b → list_all is_path (if b then x ∷ filter test xs else filter test xs) ≡ true
          → nat_lt 0 (length (if b then x ∷ filter test xs else filter test xs)) ≡ true
          → (list_all is_path (filter test xs) ≡ true → nat_lt 0 (length (filter test xs)) ≡ true → (z : List ℕ) × (is_path z ≡ true) × (test z ≡ true))
          → (z : List ℕ) × (is_path z ≡ true) × (test z ≡ true)
      go true e k l later = (x, (and_parts (is_path x) (list_all is_path (filter test xs)) k).0, e)
      go false e k l later = later k l

module _ (d : List Deed) (sound : IsSound d) (n : ℕ) where
  abbrev held_in : List ℕ → Bool
  held_in = is_held ShelfForm d (codes "kept") (decimal n)

  path_holds : (z : List ℕ) → is_path z ≡ true → is_some (kept d n z) ≡ true → list_any held_in (keys_of (spec_name ShelfForm) d) ≡ true
  path_holds z is some = go (spec d ShelfForm (shelf_name n z)) refl some
    where
      is_when : (b : Bool) (form : FormValue) → is_some (when b form) ≡ true → b ≡ true
      is_when true form h = refl
      is_when false form h = absurd cc

      go : (o : Option FormValue) → spec d ShelfForm (shelf_name n z) ≡ o → is_some (option_and_then (λ form. when (is_kept form) form) o) ≡ true
          → list_any held_in (keys_of (spec_name ShelfForm) d) ≡ true
      go None e h = absurd cc
      go (Some form) e h =
          let parts = shelf_parts d sound n z form e in
          let of : is_of_change n form ≡ true = ap (λ (w : List ℕ). same w (decimal n)) (sym parts.0) ∙ same-self (decimal n) in
          let on : is_kept form ≡ true = is_when (is_kept form) form h in
          let held : held_in (shelf_name n z) ≡ true =
          ap (λ (o : Option FormValue). option_map_or (holds (codes "kept") (decimal n)) o false) e ∙ (λ i. on i && of i) in
          any_of held_in (keys_of (spec_name ShelfForm) d) (shelf_name n z)
          (key_in (spec_said ShelfForm (shelf_name n z)) (spec_name ShelfForm) (shelf_name n z) form (spec_names ShelfForm (shelf_name n z) form) d e) held

  none_holds : is_shelved d n ≡ false → (name : List ℕ) → held_in name ≡ false
  none_holds none name = go (spec d ShelfForm name) refl
    where
      go : (o : Option FormValue) → spec d ShelfForm name ≡ o → option_map_or (holds (codes "kept") (decimal n)) o false ≡ false
      go None e = refl
      go (Some form) e = by_kept (is_kept form) refl (is_of_change n form) refl
        where
          by_kept : (b : Bool) → is_kept form ≡ b → (c : Bool) → is_of_change n form ≡ c → (b && c) ≡ false
          by_kept false on c of = refl
          by_kept true on false of = refl
          by_kept true on true of = absurd (true≢false (sym (shelf_there d sound n name form e on of) ∙ none))

  shelved_held : list_any held_in (keys_of (spec_name ShelfForm) d) ≡ is_shelved d n
  shelved_held = go (is_shelved d n) refl
    where
      go : (b : Bool) → is_shelved d n ≡ b → list_any held_in (keys_of (spec_name ShelfForm) d) ≡ b
      go true e =
          let file = found (λ path. is_some (kept d n path)) (paths_of (shelf_paths n) d) (kept_are d sound.paths n) e in
          path_holds file.0 file.1 file.2
      go false e = none_of held_in (none_holds e) (keys_of (spec_name ShelfForm) d)

-- ---- the forms of a change stand together by their names

any_kept : (test begins : List ℕ → Bool) → ((name : List ℕ) → test name ≡ true → begins name ≡ true) → (names : List (List ℕ))
    → list_any test (filter begins names) ≡ list_any test names
any_kept test begins all [] = refl
any_kept test begins all (name ∷ names) = go (begins name) refl (test name) refl (any_kept test begins all names)
  where
    go : (b : Bool) → begins name ≡ b → (t : Bool) → test name ≡ t → list_any test (filter begins names) ≡ list_any test names
        → list_any test (if b then name ∷ filter begins names else filter begins names) ≡ (t || list_any test names)
    go true e t k more = λ i. k i || more i
    go false e true k more = absurd (true≢false (sym (all name k) ∙ e))
    go false e false k more = more

module _ (d : List Deed) (sound : IsSound d) (n : ℕ) where
  held_begins : (name : List ℕ) → is_held ShelfForm d (codes "kept") (decimal n) name ≡ true → begins_with name (decimal n ++ 0x20 ∷ []) ≡ true
  held_begins name h = go (spec d ShelfForm name) refl h
    where
      go : (o : Option FormValue) → spec d ShelfForm name ≡ o → option_map_or (holds (codes "kept") (decimal n)) o false ≡ true
          → begins_with name (decimal n ++ 0x20 ∷ []) ≡ true
      go None e k = absurd (true≢false (sym k))
      go (Some form) e k =
          let value : (field : List ℕ) → value_in ShelfShape field (printed_form form) ≡ value_of form field = spec_value d sound ShelfForm name form e in
          let shelf = saved_shelf d sound name form e in
          let of : value_of form (codes "Change") ≡ decimal n =
          same-is (value_of form (codes "Change")) (decimal n) (and_parts (same (value_of form (codes "State")) (codes "kept")) (same (value_of form (codes "Change")) (decimal n)) k).1 in
          let named : name ≡ decimal n ++ 0x20 ∷ value_of form (codes "Path") =
          shelf.named ∙ (λ i. value (codes "Change") i ++ 0x20 ∷ value (codes "Path") i) ∙ (λ i. of i ++ 0x20 ∷ value_of form (codes "Path")) in
          ap (λ (text : List ℕ). begins_with text (decimal n ++ 0x20 ∷ [])) named ∙ begins_front (decimal n) (value_of form (codes "Path"))

  pub shelved_begun : list_any (is_held ShelfForm d (codes "kept") (decimal n)) (filter (λ name. begins_with name (decimal n ++ 0x20 ∷ [])) (keys_of (spec_name ShelfForm) d))
      ≡ is_shelved d n
  shelved_begun =
      any_kept (is_held ShelfForm d (codes "kept") (decimal n)) (λ name. begins_with name (decimal n ++ 0x20 ∷ [])) held_begins (keys_of (spec_name ShelfForm) d)
      ∙ shelved_held d sound n
