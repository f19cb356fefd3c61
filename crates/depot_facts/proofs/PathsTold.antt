-- The paths of which a sound depot tells.
use Rattle.std.proofs.Common.{◌≡◌, ℕ, Bool, true, false, List, [], ◌∷◌, ◌++◌, refl}
use Rattle.std.specs.Prelude.{codes, map, flat_map, is_some, if◌then◌else◌}
use Rattle.std.specs.List.{list_all}
use Rattle.std.proofs.lemmas.Bool.{and_from, and_parts}
use Rattle.depot_rows.specs.depot_path.Bytes.{same}
use Rattle.depot_rows.specs.depot_path.Path.{is_path}
use Rattle.depot_rows.specs.depot_model.Arguments.{paths_of, landed_paths, submitted, got_paths, open_paths, opened_by, had}
use Rattle.depot_rows.specs.depot_model.Deeds.{Deed, Spec, Open, Got, Land, Entry, ShelfForm}
use Rattle.depot_rows.specs.depot_model.Opened.{opened}
use Rattle.depot_rows.specs.depot_model.Rules.{has_paths, entry_paths}
use Rattle.depot_rows.specs.depot_model.Shelves.{is_of_change, kept, kept_paths, paths_in, shelf_paths}
use Rattle.depot_rows.specs.depot_model.Sorted.{path_inserted, all_inserted, is_before}
use Rattle.depot_rows.specs.depot_model.Values.{value_of}
use Rattle.depot_facts.proofs.PathTexts.{paths_in_are}
use Rattle.depot_facts.proofs.Steps.{all_filtered}

module _ (P : List ℕ → Bool) where
  inserted_all : (p : List ℕ) (paths : List (List ℕ)) → P p ≡ true → list_all P paths ≡ true → list_all P (path_inserted p paths) ≡ true
  inserted_all p [] is e = and_from (P p) true is refl
  inserted_all p (q ∷ paths) is e =
      go (same p q) (is_before p q) (inserted_all p paths is (and_parts (P q) (list_all P paths) e).1)
    where
      go : (b c : Bool) → list_all P (path_inserted p paths) ≡ true
          → list_all P (if b then q ∷ paths else (if c then p ∷ q ∷ paths else q ∷ path_inserted p paths)) ≡ true
      go true c later = e
      go false true later = and_from (P p) (list_all P (q ∷ paths)) is e
      go false false later = and_from (P q) (list_all P (path_inserted p paths)) (and_parts (P q) (list_all P paths) e).0 later

  all_inserted_all : (more paths : List (List ℕ)) → list_all P more ≡ true → list_all P paths ≡ true → list_all P (all_inserted more paths) ≡ true
  all_inserted_all [] paths e f = f
  all_inserted_all (p ∷ more) paths e f =
      inserted_all p (all_inserted more paths) (and_parts (P p) (list_all P more) e).0 (all_inserted_all more paths (and_parts (P p) (list_all P more) e).1 f)

  pub paths_all : (reading : Deed → List (List ℕ)) → ((deed : Deed) → has_paths deed ≡ true → list_all P (reading deed) ≡ true) → (d : List Deed)
      → list_all has_paths d ≡ true → list_all P (paths_of reading d) ≡ true
  paths_all reading told [] e = refl
  paths_all reading told (deed ∷ d) e =
      all_inserted_all (reading deed) (paths_of reading d) (told deed (and_parts (has_paths deed) (list_all has_paths d) e).0)
      (paths_all reading told d (and_parts (has_paths deed) (list_all has_paths d) e).1)

front_all : (xs ys : List (List ℕ)) → list_all is_path (xs ++ ys) ≡ true → list_all is_path xs ≡ true
front_all [] ys e = refl
front_all (x ∷ xs) ys e = and_from (is_path x) (list_all is_path xs) (and_parts (is_path x) (list_all is_path (xs ++ ys)) e).0
    (front_all xs ys (and_parts (is_path x) (list_all is_path (xs ++ ys)) e).1)

back_all : (xs ys : List (List ℕ)) → list_all is_path (xs ++ ys) ≡ true → list_all is_path ys ≡ true
back_all [] ys e = e
back_all (x ∷ xs) ys e = back_all xs ys (and_parts (is_path x) (list_all is_path (xs ++ ys)) e).1

entries_all : (entries : List Entry) → list_all is_path (flat_map entry_paths entries) ≡ true → list_all is_path (map (λ (e : Entry). e.path) entries) ≡ true
entries_all [] e = refl
entries_all (x ∷ entries) e = and_from (is_path x.path) (list_all is_path (map (λ (y : Entry). y.path) entries))
    (and_parts (is_path x.path) _ (front_all (entry_paths x) (flat_map entry_paths entries) e)).0
    (entries_all entries (back_all (entry_paths x) (flat_map entry_paths entries) e))

pub landed_told : (deed : Deed) → has_paths deed ≡ true → list_all is_path (landed_paths deed) ≡ true
landed_told (Land l) e = entries_all l.entries e
landed_told _ e = refl

pub open_told : (deed : Deed) → has_paths deed ≡ true → list_all is_path (open_paths deed) ≡ true
open_told (Open o) e = and_from (is_path o.path) true (and_parts (is_path o.path) _ e).0 refl
open_told _ e = refl

pub got_told : (client : List ℕ) (deed : Deed) → has_paths deed ≡ true → list_all is_path (got_paths client deed) ≡ true
got_told client (Got held rev) e = go (same held.client client)
  where
    go : (b : Bool) → list_all is_path (if b then held.path ∷ [] else []) ≡ true
    go true = e
    go false = refl
got_told client _ e = refl

module _ (d : List Deed) (has : list_all has_paths d ≡ true) where
  pub submitted_are : list_all is_path (submitted d) ≡ true
  submitted_are = paths_all is_path landed_paths landed_told d has

  pub opened_are : (client : List ℕ) → list_all is_path (opened_by d client) ≡ true
  opened_are client = all_filtered is_path (λ path. is_some (opened d client path)) (paths_of open_paths d) (paths_all is_path open_paths open_told d has)

  pub had_are : (client : List ℕ) → list_all is_path (had d client) ≡ true
  had_are client = all_filtered is_path _ (paths_of (got_paths client) d) (paths_all is_path (got_paths client) (got_told client) d has)

-- ---- shelved files

pub shelf_told : (n : ℕ) (deed : Deed) → has_paths deed ≡ true → list_all is_path (shelf_paths n deed) ≡ true
shelf_told n (Spec ShelfForm name form) has = go (is_of_change n form)
  where
    go : (b : Bool) → list_all is_path (if b then paths_in (value_of form (codes "Path")) else []) ≡ true
    go true = paths_in_are (value_of form (codes "Path"))
    go false = refl
shelf_told n _ has = refl

pub kept_are : (d : List Deed) → list_all has_paths d ≡ true → (n : ℕ) → list_all is_path (kept_paths d n) ≡ true
kept_are d has n = all_filtered is_path (λ path. is_some (kept d n path)) (paths_of (shelf_paths n) d) (paths_all is_path (shelf_paths n) (shelf_told n) d has)
