-- Sets of files.
use Rattle.std.proofs.Common.{◌≡◌, ℕ, Bool, true, false, List, [], ◌∷◌, ◌++◌, refl, sym, ap, ◌∙◌}
use Rattle.std.specs.Prelude.{◌||◌, if◌then◌else◌}
use Rattle.std.specs.BTreeSet.{insert_key}
use Rattle.std.specs.List.{list_any}
use Rattle.std.specs.Ordering.{is_eq, match_ordering}
use Rattle.std.specs.declared.cmp.Ordering.{Ordering}
use Rattle.std.specs.declared.cmp.Ordering.TheVariants.{Less, Equal, Greater}
use Rattle.std.proofs.lemmas.List.Folds.{list_any-append}
use Rattle.std.proofs.lemmas.Slice.Eq.{bytes_eq-Decides}
use Rattle.depot_rows.specs.depot_path.Bytes.{same}
use Rattle.depot_rows.specs.depot_path.Order.{path_cmp}
use Rattle.depot_rows.specs.depot_path.OrderLaws.{paths_ties}
use Rattle.depot_rows.specs.depot_model.Arguments.{is_in}
use Rattle.depot_rows.specs.depot_model.Sorted.{all_inserted, is_before, path_inserted}
use Rattle.file_steps.proofs.Counting.{placed}

-- a key is inserted where a path is
pub inserted_is : (p : List ℕ) (paths : List (List ℕ)) → insert_key path_cmp paths p ≡ path_inserted p paths
inserted_is p [] = refl
inserted_is p (q ∷ qs) = go (path_cmp p q) refl (inserted_is p qs)
  where
    go : (o : Ordering) → path_cmp p q ≡ o → insert_key path_cmp qs p ≡ path_inserted p qs
        → match_ordering o (p ∷ q ∷ qs) (q ∷ qs) (q ∷ insert_key path_cmp qs p) ≡ path_inserted p (q ∷ qs)
    go Less e more = sym (placed p q qs Less e)
    go Equal e more = sym (placed p q qs Equal e)
    go Greater e more = ap (λ (x : List (List ℕ)). q ∷ x) more ∙ sym (placed p q qs Greater e)

pub contains_is : (p : List ℕ) (paths : List (List ℕ)) → list_any (λ q. is_eq (path_cmp p q)) paths ≡ is_in paths p
contains_is p paths = λ i. list_any (λ q. sym (paths_ties p q) i) paths

-- the last of some more paths is inserted first
pub last_inserted : (more : List (List ℕ)) (p : List ℕ) (paths : List (List ℕ)) → all_inserted (more ++ p ∷ []) paths ≡ all_inserted more (path_inserted p paths)
last_inserted [] p paths = refl
last_inserted (q ∷ more) p paths = ap (path_inserted q) (last_inserted more p paths)

-- ---- which paths are there

either_way : (a b c : Bool) → (a || (b || c)) ≡ (b || (a || c))
either_way true true c = refl
either_way true false c = refl
either_way false b c = refl

in_inserted : (q p : List ℕ) (paths : List (List ℕ)) → is_in (path_inserted p paths) q ≡ (same q p || is_in paths q)
in_inserted q p [] = refl
in_inserted q p (x ∷ xs) = go (same p x) refl (is_before p x) (in_inserted q p xs)
  where
    twice : (a b : Bool) → (a || b) ≡ (a || (a || b))
    twice true b = refl
    twice false b = refl

    go : (s : Bool) → same p x ≡ s → (t : Bool) → is_in (path_inserted p xs) q ≡ (same q p || is_in xs q)
        → is_in (if s then x ∷ xs else (if t then p ∷ x ∷ xs else x ∷ path_inserted p xs)) q ≡ (same q p || (same q x || is_in xs q))
    go true e t more =
        let one : p ≡ x = (bytes_eq-Decides p x).0 e in
        twice (same q x) (is_in xs q) ∙ (λ i. same q (sym one i) || (same q x || is_in xs q))
    go false e true more = refl
    go false e false more = ap (λ (b : Bool). same q x || b) more ∙ either_way (same q x) (same q p) (is_in xs q)

-- a path more is taken
pub taken_on : (q p : List ℕ) (taken rest now : List (List ℕ)) → now ≡ path_inserted p taken → is_in (now ++ rest) q ≡ is_in (taken ++ p ∷ rest) q
taken_on q p taken rest now is =
    (λ i. is_in (is i ++ rest) q)
    ∙ list_any-append (same q) (path_inserted p taken) rest ∙ ap (λ (b : Bool). b || is_in rest q) (in_inserted q p taken)
    ∙ moved (same q p) (is_in taken q) (is_in rest q) ∙ sym (list_any-append (same q) taken (p ∷ rest))
  where
    moved : (a b c : Bool) → ((a || b) || c) ≡ (b || (a || c))
    moved true true c = refl
    moved true false c = refl
    moved false b c = refl
