-- A change makes at most one revision of a file, so that the first that it made is the only one.
use Rattle.std.proofs.Common.{◌≡◌, ℕ, zero, suc, ◌+◌, ◌<◌, Bool, true, false, cond, List, [], ◌∷◌, Some, Ok, refl, ap, subst, ◌∙◌, arith}
use Rattle.std.specs.Prelude.{◌==◌, ◌||◌, find, is_some, slice_get}
use Rattle.std.specs.List.{list_any}
use Rattle.depot_rows.specs.depot_path.Path.{path_of, printed}
use Rattle.depot_rows.specs.depot_model.Choice.{made_by}
use Rattle.depot_rows.specs.depot_model.Deeds.{Deed}
use Rattle.depot_rows.specs.depot_model.Revisions.{Revision, revision, revisions}
use Rattle.depot_rows.specs.depot_model.Rules.{IsSound}
use Rattle.depot_rows.specs.depot_model.Steps.History.{made_in, numbered_from}
use Rattle.depot_rows.specs.depot_model.Steps.Listing.{Numbered}
use Rattle.depot_rows.proofs.Keys.{number-is}
use Rattle.revision_reads.proofs.FileRows.{rises}

some_numbered : (x y : Numbered) → Some x ≡ Some y → x ≡ y
some_numbered x y e = cc

some_revision : (r s : Revision) → Some r ≡ Some s → r ≡ s
some_revision r s e = cc

next : (k m : ℕ) → (k + 1) + m ≡ k + suc m
next k m = omega arith

first : (k : ℕ) → k ≡ k + 0
first k = omega arith

module _ (change : ℕ) where
  abbrev test : Revision → Bool
  test r = made_by change r

  abbrev item_test : Numbered → Bool
  item_test x = x.made.landing.change == change

  abbrev item : ℕ → Revision → Numbered
  item k r = record { number = k; made = r }

  -- whether there is one
  pub some_is : (k : ℕ) (revs : List Revision) → is_some (find item_test (numbered_from k revs)) ≡ list_any test revs
  some_is k [] = refl
  some_is k (r ∷ revs) = go (r.landing.change == change) (some_is (k + 1) revs)
    where
      go : (b : Bool) → is_some (find item_test (numbered_from (k + 1) revs)) ≡ list_any test revs
          → is_some (cond b (Some (item k r)) (find item_test (numbered_from (k + 1) revs))) ≡ (b || list_any test revs)
      go true more = refl
      go false more = more

  -- what is found stands at its number
  pub record Stands (k : ℕ) (revs : List Revision) (x : Numbered) : Type 0 where
    pub at : ℕ
    pub number : x.number ≡ k + at
    pub there : slice_get revs at ≡ Some x.made
    pub made : test x.made ≡ true

  found_at : (k : ℕ) (revs : List Revision) (x : Numbered) → find item_test (numbered_from k revs) ≡ Some x → Stands k revs x
  found_at k [] x e = absurd cc
  found_at k (r ∷ revs) x e = go (test r) refl e (λ f. found_at (k + 1) revs x f)
    where
      go : (b : Bool) → test r ≡ b → cond b (Some (item k r)) (find item_test (numbered_from (k + 1) revs)) ≡ Some x
          → (find item_test (numbered_from (k + 1) revs) ≡ Some x → Stands (k + 1) revs x) → Stands k (r ∷ revs) x
      go true t f more =
          let one : item k r ≡ x = some_numbered (item k r) x f in
          subst (Stands k (r ∷ revs)) one (record { at = 0; number = first k; there = refl; made = t })
      go false t f more =
          let rest = more f in
          record { at = suc rest.at; number = rest.number ∙ next k rest.at; there = rest.there; made = rest.made }

  -- later ones that pass are none
  abbrev Once : List Revision → Type 0
  Once revs = (i j : ℕ) (r s : Revision) → i < j → slice_get revs i ≡ Some r → slice_get revs j ≡ Some s → test r ≡ true → test s ≡ true → ⊥

  find_once : (k m : ℕ) (revs : List Revision) (v : Revision) → Once revs → slice_get revs m ≡ Some v → test v ≡ true
      → find item_test (numbered_from k revs) ≡ Some (item (k + m) v)
  find_once k m [] v once e t = absurd cc
  find_once k zero (r ∷ revs) v once e t =
      let one : r ≡ v = some_revision r v e in
      ap (λ (b : Bool). cond b (Some (item k r)) (find item_test (numbered_from (k + 1) revs))) (ap test one ∙ t) ∙ (λ i. Some (item (first k i) (one i)))
  find_once k (suc m) (r ∷ revs) v once e t =
      go (test r) refl (find_once (k + 1) m revs v (λ i j r s low f g t u. once (suc i) (suc j) r s (omega (arith, low)) f g t u) e t)
    where
      go : (b : Bool) → test r ≡ b → find item_test (numbered_from (k + 1) revs) ≡ Some (item ((k + 1) + m) v)
          → cond b (Some (item k r)) (find item_test (numbered_from (k + 1) revs)) ≡ Some (item (k + suc m) v)
      go true u more = absurd (once 0 (suc m) r v (omega arith) refl e u t)
      go false u more = more ∙ ap (λ (n : ℕ). Some (item n v)) (next k m)

module _ (d : List Deed) (path : List ℕ) (own : path_of (printed path) ≡ Ok path) (sound : IsSound d) (change : ℕ) where
  once : Once change (revisions d path)
  once i j r s low e f t u =
      let up = rises d path own sound (suc i) (suc j) r s (omega (arith, low)) e f in
      let one = number-is r.landing.change change t in
      let other = number-is s.landing.change change u in
      absurd (omega (arith, up, one, other))

  from_one : (k : ℕ) → 1 + k ≡ suc k
  from_one k = omega arith

  -- a revision that the change made is the one
  pub made_once : (k : ℕ) (v : Revision) → revision d path (suc k) ≡ Some v → made_by change v ≡ true → made_in d change path ≡ Some (record { number = suc k; made = v })
  made_once k v e t = find_once change 1 k (revisions d path) v once e t ∙ ap (λ (n : ℕ). Some (item change n v)) (from_one k)

-- and the one is such a revision
pub made_found : (d : List Deed) (change : ℕ) (path : List ℕ) (x : Numbered) → made_in d change path ≡ Some x → (revision d path x.number ≡ Some x.made) × (made_by change x.made ≡ true)
made_found d change path x e =
    let found = found_at change 1 (revisions d path) x e in
    let number : suc found.at ≡ x.number = omega (arith, found.number) in
    (subst (λ (n : ℕ). revision d path n ≡ Some x.made) number found.there, found.made)
