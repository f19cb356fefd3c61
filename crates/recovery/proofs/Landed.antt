-- The entries of a sound depot have content exactly where their actions are live.
use Rattle.std.proofs.Common.{◌≡◌, ℕ, zero, suc, Bool, true, false, List, [], ◌∷◌, ◌++◌, Some, IsTrue}
use Rattle.std.specs.Prelude.{map, slice_get, if◌then◌else◌}
use Rattle.std.specs.List.{AllByRecursion, list_all, filter}
use Rattle.std.proofs.lemmas.Bool.{and_parts}
use Rattle.depot_rows.specs.depot_path.Bytes.{same}
use Rattle.depot_rows.specs.depot_model.Deeds.{Deed, Landing, Entry, Land}
use Rattle.depot_rows.specs.depot_model.Numbers.{landings}
use Rattle.depot_rows.specs.depot_model.Revisions.{Revision, revisions, revision, entries_at}
use Rattle.depot_rows.specs.depot_model.Rules.{has_its_content, have_their_contents}

abbrev pub HasOwn : Revision → Type 0
HasOwn r = has_its_content r.entry ≡ true

all_append : (xs ys : List Revision) → AllByRecursion HasOwn xs → AllByRecursion HasOwn ys → AllByRecursion HasOwn (xs ++ ys)
all_append [] ys first second = second
all_append (x ∷ xs) ys first second = (first.0, all_append xs ys first.1 second)

abbrev made_in : Landing → Entry → Revision
made_in landing e = record { landing = landing; entry = e }

own_entries : (path : List ℕ) (landing : Landing) (entries : List Entry) → list_all has_its_content entries ≡ true
    → AllByRecursion HasOwn (map (made_in landing) (filter (λ (e : Entry). same e.path path) entries))
own_entries path landing [] all = tt
own_entries path landing (e ∷ entries) all = pick (same e.path path) (own_entries path landing entries (and_parts (has_its_content e) (list_all has_its_content entries) all).1)
  where
    pick : (b : Bool) → AllByRecursion HasOwn (map (made_in landing) (filter (λ (x : Entry). same x.path path) entries))
        → AllByRecursion HasOwn (map (made_in landing) (if b then e ∷ filter (λ (x : Entry). same x.path path) entries else filter (λ (x : Entry). same x.path path) entries))
    pick true rest = ((and_parts (has_its_content e) (list_all has_its_content entries) all).0, rest)
    pick false rest = rest

own_revisions : (d : List Deed) (path : List ℕ) → list_all have_their_contents (landings d) ≡ true → AllByRecursion HasOwn (revisions d path)
own_revisions [] path all = tt
own_revisions (Land l ∷ d) path all =
    all_append (revisions d path) (entries_at path l) (own_revisions d path (and_parts (have_their_contents l) (list_all have_their_contents (landings d)) all).1)
    (own_entries path l l.entries (and_parts (have_their_contents l) (list_all have_their_contents (landings d)) all).0)
own_revisions (_ ∷ d) path all = own_revisions d path all

own_at : (revs : List Revision) (n : ℕ) (r : Revision) → AllByRecursion HasOwn revs → slice_get revs n ≡ Some r → HasOwn r
own_at [] n r all is = absurd cc
own_at (x ∷ revs) zero r all is = own_same x r all.0 is
  where
    own_same : (x r : Revision) → HasOwn x → Some x ≡ Some r → HasOwn r
    own_same x r own e = let one : x ≡ r = cc in rw one at own
own_at (x ∷ revs) (suc n) r all is = own_at revs n r all.1 is

-- a revision of the depot
pub own_content : (d : List Deed) (path : List ℕ) (n : ℕ) (r : Revision) → IsTrue (list_all have_their_contents (landings d)) → revision d path n ≡ Some r → HasOwn r
own_content d path zero r all is = absurd cc
own_content d path (suc n) r all is = own_at (revisions d path) n r (own_revisions d path all) is
