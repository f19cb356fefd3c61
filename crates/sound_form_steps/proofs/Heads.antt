-- A file has no more revisions than there are numbers of changes, and a live revision has a content.
use Rattle.std.proofs.Common.{◌≡◌, ◌≤◌, ◌<◌, ◌^◌, ℕ, zero, suc, Bool, true, false, List, [], ◌∷◌, ◌++◌, Option, Some, None, refl, arith}
use Rattle.std.specs.Prelude.{map, filter, slice_get, IfSome, is_some, is_none, option_and_then, if◌then◌else◌}
use Rattle.std.specs.List.{list_all}
use Rattle.std.specs.Option.{option_map_or}
use Rattle.std.proofs.lemmas.Bool.{and_from, and_parts}
use Rattle.depot_rows.specs.depot_path.Bytes.{same}
use Rattle.depot_rows.specs.depot_path.Path.{is_path, printed}
use Rattle.depot_rows.specs.depot_model.Deeds.{Deed, Spec, Guard, Group, Count, Pend, Drop, Open, Shut, Hold, Free, Got, Tag, Owe, Paid, Land, Landing, Entry}
use Rattle.depot_rows.specs.depot_model.Numbers.{landings}
use Rattle.depot_rows.specs.depot_model.Revisions.{Revision, revisions, entries_at, head, is_live, is_live_action, is_live_at}
use Rattle.depot_rows.specs.depot_model.Rules.{IsSound, has_its_content, have_their_contents}
use Rattle.depot_rows.specs.depot_model.Steps.Submitting.{content_at}
use Rattle.sound_deeds.proofs.Facts.{rev_is}
use Rattle.depot_facts.proofs.Revised.{rev_low}

pub head_small : (d : List Deed) → IsSound d → (path : List ℕ) → is_path path ≡ true → (n : ℕ) → n ≤ head d path → n < 2 ^ 64
head_small d sound path is zero le = omega arith
head_small d sound path is (suc k) le =
    let low = rev_low d sound (printed path) (suc k) (rev_is d path (suc k) is (omega arith) le) in
    let most = (sound.rules).top_fits in
    omega (arith, low, most)

-- ---- contents of live revisions

abbrev Has : Revision → Bool
Has r = has_its_content r.entry

joined_all : (xs ys : List Revision) → list_all Has xs ≡ true → list_all Has ys ≡ true → list_all Has (xs ++ ys) ≡ true
joined_all [] ys e f = f
joined_all (x ∷ xs) ys e f = and_from (Has x) (list_all Has (xs ++ ys)) (and_parts (Has x) (list_all Has xs) e).0 (joined_all xs ys (and_parts (Has x) (list_all Has xs) e).1 f)

entries_have : (l : Landing) (path : List ℕ) (entries : List Entry) → list_all has_its_content entries ≡ true
    → list_all Has (map (λ e. record { landing = l; entry = e }) (filter (λ (e : Entry). same e.path path) entries)) ≡ true
entries_have l path [] e = refl
entries_have l path (x ∷ entries) e =
    go (same x.path path) (and_parts (has_its_content x) (list_all has_its_content entries) e).0 (entries_have l path entries (and_parts (has_its_content x) (list_all has_its_content entries) e).1)
  where
    go : (b : Bool) → has_its_content x ≡ true
        → list_all Has (map (λ e. record { landing = l; entry = e }) (filter (λ (e : Entry). same e.path path) entries)) ≡ true
        → list_all Has (map (λ e. record { landing = l; entry = e }) (if b then x ∷ filter (λ (e : Entry). same e.path path) entries else filter (λ (e : Entry). same e.path path) entries)) ≡ true
    go true h later = and_from (has_its_content x) _ h later
    go false h later = later

revisions_have : (d : List Deed) (path : List ℕ) → list_all have_their_contents (landings d) ≡ true → list_all Has (revisions d path) ≡ true
revisions_have [] path e = refl
revisions_have (Land l ∷ d) path e =
    joined_all (revisions d path) (entries_at path l) (revisions_have d path (and_parts (have_their_contents l) (list_all have_their_contents (landings d)) e).1)
    (entries_have l path l.entries (and_parts (have_their_contents l) (list_all have_their_contents (landings d)) e).0)
revisions_have (Spec kind name form ∷ d) path e = revisions_have d path e
revisions_have (Guard lines ∷ d) path e = revisions_have d path e
revisions_have (Group name users ∷ d) path e = revisions_have d path e
revisions_have (Count name value ∷ d) path e = revisions_have d path e
revisions_have (Pend p ∷ d) path e = revisions_have d path e
revisions_have (Drop n ∷ d) path e = revisions_have d path e
revisions_have (Open o ∷ d) path e = revisions_have d path e
revisions_have (Shut held ∷ d) path e = revisions_have d path e
revisions_have (Hold held ∷ d) path e = revisions_have d path e
revisions_have (Free held ∷ d) path e = revisions_have d path e
revisions_have (Got held rev ∷ d) path e = revisions_have d path e
revisions_have (Tag label p rev ∷ d) path e = revisions_have d path e
revisions_have (Owe o ∷ d) path e = revisions_have d path e
revisions_have (Paid held from how ∷ d) path e = revisions_have d path e

at_has : (revs : List Revision) (n : ℕ) → list_all Has revs ≡ true → IfSome (slice_get revs n) (λ r. Has r ≡ true)
at_has [] n e = tt
at_has (r ∷ revs) zero e = (and_parts (Has r) (list_all Has revs) e).0
at_has (r ∷ revs) (suc n) e = at_has revs n (and_parts (Has r) (list_all Has revs) e).1

pub live_content : (d : List Deed) → IsSound d → (path : List ℕ) (n : ℕ) → is_live_at d path n ≡ true → is_some (content_at d path n) ≡ true
live_content d sound path zero live = absurd cc
live_content d sound path (suc n) live = go (slice_get (revisions d path) n) (at_has (revisions d path) n (revisions_have d path sound.contents)) live
  where
    go : (o : Option Revision) → IfSome o (λ r. Has r ≡ true) → option_map_or is_live o false ≡ true → is_some (option_and_then (λ (r : Revision). (r.entry).content) o) ≡ true
    go None h k = absurd cc
    go (Some r) h k = test (is_live_action (r.entry).action) h k
      where
        test : (b : Bool) → (if b then is_some (r.entry).content else is_none (r.entry).content) ≡ true → b ≡ true → is_some (r.entry).content ≡ true
        test true g m = g
        test false g m = absurd cc
