-- Revisions of a submitted change: each stands at the spot of its entry.
use Rattle.std.proofs.Common.{◌≡◌, ◌⊎◌, ◌+◌, ℕ, zero, suc, Bool, true, false, List, [], ◌∷◌, map, Option, Some, None, Ok, inl, inr, refl, sym, ap, subst, ◌∙◌, arith}
use Rattle.std.specs.Prelude.{◌&&◌, ◌==◌, not, bytes_eq, is_some, is_none, if◌then◌else◌, option_map, find, slice_get, codes}
use Rattle.std.specs.List.{list_all}
use Rattle.std.specs.Option.{option_map_or}
use Rattle.std.proofs.lemmas.Option.{slice_get_past}
use Rattle.std.proofs.lemmas.Bool.{and_parts}
use Rattle.depot_rows.specs.depot_path.Bytes.{same}
use Rattle.depot_rows.specs.depot_path.Path.{path_of, printed, is_path}
use Rattle.depot_rows.proofs.depot_path.Paths.{prints_path}
use Rattle.depot_rows.specs.db_records.Record.{is_live}
use Rattle.depot_rows.specs.db_records.declared.change.Spot.{Spot}
use Rattle.depot_rows.specs.db_records.declared.key.Key.TheVariants as keys
use Rattle.depot_rows.specs.db_records.declared.record.Record.{Record}
use Rattle.depot_rows.specs.db_records.declared.record.Record.TheVariants as records
use Rattle.depot_rows.specs.db_records.declared.rows.RevRecord.{RevRecord}
use Rattle.depot_rows.specs.db_records.declared.table.TableId.TheVariants as tables
use Rattle.depot_rows.specs.table_changes.Changed.{AllRows}
use Rattle.depot_rows.specs.depot_model.Deeds as model
use Rattle.depot_rows.specs.depot_model.Records.{record_of, at_path, rev_record, unplaced}
use Rattle.depot_rows.specs.depot_model.Revisions.{Revision, revisions, revision, revision_in, head, entries_at, is_live_action}
use Rattle.depot_rows.specs.depot_model.Rows.{action_word}
use Rattle.depot_rows.specs.depot_model.Rules.{Rows, HasRev, are_distinct, has_its_content, have_their_contents}
use Rattle.depot_rows.specs.depot_model.Step.{after}
use Rattle.depot_rows.specs.declared.deed.Deed.{Deed}
use Rattle.depot_rows.specs.declared.deed.Deed.TheVariants as deeds
use Rattle.depot_rows.specs.declared.deed.Entry.{Entry}
use Rattle.depot_rows.specs.declared.deed.Landing.{Landing}
use Rattle.depot_rows.specs.declared.deed.Stored.{Stored}
use Rattle.depot_rows.specs.Deed.{IsEntry, AreEntries, IsLanding, IsStored}
use Rattle.depot_rows.specs.Effects.{effects, effect, entry_path, or_before, rev_row, is_revision, AreOfPaths}
use Rattle.depot_rows.specs.Standing.{HasRows, row_in}
use Rattle.depot_rows.proofs.Entries.{In, path_in, of_path, paths-same, once, at_most_once}
use Rattle.depot_rows.proofs.Keys.{same-is, same-self, number-self}
use Rattle.depot_facts.proofs.Listed.{in_filter, in_map, get_in, get_left, get_either, IsBehind}
use Rattle.depot_facts.proofs.PathTexts.{at_read}
use Rattle.depot_facts.proofs.Revisions.{shown}
use Rattle.step_stores.specs.Stored.{IsPlaced, ArePlaced, LandNothing, NothingLands}
use Rattle.stored_contents.specs.Placed.{HasNoneIfDeleted, HasSpot, IsPlacedAt, no_spot, spot_of}

some-is : {A : Type 0} {x y : A} → Some x ≡ Some y → x ≡ y
some-is e = cc

-- ---- deeds that submit nothing leave revisions alone

pub told_revs : (told d : List model.Deed) → NothingLands told → (path : List ℕ) → revisions (after d told) path ≡ revisions d path
told_revs [] d nothing path = refl
told_revs (model.Land l ∷ told) d nothing path = absurd nothing
told_revs (deed ∷ told) d nothing path = told_revs told (deed ∷ d) nothing path

pub done_revs : (dones : List Deed) (rows : Rows) → LandNothing dones → (text : List ℕ) (n : ℕ) → effects dones rows (keys.Rev text n) ≡ rows (keys.Rev text n)
done_revs [] rows quiet text n = refl
done_revs (deeds.Land l ∷ dones) rows quiet text n = absurd quiet
done_revs (deeds.Count name value ∷ dones) rows quiet text n = done_revs dones (effect (deeds.Count name value) rows) quiet text n ∙ go (same name (codes "change"))
  where
    go : (b : Bool) → (if b then rows (keys.Rev text n) else rows (keys.Rev text n)) ≡ rows (keys.Rev text n)
    go true = refl
    go false = refl
done_revs (done ∷ dones) rows quiet text n = done_revs dones (effect done rows) quiet text n

-- the same revisions of a depot after deeds that submit nothing
pub told_revision : (told d : List model.Deed) → NothingLands told → (path : List ℕ) (n : ℕ) → revision (after d told) path n ≡ revision d path n
told_revision told d nothing path n = ap (λ (revs : List Revision). revision_in revs n) (told_revs told d nothing path)

pub told_row : (told d : List model.Deed) → NothingLands told → (text : List ℕ) (n : ℕ) → record_of (after d told) (keys.Rev text n) ≡ record_of d (keys.Rev text n)
told_row told d nothing text n = λ i. at_path text (λ path. option_map (rev_record n) (told_revision told d nothing path n i))

-- ---- the revisions of a path with those of a change

get_map : {A B : Type 0} (f : A → B) (xs : List A) (k : ℕ) → slice_get xs k ≡ None → slice_get (map f xs) k ≡ None
get_map f [] k e = refl
get_map f (x ∷ xs) zero e = absurd cc
get_map f (x ∷ xs) (suc k) e = get_map f xs k e

-- what holds of all elements holds of each
of_all : {A : Type 0} (test : A → Bool) (xs : List A) (x : A) → list_all test xs ≡ true → In xs x → test x ≡ true
of_all test [] x all there = absurd there
of_all test (y ∷ xs) x all (inl one) = ap test (sym one) ∙ (and_parts (test y) (list_all test xs) all).0
of_all test (y ∷ xs) x all (inr later) = of_all test xs x (and_parts (test y) (list_all test xs) all).1 later

-- ---- actions that aren't live

abbrev bytes_live : List ℕ → Bool
bytes_live word = not (bytes_eq word (codes "delete")) && not (bytes_eq word (codes "move/delete"))

live_word : (action : model.Action) → bytes_live (action_word action) ≡ false → is_live_action action ≡ false
live_word model.Delete dead = refl
live_word model.MoveDelete dead = refl
live_word model.Add dead = absurd cc
live_word model.Edit dead = absurd cc
live_word model.Branch dead = absurd cc
live_word model.Integrate dead = absurd cc
live_word model.MoveAdd dead = absurd cc

no_content : (live : Bool) (content : Option (List ℕ)) → live ≡ false → (if live then is_some content else is_none content) ≡ true → content ≡ None
no_content true content dead own = absurd cc
no_content false None dead own = refl
no_content false (Some bytes) dead own = absurd cc

-- the spot of a revision's row
abbrev spot_in : Record → Spot
spot_in (records.Rev row) = spot_of row
spot_in _ = no_spot

module _ (all : AllRows) (d : List model.Deed) (l : Landing) (m : model.Landing) (is : IsLanding d l m) (ok : AreOfPaths l.entries)
    (stores : List (List ℕ)) (from : ℕ) (placed : ArePlaced all d stores from l.entries m.entries) where
  abbrev landed : List model.Deed
  landed = model.Land m ∷ d

  distinct : are_distinct (map path_in m.entries) ≡ true
  distinct = ap are_distinct (sym (paths-same d l.entries m.entries is.entries)) ∙ ok.1

  abbrev made : model.Entry → Revision
  made x = record { landing = m; entry = x }

  pub record IsNew (path : List ℕ) (n : ℕ) (r : Revision) : Type 0 where
    pub entry : model.Entry
    pub there : In m.entries entry
    pub path_is : entry.path ≡ path
    pub number : n ≡ suc (head d path)
    pub made_is : made entry ≡ r

  pub either : (path : List ℕ) (n : ℕ) (r : Revision) → revision landed path n ≡ Some r → (revision d path n ≡ Some r) ⊎ IsNew path n r
  either path zero r e = absurd cc
  either path (suc k) r e = go (get_either (revisions d path) (entries_at path m) k r e)
    where
      behind : (j : ℕ) → k ≡ head d path + j → slice_get (map made (of_path path m.entries)) j ≡ Some r → (revision d path (suc k) ≡ Some r) ⊎ IsNew path (suc k) r
      behind zero at got =
          let e = in_map made (of_path path m.entries) r (get_in (map made (of_path path m.entries)) 0 r got) in
          let f = in_filter (λ (x : model.Entry). same x.path path) m.entries e.0 e.1.0 in
          let number : suc k ≡ suc (head d path) = omega (arith, at) in
          inr (record { entry = e.0; there = f.0; path_is = same-is e.0.path path f.1; number = number; made_is = e.1.1 })
      behind (suc j) at got = absurd (
          let none = get_map made (of_path path m.entries) (suc j) (at_most_once path m.entries distinct j) in
          let both : None ≡ Some r = sym none ∙ got in
          cc)

      go : (revision d path (suc k) ≡ Some r) ⊎ IsBehind (revisions d path) (entries_at path m) k r → (revision d path (suc k) ≡ Some r) ⊎ IsNew path (suc k) r
      go (inl h) = inl h
      go (inr h) = behind h.0 h.1.0 h.1.1

  -- ---- a row that was there

  old_revision : (path : List ℕ) (n : ℕ) (r : Revision) → revision d path n ≡ Some r → revision landed path n ≡ Some r
  old_revision path zero r e = absurd cc
  old_revision path (suc k) r e = get_left (revisions d path) (entries_at path m) k r e

  pub old_row : (text : List ℕ) (n : ℕ) → HasRev (record_of d) text n → record_of landed (keys.Rev text n) ≡ record_of d (keys.Rev text n)
  old_row text n h =
      let s = shown d text n h in
      at_read text s.path (λ y. option_map (rev_record n) (revision landed y n)) s.read s.text_is
      ∙ ap (option_map (rev_record n)) (old_revision s.path n s.rev s.got) ∙ sym s.row

  -- ---- a row that is new

  no_row : HasRows all d tables.Rev → (path : List ℕ) → is_path path ≡ true → row_in all (keys.Rev (printed path) (suc (head d path))) ≡ None
  no_row has path good = none_of (row_in all (keys.Rev (printed path) (suc (head d path)))) (has (keys.Rev (printed path) (suc (head d path))) refl ∙ absent)
    where
      absent : record_of d (keys.Rev (printed path) (suc (head d path))) ≡ None
      absent =
          at_read (printed path) path (λ y. option_map (rev_record (suc (head d path))) (revision d y (suc (head d path)))) (prints_path path good) refl
          ∙ ap (option_map (rev_record (suc (head d path)))) (slice_get_past (revisions d path) (head d path) (omega arith))

      none_of : (o : Option Record) → option_map unplaced o ≡ None → o ≡ None
      none_of None e = refl
      none_of (Some r) e = absurd cc

  -- the entry of the code that is found, with what is known of it
  record IsFound (text : List ℕ) (n : ℕ) (e : Entry) (xs : List model.Entry) : Type 0 where
    pub entry : model.Entry
    pub there : In xs entry
    pub entry_is : IsEntry d e entry
    pub at : IsPlaced all d stores from e.content entry.content
    pub good : is_path entry.path ≡ true
    pub text_is : printed entry.path ≡ text

  found_entry : (text : List ℕ) (n : ℕ) (es : List Entry) (xs : List model.Entry) → AreEntries d es xs → ArePlaced all d stores from es xs
      → list_all is_path (map entry_path es) ≡ true → (e : Entry) → find (is_revision text n) es ≡ Some e → IsFound text n e xs
  found_entry text n [] [] are at paths e f = absurd cc
  found_entry text n [] (x ∷ xs) are at paths e f = absurd are
  found_entry text n (y ∷ es) [] are at paths e f = absurd are
  found_entry text n (y ∷ es) (x ∷ xs) are at paths e f =
      go (is_revision text n y) refl f (found_entry text n es xs are.1 at.1 (and_parts (is_path y.path) (list_all is_path (map entry_path es)) paths).1 e)
    where
      here : is_revision text n y ≡ true → IsFound text n y (x ∷ xs)
      here h = record {
        entry = x;
        there = inl refl;
        entry_is = are.0;
        at = at.0;
        good = ap is_path (sym are.0.path) ∙ (and_parts (is_path y.path) (list_all is_path (map entry_path es)) paths).0;
        text_is = ap printed (sym are.0.path) ∙ same-is (printed y.path) text (and_parts (same (printed y.path) text) (y.rev == n) h).0;
      }

      go : (b : Bool) → is_revision text n y ≡ b → (if b then Some y else find (is_revision text n) es) ≡ Some e
          → (find (is_revision text n) es ≡ Some e → IsFound text n e xs) → IsFound text n e (x ∷ xs)
      go true h g later = subst (λ (z : Entry). IsFound text n z (x ∷ xs)) (some-is g) (here h)
      go false h g later =
          let z = later g in
          record { entry = z.entry; there = inr z.there; entry_is = z.entry_is; at = z.at; good = z.good; text_is = z.text_is }

  -- an entry of the model has one of the code that is found
  finds_entry : (es : List Entry) (xs : List model.Entry) → AreEntries d es xs → (x : model.Entry) → In xs x
      → (e : Entry) × (find (is_revision (printed x.path) (suc (head d x.path))) es ≡ Some e)
  finds_entry [] [] are x h = absurd h
  finds_entry [] (y ∷ xs) are x h = absurd are
  finds_entry (e ∷ es) [] are x h = absurd are
  finds_entry (e ∷ es) (y ∷ xs) are x h = go (is_revision (printed x.path) (suc (head d x.path)) e) refl h (λ k. finds_entry es xs are.1 x k)
    where
      number_is : y ≡ x → e.rev ≡ suc (head d x.path)
      number_is one = let a : e.rev ≡ head d y.path + 1 = are.0.rev in let b : head d y.path ≡ head d x.path = ap (λ (z : model.Entry). head d z.path) one in omega (arith, a, b)

      hit : y ≡ x → is_revision (printed x.path) (suc (head d x.path)) e ≡ true
      hit one =
          let a : same (printed e.path) (printed x.path) ≡ true = ap (λ (p : List ℕ). same (printed p) (printed x.path)) (are.0.path ∙ ap path_in one) ∙ same-self (printed x.path) in
          let b : (e.rev == suc (head d x.path)) ≡ true = ap (λ (k : ℕ). k == suc (head d x.path)) (number_is one) ∙ number-self (suc (head d x.path)) in
          (λ i. a i && b i)

      go : (b : Bool) → is_revision (printed x.path) (suc (head d x.path)) e ≡ b → In (y ∷ xs) x
          → (In xs x → (z : Entry) × (find (is_revision (printed x.path) (suc (head d x.path))) es ≡ Some z))
          → (z : Entry) × ((if b then Some e else find (is_revision (printed x.path) (suc (head d x.path))) es) ≡ Some z)
      go true g there later = (e, refl)
      go false g (inl one) later = absurd (let no : true ≡ false = sym (hit one) ∙ g in cc)
      go false g (inr k) later = later k

  one_path : (p q : List ℕ) → is_path p ≡ true → is_path q ≡ true → printed p ≡ printed q → p ≡ q
  one_path p q a b e =
      let x : path_of (printed p) ≡ Ok p = prints_path p a in
      let y : path_of (printed q) ≡ Ok q = prints_path q b in
      let z : path_of (printed p) ≡ path_of (printed q) = ap path_of e in
      cc

  all_paths : (es : List Entry) (xs : List model.Entry) → AreEntries d es xs → list_all is_path (map entry_path es) ≡ true → (x : model.Entry) → In xs x → is_path x.path ≡ true
  all_paths [] [] are paths x h = absurd h
  all_paths [] (y ∷ xs) are paths x h = absurd are
  all_paths (e ∷ es) [] are paths x h = absurd are
  all_paths (e ∷ es) (y ∷ xs) are paths x (inl one) =
      ap (λ (z : model.Entry). is_path z.path) (sym one) ∙ ap is_path (sym are.0.path) ∙ (and_parts (is_path e.path) (list_all is_path (map entry_path es)) paths).0
  all_paths (e ∷ es) (y ∷ xs) are paths x (inr h) = all_paths es xs are.1 (and_parts (is_path e.path) (list_all is_path (map entry_path es)) paths).1 x h

  one_entry : (a b : model.Entry) → In m.entries a → In m.entries b → a.path ≡ b.path → a ≡ b
  one_entry a b h k e =
      let x : of_path a.path m.entries ≡ a ∷ [] = once m.entries distinct a h in
      let y : of_path b.path m.entries ≡ b ∷ [] = once m.entries distinct b k in
      let z : of_path a.path m.entries ≡ of_path b.path m.entries = ap (λ (p : List ℕ). of_path p m.entries) e in
      let lists : a ∷ [] ≡ b ∷ [] = sym x ∙ z ∙ y in
      cc

  module _ (dones : List Deed) (quiet : LandNothing dones) where
    -- the rows that the deeds make
    abbrev rows_made : Rows
    rows_made = effects (deeds.Land l ∷ dones) (row_in all)

    made_row : (text : List ℕ) (n : ℕ) → rows_made (keys.Rev text n) ≡ or_before (option_map (rev_row l.change) (find (is_revision text n) l.entries)) (row_in all (keys.Rev text n))
    made_row text n = done_revs dones (effect (deeds.Land l) (row_in all)) quiet text n

    module _ (text : List ℕ) (n : ℕ) (row : RevRecord) (none : row_in all (keys.Rev text n) ≡ None) (is_made : Some (records.Rev row) ≡ rows_made (keys.Rev text n)) where
      -- the entry of a row that is made of nothing
      record IsOfEntry : Type 0 where
        pub entry : Entry
        pub found : IsFound text n entry m.entries
        pub row_is : records.Rev row ≡ rev_row l.change entry

      of_entry : IsOfEntry
      of_entry = go (find (is_revision text n) l.entries) refl (is_made ∙ made_row text n
          ∙ ap (or_before (option_map (rev_row l.change) (find (is_revision text n) l.entries))) none)
        where
          go : (found : Option Entry) → find (is_revision text n) l.entries ≡ found → Some (records.Rev row) ≡ or_before (option_map (rev_row l.change) found) None → IsOfEntry
          go None f e = absurd cc
          go (Some e) f one = record { entry = e; found = found_entry text n l.entries m.entries is.entries placed ok.0 e f; row_is = some-is one }

      -- it has the spot of its entry's content, or none
      pub new_place : HasSpot all d stores from row
      new_place =
          let x = of_entry in
          by_content x.entry.content (x.found.entry).content (x.found.entry_is).content x.found.at (ap spot_in x.row_is)
        where
          by_content : (s : Option Stored) (c : Option (List ℕ)) → IsStored s c → IsPlaced all d stores from s c
              → spot_of row ≡ record { at = option_map_or (λ (x : Stored). x.spot.at) s 0; length = option_map_or (λ (x : Stored). x.spot.length) s 0 }
              → HasSpot all d stores from row
          by_content None None is at spot = inl spot
          by_content None (Some c) is at spot = absurd is
          by_content (Some s) None is at spot = absurd is
          by_content (Some s) (Some c) is at spot = inr (c, subst (λ (x : Spot). IsPlacedAt all d stores from x c) (sym spot) at)

      -- and none where it isn't live
      pub new_none : have_their_contents m ≡ true → HasNoneIfDeleted row
      new_none whole dead =
          let x = of_entry in
          let own : has_its_content x.found.entry ≡ true = of_all has_its_content m.entries x.found.entry whole x.found.there in
          let word : bytes_live (action_word x.found.entry.action) ≡ false =
          ap (λ (a : model.Action). bytes_live (action_word a)) (sym (x.found.entry_is).action) ∙ (ap is_live (sym x.row_is) ∙ dead) in
          by_content x.entry.content (x.found.entry).content (x.found.entry_is).content
          (no_content (is_live_action x.found.entry.action) (x.found.entry).content (live_word x.found.entry.action word) own) (ap spot_in x.row_is)
        where
          by_content : (s : Option Stored) (c : Option (List ℕ)) → IsStored s c → c ≡ None
              → spot_of row ≡ record { at = option_map_or (λ (x : Stored). x.spot.at) s 0; length = option_map_or (λ (x : Stored). x.spot.length) s 0 }
              → spot_of row ≡ no_spot
          by_content None c is none spot = spot
          by_content (Some s) None is none spot = absurd is
          by_content (Some s) (Some c) is none spot = absurd cc

    -- the content of a new revision is at the spot of its row
    pub new_content : HasRows all d tables.Rev → (path : List ℕ) (n : ℕ) (r : Revision) (bytes : List ℕ) → IsNew path n r → (r.entry).content ≡ Some bytes
        → (row : RevRecord) × ((row_in all (keys.Rev (printed path) n) ≡ None) × ((rows_made (keys.Rev (printed path) n) ≡ Some (records.Rev row)) × IsPlacedAt all d stores from (spot_of row) bytes))
    new_content has path n r bytes x content = go f.0 f.1
      where
        x_good : is_path (x.entry).path ≡ true
        x_good = all_paths l.entries m.entries is.entries ok.0 x.entry x.there

        good : is_path path ≡ true
        good = ap is_path (sym x.path_is) ∙ x_good

        number_is : suc (head d (x.entry).path) ≡ n
        number_is = ap (λ (p : List ℕ). suc (head d p)) x.path_is ∙ sym x.number

        key_is : find (is_revision (printed (x.entry).path) (suc (head d (x.entry).path))) l.entries ≡ find (is_revision (printed path) n) l.entries
        key_is = (λ i. find (is_revision (printed (x.path_is i)) (number_is i)) l.entries)

        f : (e : Entry) × (find (is_revision (printed path) n) l.entries ≡ Some e)
        f = let y = finds_entry l.entries m.entries is.entries x.entry x.there in (y.0, sym key_is ∙ y.1)

        none : row_in all (keys.Rev (printed path) n) ≡ None
        none = ap (λ (k : ℕ). row_in all (keys.Rev (printed path) k)) x.number ∙ no_row has path good

        by_content : (s : Option Stored) (c : Option (List ℕ)) → c ≡ Some bytes → IsStored s c → IsPlaced all d stores from s c
            → IsPlacedAt all d stores from (record { at = option_map_or (λ (x : Stored). x.spot.at) s 0; length = option_map_or (λ (x : Stored). x.spot.length) s 0 }) bytes
        by_content None None e is at = absurd cc
        by_content None (Some c) e is at = absurd is
        by_content (Some s) None e is at = absurd is
        by_content (Some s) (Some c) e is at = subst (λ (b : List ℕ). IsPlacedAt all d stores from s.spot b) (some-is e) at

        go : (e : Entry) → find (is_revision (printed path) n) l.entries ≡ Some e
            → (row : RevRecord) × ((row_in all (keys.Rev (printed path) n) ≡ None) × ((rows_made (keys.Rev (printed path) n) ≡ Some (records.Rev row)) × IsPlacedAt all d stores from (spot_of row) bytes))
        go e found =
            let z = found_entry (printed path) n l.entries m.entries is.entries placed ok.0 e found in
            let same_entry : z.entry ≡ x.entry = one_entry z.entry x.entry z.there x.there (one_path (z.entry).path (x.entry).path z.good x_good (z.text_is ∙ ap printed (sym x.path_is))) in
            let content_is : (z.entry).content ≡ Some bytes = ap (λ (w : model.Entry). w.content) same_entry ∙ ap (λ (w : Revision). (w.entry).content) x.made_is ∙ content in
            let there : rows_made (keys.Rev (printed path) n) ≡ Some (rev_row l.change e) =
            made_row (printed path) n ∙ ap (λ (o : Option Entry). or_before (option_map (rev_row l.change) o) (row_in all (keys.Rev (printed path) n))) found in
            (_, (none, (there, by_content e.content (z.entry).content content_is (z.entry_is).content z.at)))
