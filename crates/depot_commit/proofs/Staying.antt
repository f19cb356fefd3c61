-- Deeds after which no row differs leave the contents of revisions as they are.
use Rattle.std.proofs.Common.{◌≡◌, ℕ, zero, suc, Bool, true, false, ◌&&◌, List, [], ◌∷◌, ◌++◌, length, map, Option, Some, None, refl, sym, ap, ◌∙◌, append_assoc, append-nil}
use Rattle.std.specs.Prelude.{slice_get, option_map, option_and_then}
use Rattle.std.specs.List.{list_all}
use Rattle.std.proofs.lemmas.Option.{same_Some}
use Rattle.std.proofs.lemmas.Bool.{and_parts}
use Rattle.depot_rows.specs.depot_path.Path.{printed, is_path}
use Rattle.depot_rows.specs.db_records.declared.key.Key.TheVariants as keys
use Rattle.depot_rows.specs.db_records.declared.record.Record.{Record}
use Rattle.depot_rows.specs.depot_model.Deeds.{Deed, Land, Landing, Entry}
use Rattle.depot_rows.specs.db_records.declared.record.Record.TheVariants.{Rev as RevRow}
use Rattle.depot_rows.specs.db_records.declared.rows.RevRecord.{RevRecord}
use Rattle.depot_rows.specs.db_records.declared.table.TableId.TheVariants.{Rev}
use Rattle.depot_rows.specs.table_changes.Changed.{AllRows}
use Rattle.depot_rows.specs.depot_model.Records.{record_of, rev_record, unplaced, SameRows}
use Rattle.depot_rows.specs.depot_model.Revisions.{Revision, revision, revisions, revision_in, entries_at}
use Rattle.depot_rows.specs.depot_model.Rules.{IsSound, has_paths}
use Rattle.depot_rows.specs.depot_model.Step.{after}
use Rattle.depot_rows.proofs.Spelled.{at_path-here}
use Rattle.depot_rows.specs.Standing.{HasRows, row_in}
use Rattle.depot_facts.specs.Contents.{SameContents}
use Rattle.depot_facts.proofs.Nowhere.{no_entry}

-- ---- revisions come behind those that are there

-- the revisions of a path, and those behind them
record More (path : List ℕ) (d e : List Deed) : Type 0 where
  more : List Revision
  are : revisions e path ≡ revisions d path ++ more

one_deed : (path : List ℕ) (deed : Deed) (d : List Deed) → More path d (deed ∷ d)
one_deed path (Land l) d = record { more = entries_at path l; are = refl }
one_deed path _ d = record { more = []; are = sym (append-nil (revisions d path)) }

all_deeds : (path : List ℕ) (d deeds : List Deed) → More path d (after d deeds)
all_deeds path d [] = record { more = []; are = sym (append-nil (revisions d path)) }
all_deeds path d (deed ∷ deeds) =
    let first = one_deed path deed d in
    let rest = all_deeds path (deed ∷ d) deeds in
    record {
      more = first.more ++ rest.more;
      are = rest.are ∙ (ap (λ (l : List Revision). l ++ rest.more) first.are ∙ append_assoc (revisions d path) first.more rest.more);
    }

-- ---- a row tells how many there are

behind : (l : List Revision) (r : Revision) (rest : List Revision) → slice_get (l ++ r ∷ rest) (length l) ≡ Some r
behind [] r rest = refl
behind (first ∷ l) r rest = behind l r rest

past : (l : List Revision) → slice_get l (length l) ≡ None
past [] = refl
past (first ∷ l) = past l

row_here : (d : List Deed) (path : List ℕ) (n : ℕ) → is_path path ≡ true → record_of d (keys.Rev (printed path) n) ≡ option_map (rev_record n) (revision d path n)
row_here d path n is = at_path-here path (λ x. option_map (rev_record n) (revision d x n)) is

of_path : (d e : List Deed) (path : List ℕ) → is_path path ≡ true → SameRows d e → (more : List Revision) → revisions e path ≡ revisions d path ++ more → revisions e path ≡ revisions d path
of_path d e path is alike [] are = are ∙ append-nil (revisions d path)
of_path d e path is alike (r ∷ rest) are =
    let n : ℕ = suc (length (revisions d path)) in
    let old : revision d path n ≡ None = past (revisions d path) in
    let new : revision e path n ≡ Some r = ap (λ (l : List Revision). slice_get l (length (revisions d path))) are ∙ behind (revisions d path) r rest in
    let none : record_of d (keys.Rev (printed path) n) ≡ None = row_here d path n is ∙ ap (option_map (rev_record n)) old in
    let some : record_of e (keys.Rev (printed path) n) ≡ Some (rev_record n r) = row_here e path n is ∙ ap (option_map (rev_record n)) new in
    let both : Some (rev_record n r) ≡ None = sym some ∙ (sym (alike (keys.Rev (printed path) n)) ∙ none) in
    absurd cc

-- ---- what is no path has no revision

front_all : (test : List ℕ → Bool) (one other : List (List ℕ)) → list_all test (one ++ other) ≡ true → (list_all test one ≡ true) × (list_all test other ≡ true)
front_all test [] other all = (refl, all)
front_all test (x ∷ one) other all =
    let rest = front_all test one other (and_parts (test x) (list_all test (one ++ other)) all).1 in
    (ap (λ (b : Bool). b && list_all test one) (and_parts (test x) (list_all test (one ++ other)) all).0 ∙ rest.0, rest.1)

none_landed : (path : List ℕ) → is_path path ≡ false → (l : Landing) → has_paths (Land l) ≡ true → entries_at path l ≡ []
none_landed path no_path l all = ap (map (λ (e : Entry). let r : Revision = record { landing = l; entry = e } in r)) (no_entry path no_path l.entries all)

no_revisions : (path : List ℕ) → is_path path ≡ false → (d : List Deed) → list_all has_paths d ≡ true → revisions d path ≡ []
no_revisions path no_path [] all = refl
no_revisions path no_path (Land l ∷ d) all =
    ap (λ (r : List Revision). r ++ entries_at path l) (no_revisions path no_path d (and_parts (has_paths (Land l)) (list_all has_paths d) all).1)
    ∙ none_landed path no_path l (and_parts (has_paths (Land l)) (list_all has_paths d) all).0
no_revisions path no_path (deed ∷ d) all = no_revisions path no_path d (and_parts (has_paths deed) (list_all has_paths d) all).1

-- ---- contents

pub contents_stay : (d deeds : List Deed) → IsSound d → IsSound (after d deeds) → SameRows d (after d deeds) → SameContents d (after d deeds)
contents_stay d deeds sound sound_after alike path n = ap (λ (l : List Revision). option_and_then (λ (r : Revision). r.entry.content) (revision_in l n)) (sym (same_revisions (is_path path) refl))
  where
    same_revisions : (b : Bool) → is_path path ≡ b → revisions (after d deeds) path ≡ revisions d path
    same_revisions true is = let all = all_deeds path d deeds in of_path d (after d deeds) path is alike all.more all.are
    same_revisions false is = no_revisions path is (after d deeds) sound_after.paths ∙ sym (no_revisions path is d sound.paths)

-- ---- a revision has its row

-- a record that is a revision's apart from its place is one
of_revision : (x : Record) (row : RevRecord) → unplaced x ≡ RevRow row → (r : RevRecord) × (x ≡ RevRow r)
of_revision (RevRow r) row is = (r, refl)
of_revision _ row is = absurd cc

-- the path of a revision is one
pub path_there : (d : List Deed) → IsSound d → (path : List ℕ) (n : ℕ) (r : Revision) → revision d path n ≡ Some r → is_path path ≡ true
path_there d sound path zero r there = absurd cc
path_there d sound path (suc n) r there = go (is_path path) refl
  where
    go : (b : Bool) → is_path path ≡ b → is_path path ≡ true
    go true is = is
    go false is = absurd (let both : None ≡ Some r = sym (ap (λ (l : List Revision). slice_get l n) (no_revisions path is d sound.paths)) ∙ there in cc)

pub row_there : (d : List Deed) → IsSound d → (rows : AllRows) → HasRows rows d Rev → (path : List ℕ) (n : ℕ) (r : Revision) → revision d path n ≡ Some r
    → (row : RevRecord) × (row_in rows (keys.Rev (printed path) n) ≡ Some (RevRow row))
row_there d sound rows has path n r there =
    go (row_in rows (keys.Rev (printed path) n)) refl
    (has (keys.Rev (printed path) n) refl ∙ (row_here d path n (path_there d sound path n r there) ∙ ap (option_map (rev_record n)) there))
  where
    go : (found : Option Record) → row_in rows (keys.Rev (printed path) n) ≡ found → option_map unplaced found ≡ Some (rev_record n r)
        → (row : RevRecord) × (row_in rows (keys.Rev (printed path) n) ≡ Some (RevRow row))
    go None is e = absurd cc
    go (Some x) is e = let one = of_revision x _ (same_Some _ _ e) in (one.0, is ∙ ap (λ (y : Record). Some y) one.1)
