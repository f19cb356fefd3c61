-- Rows of revisions that were there stay as they stand, and their contents with them.
use Rattle.std.proofs.Common.{◌≡◌, ℕ, zero, suc, Bool, true, false, List, [], Option, Some, None, inl, refl, sym, ap, subst, ◌∙◌}
use Rattle.std.specs.Prelude.{is_some, option_map, option_and_then, slice_get}
use Rattle.depot_rows.specs.depot_path.Path.{printed, is_path}
use Rattle.depot_rows.specs.db_records.declared.change.Change.{Change}
use Rattle.depot_rows.specs.db_records.declared.key.Key.{Key}
use Rattle.depot_rows.specs.db_records.declared.key.Key.TheVariants as keys
use Rattle.depot_rows.specs.db_records.declared.record.Record.{Record}
use Rattle.depot_rows.specs.db_records.declared.record.Record.TheVariants as records
use Rattle.depot_rows.specs.db_records.declared.rows.RevRecord.{RevRecord}
use Rattle.depot_rows.specs.db_records.declared.table.TableId.TheVariants as tables
use Rattle.depot_rows.specs.table_changes.Changed.{AllRows, changed_by}
use Rattle.depot_rows.specs.depot_model.Deeds.{Deed}
use Rattle.depot_rows.specs.depot_model.Records.{record_of, rev_record, unplaced}
use Rattle.depot_rows.specs.depot_model.Revisions.{Revision, revisions, revision}
use Rattle.depot_rows.specs.depot_model.Rules.{IsSound, HasRev}
use Rattle.depot_rows.specs.depot_model.Steps.Submitting.{content_at}
use Rattle.depot_rows.specs.Standing.{HasRows, row_in}
use Rattle.depot_rows.proofs.Spelled.{at_path-here}
use Rattle.depot_facts.proofs.Nowhere.{no_revisions}
use Rattle.row_changes.specs.Differences.{AreDifferences, LeadsTo, change_at}
use Rattle.row_changes.proofs.Kept.{stored-after, row_after}
use Rattle.stored_contents.specs.Placed.{IsPlacedAt, spot_of}

-- a content has its revision
pub revision_there : (found : Option Revision) (bytes : List ℕ) → option_and_then (λ (r : Revision). r.entry.content) found ≡ Some bytes
    → (r : Revision) × ((found ≡ Some r) × (r.entry.content ≡ Some bytes))
revision_there None bytes is = absurd cc
revision_there (Some r) bytes is = (r, (refl, is))

-- a record that is a revision's apart from its place is one
of_revision : (x : Record) (row : RevRecord) → unplaced x ≡ records.Rev row → (r : RevRecord) × (x ≡ records.Rev r)
of_revision (records.Rev r) row is = (r, refl)
of_revision _ row is = absurd cc

some-is : {A : Type 0} {x y : A} → Some x ≡ Some y → x ≡ y
some-is e = cc

module _ (d : List Deed) (sound : IsSound d) where
  nowhere : (path : List ℕ) (n : ℕ) → revisions d path ≡ [] → revision d path n ≡ None
  nowhere path zero none = refl
  nowhere path (suc n) none = ap (λ (revs : List Revision). slice_get revs n) none

  -- the path of a revision is one
  pub of_path : (path : List ℕ) (n : ℕ) (r : Revision) → revision d path n ≡ Some r → is_path path ≡ true
  of_path path n r there = go (is_path path) refl
    where
      go : (b : Bool) → is_path path ≡ b → is_path path ≡ true
      go true is = is
      go false is = absurd (let both : None ≡ Some r = sym (nowhere path n (no_revisions d sound.paths path is)) ∙ there in cc)

  module _ (all : AllRows) (has : HasRows all d tables.Rev) (path : List ℕ) (n : ℕ) (r : Revision) (there : revision d path n ≡ Some r) where
    row_is : option_map unplaced (row_in all (keys.Rev (printed path) n)) ≡ Some (rev_record n r)
    row_is =
        has (keys.Rev (printed path) n) refl ∙ at_path-here path (λ x. option_map (rev_record n) (revision d x n)) (of_path path n r there)
        ∙ ap (option_map (rev_record n)) there

    -- its row
    pub row_there : (row : RevRecord) × (row_in all (keys.Rev (printed path) n) ≡ Some (records.Rev row))
    row_there = go (row_in all (keys.Rev (printed path) n)) refl row_is
      where
        go : (found : Option Record) → row_in all (keys.Rev (printed path) n) ≡ found → option_map unplaced found ≡ Some (rev_record n r)
            → (row : RevRecord) × (row_in all (keys.Rev (printed path) n) ≡ Some (records.Rev row))
        go None is told = absurd cc
        go (Some x) is told = let row = of_revision x _ (some-is told) in (row.0, is ∙ ap Some row.1)

module _ (all : AllRows) (d e : List Deed) (changes : List Change) (has : HasRows all d tables.Rev) (differ : AreDifferences all d e changes)
    (kept : (text : List ℕ) (n : ℕ) → HasRev (record_of d) text n → record_of e (keys.Rev text n) ≡ record_of d (keys.Rev text n)) where
  no_change : (row : Record) (change : Option Change) → LeadsTo (Some row) (Some (unplaced row)) change → change ≡ None
  no_change row None leads = refl
  no_change row (Some change) leads = absurd (leads.0 refl)

  -- no change is at the key of a revision that was there
  pub unchanged : (text : List ℕ) (n : ℕ) (row : Record) → row_in all (keys.Rev text n) ≡ Some row → change_at changes (keys.Rev text n) ≡ None
  unchanged text n row is = no_change row (change_at changes key) leads
    where
      key : Key
      key = keys.Rev text n

      old_is : record_of d key ≡ Some (unplaced row)
      old_is = sym (has key refl) ∙ ap (option_map unplaced) is

      new_is : record_of e key ≡ Some (unplaced row)
      new_is = kept text n (ap is_some old_is) ∙ old_is

      leads : LeadsTo (Some row) (Some (unplaced row)) (change_at changes key)
      leads = subst (λ (x : Option Record). LeadsTo (Some row) x (change_at changes key)) new_is
          (subst (λ (x : Option Record). LeadsTo x (record_of e key) (change_at changes key)) is (differ.each key has))

  pub stays : (text : List ℕ) (n : ℕ) (row : Record) → row_in all (keys.Rev text n) ≡ Some row → row_in (changed_by all changes) (keys.Rev text n) ≡ Some row
  stays text n row is =
      stored-after all changes differ.rising (keys.Rev text n)
      ∙ ap (λ (c : Option Change). row_after c (row_in all (keys.Rev text n))) (unchanged text n row is) ∙ is

  -- a change is at a key that had no revision
  pub was_none : (text : List ℕ) (n : ℕ) (change : Change) → change_at changes (keys.Rev text n) ≡ Some change → row_in all (keys.Rev text n) ≡ None
  was_none text n change own = go (row_in all (keys.Rev text n)) refl
    where
      go : (found : Option Record) → row_in all (keys.Rev text n) ≡ found → row_in all (keys.Rev text n) ≡ None
      go None is = is
      go (Some row) is = absurd (let both : None ≡ Some change = sym (unchanged text n row is) ∙ own in cc)

  -- the contents that were there
  pub old_content : (sound : IsSound d) (stores : List (List ℕ)) (from : ℕ) (path : List ℕ) (n : ℕ) (bytes : List ℕ) → content_at d path n ≡ Some bytes
      → (row : RevRecord) × (row_in (changed_by all changes) (keys.Rev (printed path) n) ≡ Some (records.Rev row)) × IsPlacedAt all d stores from (spot_of row) bytes
  old_content sound stores from path n bytes content =
      let found = revision_there (revision d path n) bytes content in
      let row = row_there d sound all has path n found.0 found.1.0 in (
        row.0,
        stays (printed path) n (records.Rev row.0) row.1,
        inl (record { path = path; rev = n; row = row.0; there = row.1; at = refl; content_is = content }),
      )
