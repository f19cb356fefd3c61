-- A file that has the contents of a depot has those of the depot cut to a filter, and the archive tells them.
use Rattle.std.proofs.Common.{◌≡◌, ◌≤◌, ◌+◌, ℕ, zero, suc, Bool, true, false, cond, List, [], length, min, take, drop, Option, Some, None, refl, sym, ap, ◌∙◌, arith}
use Rattle.std.specs.Prelude.{map, option_map, slice_get}
use Rattle.std.proofs.lemmas.List.{length-take}
use Rattle.std.proofs.lemmas.Option.{slice_get-map}
use Rattle.outside_api.specs.Says.{DiskSays}
use Rattle.archive_file.specs.Archive.{used_of}
use Rattle.archive_file.specs.Contents.{IsTold}
use Rattle.archive_file.specs.declared.archive.Archive.{Archive}
use Rattle.archive_file.proofs.Spots.{front_of}
use Rattle.depot_rows.specs.depot_path.Path.{printed}
use Rattle.depot_rows.specs.db_records.declared.key.Key.TheVariants as keys
use Rattle.depot_rows.specs.db_records.declared.record.Record.TheVariants.{Rev as RevRow}
use Rattle.depot_rows.specs.db_records.declared.table.TableId.TheVariants as tables
use Rattle.depot_rows.specs.depot_model.Cut.{cut}
use Rattle.depot_rows.specs.depot_model.Deeds.{Deed}
use Rattle.depot_rows.specs.depot_model.Filter.{is_inside}
use Rattle.depot_rows.specs.depot_model.Revisions.{Revision, revision, revision_in, revisions}
use Rattle.depot_rows.specs.depot_model.Rules.{IsSound}
use Rattle.depot_rows.specs.depot_model.declared.filter.FilterRule.{FilterRule}
use Rattle.depot_rows.specs.Cut.{cut_row, is_text_inside}
use Rattle.depot_rows.specs.Standing.{row_in}
use Rattle.depot_rows.proofs.CutPairs.{text_as}
use Rattle.depot_rows.proofs.Cutting.{cut_rev, revisions_cut, revisions_out}
use Rattle.recovery.specs.Holding.{spots_end}
use Rattle.recovery.specs.Standing.{HasContents}
use Rattle.recovery.proofs.GoodSpots.{row_end}
use Rattle.replica_pull.specs.Cut.{AreCut}
use Rattle.depot_commit.proofs.Staying.{path_there}
use Rattle.depot_rows.specs.table_changes.Changed.{AllRows}

module _ (rules : List FilterRule) (d : List Deed) (sound : IsSound d) where
  -- a revision of the cut depot is one of the depot, of a file inside, with the same content
  pub record IsCutOf (path : List ℕ) (n : ℕ) (r : Revision) : Type 0 where
    pub inside : is_inside rules path ≡ true
    pub whole : Revision
    pub there : revision d path n ≡ Some whole
    pub content : whole.entry.content ≡ r.entry.content

  none_there : (n : ℕ) (r : Revision) → revision_in [] n ≡ Some r → ⊥
  none_there zero r there = cc
  none_there (suc n) r there = cc

  uncut : (path : List ℕ) (n : ℕ) (revs : List Revision) (r : Revision) → revision_in (map (cut_rev rules) revs) n ≡ Some r
      → (whole : Revision) × (revision_in revs n ≡ Some whole) × (whole.entry.content ≡ r.entry.content)
  uncut path zero revs r there = absurd cc
  uncut path (suc n) revs r there = go (slice_get revs n) (sym (slice_get-map (cut_rev rules) revs n) ∙ there)
    where
      go : (found : Option Revision) → option_map (cut_rev rules) found ≡ Some r → (whole : Revision) × (found ≡ Some whole) × (whole.entry.content ≡ r.entry.content)
      go None is = absurd cc
      go (Some whole) is = let same : cut_rev rules whole ≡ r = cc in (whole, refl, ap (λ (x : Revision). x.entry.content) same)

  cut_of : (path : List ℕ) (n : ℕ) (r : Revision) → revision (cut rules d) path n ≡ Some r → IsCutOf path n r
  cut_of path n r there = go (is_inside rules path) refl
    where
      go : (b : Bool) → is_inside rules path ≡ b → IsCutOf path n r
      go true inside =
          let u = uncut path n (revisions d path) r (ap (λ (revs : List Revision). revision_in revs n) (sym (revisions_cut rules path inside d)) ∙ there) in
          record { inside = inside; whole = u.0; there = u.1; content = u.2 }
      go false outside = absurd (none_there n r (ap (λ (revs : List Revision). revision_in revs n) (sym (revisions_out rules path outside d)) ∙ there))

  pub cut_contents : (whole rows : AllRows) (file : List ℕ) → AreCut rules whole rows → HasContents file whole d → HasContents file rows (cut rules d)
  cut_contents whole rows file are has path n r bytes there content =
      let from = cut_of path n r there in
      let found = has path n from.whole bytes from.there (from.content ∙ content) in
      let left : is_text_inside rules (printed path) ≡ true = text_as rules path (path_there d sound path n from.whole from.there) ∙ from.inside in
      let kept : row_in rows (keys.Rev (printed path) n) ≡ option_map (cut_row rules) (row_in whole (keys.Rev (printed path) n)) =
      are (keys.Rev (printed path) n) ∙ ap (λ (b : Bool). cond b (option_map (cut_row rules) (row_in whole (keys.Rev (printed path) n))) None) left in
      (found.0, kept ∙ ap (option_map (cut_row rules)) found.1, found.2)

-- an archive that has the contents of a depot tells them
pub contents_told : {D : Type 0} (disk_says : DiskSays D) (archive : Archive D) (bytes : List ℕ) (told : IsTold disk_says archive bytes) (rows : AllRows) (d : List Deed) → spots_end (rows tables.Rev) ≤ used_of archive
    → HasContents (told.files 0) rows d → HasContents bytes rows d
contents_told disk_says archive bytes told rows d ends has path n r content there content_is =
    let found = has path n r content there content_is in
    let row = found.0 in
    let le : row.at + row.length ≤ spots_end (rows tables.Rev) = row_end (rows tables.Rev) (keys.Rev (printed path) n) (RevRow row) found.1 in
    let file = told.files 0 in
    let within = found.2.within in
    let long : length bytes ≡ min (used_of archive) (length file) = ap length told.are ∙ length-take (used_of archive) file in (
      row,
      found.1,
      record {
        within = omega (arith, le, ends, long, within);
        is =
            ap (λ (l : List ℕ). take row.length (drop row.at l)) told.are
            ∙ (sym (front_of row.at row.length (used_of archive) file (omega (arith, le, ends))) ∙ found.2.is);
      },
    )
