-- Contents stay where the rows of revisions and the contents of the depot stay, and those that a reply waits for are at their places.
use Rattle.std.proofs.Common.{◌≡◌, ◌≤◌, ℕ, List, [], ◌∷◌, length, Option, Some, None, refl, sym, ap, subst, ◌∙◌}
use Rattle.std.specs.Prelude.{option_and_then}
use Rattle.outside_api.specs.Disk.{Files}
use Rattle.archive_file.specs.Archive.{Has}
use Rattle.depot_rows.specs.db_records.declared.change.Spot.{Spot}
use Rattle.depot_rows.specs.db_records.declared.key.Key.TheVariants as keys
use Rattle.depot_rows.specs.db_records.declared.record.Record.{Record}
use Rattle.depot_rows.specs.db_records.declared.record.Record.TheVariants.{Rev as RevRow}
use Rattle.depot_rows.specs.db_records.declared.rows.RevRecord.{RevRecord}
use Rattle.depot_rows.specs.db_records.declared.table.TableId.TheVariants.{Rev}
use Rattle.depot_rows.specs.depot_path.Path.{printed}
use Rattle.depot_rows.specs.table_store.Rows.{row_at}
use Rattle.depot_rows.specs.table_changes.Changed.{AllRows}
use Rattle.depot_rows.specs.depot_model.Deeds.{Deed}
use Rattle.depot_rows.specs.depot_model.Revisions.{Revision, revision}
use Rattle.recovery.specs.Holding.{spots_end}
use Rattle.recovery.specs.Standing.{HasContent, HasContents}
use Rattle.reply_rows.specs.Made.{ComeFrom, ComesFrom}
use Rattle.reply_rows.specs.declared.content.RowContent.{RowContent}
use Rattle.reply_rows.specs.declared.content.RowContent.TheVariants.{At, Given}
use Rattle.depot_commit.specs.Holding.{HasItsContents}
use Rattle.depot_commit.specs.Storing.{AreAt, IsAt}
use Rattle.depot_facts.specs.Contents.{SameContents}

abbrev pub content_of : Option Revision → Option (List ℕ)
content_of found = option_and_then (λ (r : Revision). r.entry.content) found

-- a revision's content is that at its place
content_here : (found : Option Revision) (r : Revision) (bytes : List ℕ) → found ≡ Some r → r.entry.content ≡ Some bytes → content_of found ≡ Some bytes
content_here found r bytes is content = ap content_of is ∙ content

-- and where a content is, there is its revision
pub revision_there : (found : Option Revision) (bytes : List ℕ) → content_of found ≡ Some bytes → (r : Revision) × (found ≡ Some r) × (r.entry.content ≡ Some bytes)
revision_there None bytes is = absurd cc
revision_there (Some r) bytes is = (r, refl, is)

-- the same file, the same rows of revisions and the same contents
pub contents_alike : (rows now : AllRows) (d e : List Deed) (one other : Files) → other 0 ≡ one 0 → now Rev ≡ rows Rev → SameContents d e → HasItsContents rows d one → HasItsContents now e other
contents_alike rows now d e one other file same alike has = record {
  within =
      subst (λ (f : List ℕ). spots_end (now Rev) ≤ length f) (sym file)
      (subst (λ (l : List Record). spots_end l ≤ length (one 0)) (sym same) has.within);
  contents = λ path n r bytes is content.
      let there = revision_there (revision d path n) bytes (alike path n ∙ content_here (revision e path n) r bytes is content) in
      let found = has.contents path n there.0 bytes there.1 there.2 in (
        found.0,
        subst (λ (l : List Record). row_at (keys.Rev (printed path) n) l ≡ Some (RevRow found.0)) (sym same) found.1,
        subst (λ (f : List ℕ). HasContent f found.0 bytes) (sym file) found.2,
      );
}

pub one_row : (a b : RevRecord) → Some (RevRow a) ≡ Some (RevRow b) → a ≡ b
one_row a b e = cc

-- a content that comes from a spot or is given is there, in a file that has the contents of the depot
content_at_place : (file : List ℕ) (rows : AllRows) (d : List Deed) → HasContents file rows d → (content : List ℕ) (place : RowContent) → ComesFrom rows d content place → IsAt file place content
content_at_place file rows d has content (At spot) s =
    let r = revision_there (revision d s.path s.rev) content s.content_is in
    let found = has s.path s.rev r.0 content r.1 r.2 in
    let row : HasContent file s.row content = subst (λ (x : RevRecord). HasContent file x content) (one_row found.0 s.row (sym found.1 ∙ s.there)) found.2 in
    subst (λ (x : Spot). Has file x content) (sym s.at) row
content_at_place file rows d has content (Given text) same = same

-- so are those that a reply waits for
pub contents_at : (file : List ℕ) (rows : AllRows) (d : List Deed) → HasContents file rows d → (contents : List (List ℕ)) (places : List RowContent) → ComeFrom rows d contents places → AreAt file places contents
contents_at file rows d has [] [] from = tt
contents_at file rows d has [] (place ∷ places) from = absurd from
contents_at file rows d has (content ∷ contents) [] from = absurd from
contents_at file rows d has (content ∷ contents) (place ∷ places) from =
    (content_at_place file rows d has content place from.0, contents_at file rows d has contents places from.1)
