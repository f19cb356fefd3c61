-- When a pair of images, of the journal's disk and of the archive's, stands for a depot. That a depot is the list of its deeds is this
-- project's own choice.
use Rattle.std.specs.Prelude.{◌≡◌, ◌≤◌, ℕ, List, length, Some, codes}
use Rattle.outside_api.specs.Disk.{Files}
use Rattle.archive_file.specs.Archive.{Has}
use Rattle.depot_rows.specs.db_records.declared.key.Key.TheVariants as keys
use Rattle.depot_rows.specs.db_records.declared.record.Record.TheVariants.{Rev}
use Rattle.depot_rows.specs.db_records.declared.rows.RevRecord.{RevRecord}
use Rattle.depot_rows.specs.db_records.declared.table.TableId.TheVariants as tables
use Rattle.disk_journal.specs.Images.{Committed, HasCommitted}
use Rattle.depot_rows.specs.table_store.Rows.{row_at}
use Rattle.depot_rows.specs.table_changes.Changed.{AllRows}
use Rattle.depot_rows.specs.depot_model.Deeds.{Deed}
use Rattle.depot_rows.specs.depot_model.Revisions.{Revision, revision}
use Rattle.depot_rows.specs.depot_model.Rules.{value_of}
use Rattle.depot_rows.specs.depot_model.Records.{record_of}
use Rattle.depot_rows.specs.depot_path.Path.{printed}
use Rattle.depot_rows.specs.Standing.{Stand}
use Rattle.recovery.specs.Holding.{HasAllRows, spots_end}
use Rattle.recovery.specs.Rules.{DeletesAreUnplaced}

-- the archive's file has the bytes at the spot of a row
abbrev pub HasContent : List ℕ → RevRecord → List ℕ → Type 0
HasContent file row bytes = Has file (record { at = row.at; length = row.length }) bytes

-- the archive has the content of each revision that has one, at the spot of its row
abbrev pub HasContents : List ℕ → AllRows → List Deed → Type 0
HasContents file rows d = (path : List ℕ) (n : ℕ) (r : Revision) (bytes : List ℕ) → revision d path n ≡ Some r → r.entry.content ≡ Some bytes →
    (row : RevRecord) × (row_at (keys.Rev (printed path) n) (rows tables.Rev) ≡ Some (Rev row)) × HasContent file row bytes

-- The files' rows are those of the depot, deleted revisions having no place, the counter `journal` is the generation, and the archive has the contents
-- and no spot past its end.
pub record StandFor (d : List Deed) (journal archive : Files) : Type 0 where
  pub was : Committed
  pub committed : HasCommitted was journal
  pub rows : AllRows
  pub has : HasAllRows was rows
  pub stand : Stand rows d
  pub deletes : DeletesAreUnplaced (rows tables.Rev)
  pub generation : value_of (record_of d (keys.Counter (codes "journal"))) ≡ was.generation
  pub within : spots_end (rows tables.Rev) ≤ length (archive 0)
  pub contents : HasContents (archive 0) rows d
