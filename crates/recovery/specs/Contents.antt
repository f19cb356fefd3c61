-- The contents of revisions in the archive's file (Helix Core database schema reference, "db.rev"; where a content lies is this project's own choice).
use Rattle.std.specs.Prelude.{◌≡◌, ◌≢◌, ◌⊎◌, ◌+◌, ◌<◌, ◌≤◌, ℕ, IsTrue, List, ◌∷◌, ◌++◌, length, take, drop}
use Rattle.std.specs.List.{AllByRecursion}
use Rattle.outside_api.specs.Disk.{Files}
use Rattle.archive_file.specs.Archive.{Has}
use Rattle.depot_rows.specs.db_records.Record.{is_live}
use Rattle.depot_rows.specs.db_records.declared.record.Record.{Record}
use Rattle.depot_rows.specs.db_records.declared.record.Record.TheVariants.{Rev}
use Rattle.depot_rows.specs.db_records.declared.rows.RevRecord.{RevRecord}
use Rattle.depot_rows.specs.db_records.declared.table.TableId.TheVariants as tables
use Rattle.depot_rows.specs.depot_model.Records.{digest}
use Rattle.depot_rows.specs.table_changes.Changed.{AllRows}
use Rattle.recovery.specs.Holding.{HoldWithin, spots_end}
use Rattle.recovery.specs.Rules.{SuitFiles}

-- the bytes at the spot of a row
abbrev pub bytes_at : List ℕ → RevRecord → List ℕ
bytes_at file row = take row.length (drop row.at file)

-- the file has bytes at the spot of a row, and the row has their digest
pub record HasDigested (file : List ℕ) (row : RevRecord) : Type 0 where
  pub bytes : List ℕ
  pub there : Has file (record { at = row.at; length = row.length }) bytes
  pub digested : row.digest ≡ digest bytes

-- a live revision has its content in the file; a deleted one has none, and no other row has
abbrev pub IsWhole : List ℕ → Record → Type 0
IsWhole file (Rev row) = IsTrue (is_live (Rev row)) → HasDigested file row
IsWhole file _ = Unit {0}

abbrev pub AreWhole : List ℕ → List Record → Type 0
AreWhole file rows = AllByRecursion (IsWhole file) rows

-- The files have these rows, which keep their rules and tell the generation, no spot ends behind the archive, and each live revision has its content there.
pub record HoldWhole (journal archive : Files) (rows : AllRows) : Type 0 where
  pub hold_within : HoldWithin journal archive rows
  pub whole : AreWhole (archive 0) (rows tables.Rev)
  pub suit : SuitFiles hold_within.hold.was.generation rows

-- the spot of a row ends behind the file, or that of a live revision has another digest
abbrev pub IsBadSpot : List ℕ → RevRecord → Type 0
IsBadSpot file row = (length file < row.at + row.length) ⊎ (IsTrue (is_live (Rev row)) × (row.digest ≢ digest (bytes_at file row)))

-- the place where a row has a bad spot
abbrev pub IsBadAt : List ℕ → Record → ℕ → Type 0
IsBadAt file (Rev row) place = (place ≡ row.at) × IsBadSpot file row
IsBadAt file _ place = ⊥

-- The place of the first bad spot of these rows: those before it are whole, and no spot of them ends behind the file.
pub record IsSpotDamage (file : List ℕ) (rows : List Record) (place : ℕ) : Type 0 where
  pub front : List Record
  pub row : Record
  pub after : List Record
  pub parts : rows ≡ front ++ row ∷ after
  pub whole : AreWhole file front
  pub within : spots_end front ≤ length file
  pub bad : IsBadAt file row place
