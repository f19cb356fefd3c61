-- The rows of revisions of files, as they were seen when the files were found. This project's own choice.
use Rattle.std.specs.Prelude.{◌≡◌, ℕ, suc, List, None, Some, map}
use Rattle.std.specs.List.{All}
use Rattle.depot_rows.specs.depot_path.Path.{printed}
use Rattle.depot_rows.specs.db_records.declared.key.Key.TheVariants as keys
use Rattle.depot_rows.specs.db_records.declared.record.Record.{Record}
use Rattle.depot_rows.specs.db_records.declared.record.Record.TheVariants.{Rev}
use Rattle.depot_rows.specs.db_records.declared.rows.RevRecord.{RevRecord}
use Rattle.depot_rows.specs.table_store.Rows.{row_at}
use Rattle.named_files.specs.HeadRows.{IsHead}
use Rattle.newest_revisions.specs.declared.seen.SeenRows.{SeenRows}

abbrev pub kept : SeenRows → List RevRecord
kept seen = map (λ r. r.now) seen.rows.items

-- what was seen are rows of newest revisions, among these rows
abbrev pub AreHeads : List Record → SeenRows → Type 0
AreHeads rows seen = All (IsHead rows) (kept seen)

-- a row is that of the newest revision of a file
pub record IsNewest (rows : List Record) (path : List ℕ) (r : RevRecord) : Type 0 where
  pub path_is : r.path ≡ printed path
  pub here : row_at (keys.Rev r.path r.rev) rows ≡ Some (Rev r)
  pub last : row_at (keys.Rev r.path (suc r.rev)) rows ≡ None
