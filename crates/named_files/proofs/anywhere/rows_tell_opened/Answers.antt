use Rattle.depot_rows.specs.db_records.declared.table.TableId.TheVariants as tables
use Rattle.depot_rows.specs.table_changes.Changed.{rows_of}
use Rattle.depot_rows.proofs.depot_path.Paths.{prints_path}
use Rattle.named_files.proofs.OpenedFiles.{opened_there}
use Rattle.named_files.proofs.anywhere.rows_tell_opened.Goals as goal

pub returns : goal.returns
returns c = λ d path is has.
    opened_there d path (rows_of c.args.tables.now tables.Working) (c.rows_are_openings.ensures d path (prints_path path is) has)
