use Rattle.std.proofs.Common.{◌≡◌}
use Rattle.depot_rows.specs.db_records.declared.table.TableId.TheVariants as tables
use Rattle.depot_rows.specs.table_changes.Changed.{rows_of}
use Rattle.named_files.specs.Listed.{listed}
use Rattle.named_files.specs.declared.listing.Listing.TheVariants.{Submitted}
use Rattle.history_query.specs.Leaping.{files_from}
use Rattle.history_query.proofs.leaping.file_from.Given as goal

abbrev pub invariant-loop-row : goal.invariant-loop-row
invariant-loop-row l = listed Submitted l.row-iterator ≡ files_from l.from (listed Submitted (rows_of l.tables tables.Rev))
