use Rattle.std.proofs.Common.{◌≡◌, ◌++◌}
use Rattle.std.specs.Prelude.{filter}
use Rattle.depot_rows.specs.table_changes.Changed.{rows_of}
use Rattle.named_files.specs.Listed.{has_beginning, listed, listing_table}
use Rattle.named_files.proofs.choosing.add_files_below.Given as goal

abbrev pub invariant-loop-row : goal.invariant-loop-row
invariant-loop-row l = l.paths ++ listed l.listing l.row-iterator ≡ l.fn.paths ++ filter (has_beginning l.beginning) (listed l.listing (rows_of l.tables (listing_table l.listing)))
