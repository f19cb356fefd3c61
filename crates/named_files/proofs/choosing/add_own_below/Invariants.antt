use Rattle.std.proofs.Common.{◌≡◌, ◌++◌}
use Rattle.std.specs.Prelude.{filter}
use Rattle.depot_rows.specs.table_changes.Changed.{rows_of}
use Rattle.depot_rows.specs.table_store.Marks.{is_of_client}
use Rattle.named_files.specs.Listed.{is_in_front, leading, listed, listing_table}
use Rattle.named_files.proofs.choosing.add_own_below.Given as goal

abbrev pub invariant-loop-row : goal.invariant-loop-row
invariant-loop-row l =
    l.paths ++ listed l.listing (leading l.listing l.beginning l.row-iterator)
    ≡ l.fn.paths ++ listed l.listing (filter (is_in_front l.listing l.beginning) (filter (is_of_client l.client) (rows_of l.tables (listing_table l.listing))))
