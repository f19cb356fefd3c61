use Rattle.std.proofs.Common.{◌≡◌, ◌++◌}
use Rattle.std.specs.Option.{option_copied}
use Rattle.depot_rows.specs.table_changes.Changed.{rows_of}
use Rattle.named_files.specs.Anywhere.{paths_after, paths_in_front}
use Rattle.named_files.specs.Listed.{listing_table}
use Rattle.named_files.proofs.anywhere.add_opened_below.Given as goal

abbrev pub invariant-loop-row : goal.invariant-loop-row
invariant-loop-row l =
    l.paths ++ paths_after (option_copied l.last) l.row-iterator ≡ l.fn.paths ++ paths_in_front l.listing (rows_of l.tables (listing_table l.listing)) l.beginning
