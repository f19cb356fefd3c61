use Rattle.std.proofs.Common.{◌≡◌, ◌++◌, length}
use Rattle.depot_rows.specs.table_changes.Changed.{rows_of}
use Rattle.named_files.specs.Anywhere.{paths_in_turn}
use Rattle.named_files.specs.Listed.{listing_table}
use Rattle.named_files.proofs.anywhere.opened_below.Given as goal

abbrev pub invariant-loop-rest : goal.invariant-loop-rest
invariant-loop-rest l =
    l.paths ++ paths_in_turn l.listing (rows_of l.tables (listing_table l.listing)) l.rest ≡ paths_in_turn l.listing (rows_of l.tables (listing_table l.listing)) l.beginnings

abbrev pub decreases-loop-rest : goal.decreases-loop-rest
decreases-loop-rest l = length l.rest
