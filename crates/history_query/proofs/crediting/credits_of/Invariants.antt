use Rattle.std.proofs.Common.{◌≡◌, ◌++◌, ℕ}
use Rattle.std.specs.Prelude.{filter}
use Rattle.row_ranges.specs.Ranges.{has_row, range_table}
use Rattle.depot_rows.specs.table_changes.Changed.{rows_of}
use Rattle.history_query.specs.Crediting.{credited, into_revision, records_listed_in}
use Rattle.history_query.proofs.crediting.credits_of.Given as goal

abbrev pub invariant-loop-row : goal.invariant-loop-row
invariant-loop-row l =
    (rev : ℕ) → credited l.credits rev ++ into_revision rev (records_listed_in l.asker l.row-iterator)
    ≡ into_revision rev (records_listed_in l.asker (filter (has_row l.range) (rows_of l.tables (range_table l.range))))
