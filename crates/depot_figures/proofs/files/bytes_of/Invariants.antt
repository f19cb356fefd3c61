use Rattle.std.proofs.Common.{◌≡◌, ◌≤◌, ◌+◌, List, length}
use Rattle.std.specs.List.{sum_by}
use Rattle.depot_rows.specs.db_records.declared.table.TableId.TheVariants.{Rev}
use Rattle.depot_rows.specs.table_changes.Changed.{rows_of}
use Rattle.depot_rows.specs.depot_model.Deeds.{Deed}
use Rattle.depot_rows.specs.depot_model.Rules.{IsSound}
use Rattle.depot_rows.specs.Standing.{HasRows}
use Rattle.depot_figures.specs.Figures.{capped, file_size}
use Rattle.depot_figures.proofs.files.bytes_of.Given as goal

abbrev pub invariant-loop-rest : goal.invariant-loop-rest
invariant-loop-rest l =
    record {
      left : (d : List Deed) → IsSound d → HasRows (rows_of l.tables) d Rev → capped (sum_by (file_size d) l.paths) ≡ capped (l.sum + sum_by (file_size d) l.rest);
      within : l.sum ≤ 18446744073709551615;
    }

abbrev pub decreases-loop-rest : goal.decreases-loop-rest
decreases-loop-rest l = length l.rest
