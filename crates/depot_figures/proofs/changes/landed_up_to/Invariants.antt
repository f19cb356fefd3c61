use Rattle.std.proofs.Common.{◌≡◌, ◌≤◌, List}
use Rattle.depot_rows.specs.db_records.declared.table.TableId.TheVariants.{Change}
use Rattle.depot_rows.specs.table_changes.Changed.{rows_of}
use Rattle.depot_rows.specs.depot_model.Deeds.{Deed}
use Rattle.depot_rows.specs.depot_model.Rules.{IsSound}
use Rattle.depot_rows.specs.Standing.{HasRows}
use Rattle.depot_figures.specs.Figures.{landed_up_to}
use Rattle.depot_figures.proofs.changes.landed_up_to.Given as goal

abbrev pub invariant-loop-before : goal.invariant-loop-before
invariant-loop-before l =
    record {
      counted : (d : List Deed) → IsSound d → HasRows (rows_of l.tables) d Change → l.count ≡ landed_up_to d l.before;
      within : l.count ≤ l.before;
    }
