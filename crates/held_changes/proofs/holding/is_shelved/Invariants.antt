use Rattle.std.proofs.Common.{◌≡◌, List, drop}
use Rattle.std.specs.Prelude.{codes}
use Rattle.std.specs.List.{list_any}
use Rattle.depot_rows.specs.db_records.declared.table.TableId.TheVariants as tables
use Rattle.depot_rows.specs.table_changes.Changed.{rows_of}
use Rattle.depot_rows.specs.depot_model.Deeds.{Deed, ShelfForm}
use Rattle.depot_rows.specs.depot_model.Rules.{IsSound}
use Rattle.depot_rows.specs.depot_model.Shelves.{is_shelved}
use Rattle.depot_rows.specs.Standing.{HasRows}
use Rattle.held_changes.specs.Holding.{is_held}
use Rattle.held_changes.proofs.holding.is_shelved.Given as goal

abbrev pub invariant-loop-name : goal.invariant-loop-name
invariant-loop-name l =
    (d : List Deed) → IsSound d → HasRows (rows_of l.tables) d tables.Domain
    → list_any (is_held ShelfForm d (codes "kept") l.spelled) (drop l.name-index l.names) ≡ is_shelved d l.change
