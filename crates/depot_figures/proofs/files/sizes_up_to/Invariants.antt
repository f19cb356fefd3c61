use Rattle.std.proofs.Common.{◌≡◌, List}
use Rattle.depot_rows.specs.db_records.declared.table.TableId.TheVariants.{Rev}
use Rattle.depot_rows.specs.table_changes.Changed.{rows_of}
use Rattle.depot_rows.specs.depot_model.Deeds.{Deed}
use Rattle.depot_rows.specs.Standing.{HasRows}
use Rattle.depot_figures.specs.Figures.{capped, sizes_up_to}
use Rattle.depot_figures.proofs.files.sizes_up_to.Given as goal

abbrev pub invariant-loop-before : goal.invariant-loop-before
invariant-loop-before l = (d : List Deed) → HasRows (rows_of l.tables) d Rev → l.sum ≡ capped (sizes_up_to d l.path l.before)
