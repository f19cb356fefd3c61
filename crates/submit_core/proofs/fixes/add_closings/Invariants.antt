use Rattle.std.proofs.Common.{List, take}
use Rattle.std.specs.Prelude.{flat_map}
use Rattle.depot_rows.specs.db_records.declared.table.TableId.TheVariants as table_ids
use Rattle.depot_rows.specs.table_changes.Changed.{rows_of}
use Rattle.depot_rows.specs.depot_model.Deeds.{Deed}
use Rattle.depot_rows.specs.depot_model.Fixes.{closing}
use Rattle.depot_rows.specs.depot_model.Rules.{IsSound}
use Rattle.depot_rows.specs.Standing.{HasRows}
use Rattle.job_fixes.specs.Telling.{Tells}
use Rattle.submit_core.proofs.fixes.add_closings.Given as goal

abbrev pub invariant-loop-form : goal.invariant-loop-form
invariant-loop-form l =
    (d : List Deed) → IsSound d → HasRows (rows_of l.tables) d table_ids.Domain
    → Tells l.fn.deeds l.deeds (flat_map (closing d l.change l.number) (take l.form-index l.forms))
