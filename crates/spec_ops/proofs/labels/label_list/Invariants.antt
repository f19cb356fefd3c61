use Rattle.std.proofs.Common.{◌≡◌, ◌++◌, List, drop}
use Rattle.std.specs.Prelude.{filter_map, option_map}
use Rattle.depot_rows.specs.db_records.declared.table.TableId.TheVariants as table_ids
use Rattle.depot_rows.specs.table_changes.Changed.{rows_of}
use Rattle.depot_rows.specs.depot_model.Deeds.{Deed, LabelForm}
use Rattle.depot_rows.specs.depot_model.Latest.{spec}
use Rattle.depot_rows.specs.depot_model.Rules.{IsSound}
use Rattle.depot_rows.specs.depot_model.Steps.Labels.{listed}
use Rattle.depot_rows.specs.Standing.{HasRows}
use Rattle.spec_ops.proofs.labels.label_list.Given as goal

abbrev pub invariant-loop-name : goal.invariant-loop-name
invariant-loop-name l = (d : List Deed) → IsSound d → HasRows (rows_of l.tables) d table_ids.Domain
    → l.rows ++ filter_map (λ name. option_map (listed name) (spec d LabelForm name)) (drop l.name-index l.names)
    ≡ filter_map (λ name. option_map (listed name) (spec d LabelForm name)) l.names
