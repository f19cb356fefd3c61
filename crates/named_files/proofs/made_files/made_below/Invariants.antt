use Rattle.std.proofs.Common.{◌≡◌, ◌++◌, length}
use Rattle.std.specs.Prelude.{filter, flat_map}
use Rattle.depot_rows.specs.db_records.declared.table.TableId.TheVariants as table_ids
use Rattle.depot_rows.specs.table_changes.Changed.{rows_of}
use Rattle.depot_rows.specs.table_store.Marks.{is_of_change}
use Rattle.named_files.specs.Beginnings.{in_turn}
use Rattle.named_files.specs.Listed.{path_revised}
use Rattle.named_files.proofs.made_files.made_below.Given as goal

abbrev pub invariant-loop-rest : goal.invariant-loop-rest
invariant-loop-rest l =
    l.paths ++ in_turn l.rest (flat_map path_revised (filter (is_of_change l.change) (rows_of l.tables table_ids.Rev)))
    ≡ in_turn l.beginnings (flat_map path_revised (filter (is_of_change l.change) (rows_of l.tables table_ids.Rev)))

abbrev pub decreases-loop-rest : goal.decreases-loop-rest
decreases-loop-rest l = length l.rest
