use Rattle.std.proofs.Common.{◌≡◌, ◌++◌}
use Rattle.std.specs.Prelude.{filter_map, map}
use Rattle.depot_rows.specs.db_records.declared.table.TableId.TheVariants as table_ids
use Rattle.depot_rows.specs.table_changes.Changed.{rows_of}
use Rattle.change_lists.specs.Files.{listable_in, rows_made}
use Rattle.change_lists.proofs.files.landed_rows.Given as goal

abbrev pub invariant-loop-row : goal.invariant-loop-row
invariant-loop-row l = map (λ r. r.now) l.rows.items ++ filter_map (listable_in l.asker) l.row-iterator ≡ filter_map (listable_in l.asker) (rows_made l.change (rows_of l.tables table_ids.Rev))
