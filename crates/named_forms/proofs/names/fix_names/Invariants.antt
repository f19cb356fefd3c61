use Rattle.std.proofs.Common.{◌≡◌, ◌++◌}
use Rattle.std.specs.Prelude.{filter}
use Rattle.depot_rows.specs.db_records.declared.table.TableId.TheVariants as table_ids
use Rattle.depot_rows.specs.table_changes.Changed.{rows_of}
use Rattle.depot_rows.specs.table_store.Marks.{is_fix_of}
use Rattle.row_reads.specs.Forms.{names_in}
use Rattle.named_forms.proofs.names.fix_names.Given as goal

abbrev pub invariant-loop-row : goal.invariant-loop-row
invariant-loop-row l = l.names ++ names_in l.row-iterator ≡ names_in (filter (is_fix_of l.change) (rows_of l.tables table_ids.Domain))
