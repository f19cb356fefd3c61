use Rattle.std.proofs.Common.{subst, sym, ◌∙◌, ap, Some, Option}
use Rattle.depot_rows.specs.db_records.declared.record.Record.{Record}
use Rattle.depot_rows.specs.table_changes.Changed.{rows_of}
use Rattle.depot_rows.specs.db_records.Key.{key_table}
use Rattle.row_changes.specs.Stored.{HasKey}
use Rattle.row_changes.proofs.Keyed.{row_at-keyed, found-keyed, are-keyed}
use Rattle.row_changes.proofs.overlay.Overlay.get.Goals as goal

pub returns-in-Some-Some-clause-keyed : goal.returns-in-Some-Some-clause-keyed
returns-in-Some-Some-clause-keyed c = found-keyed c.args.self.now.touched.entries (are-keyed c.args.self.now.touched.entries c.args.self.now.keyed) c.args.key.now c.in-Some-Some.row (sym c.in-Some-Some.ensures.value ∙ ap Some c.in-Some-Some.field-0-is)

pub returns-in-None-clause-keyed : goal.returns-in-None-clause-keyed
returns-in-None-clause-keyed c = subst (λ (o : Option Record). HasKey o c.args.key.now) (sym c.stored.ensures) (row_at-keyed c.args.key.now (rows_of c.args.tables.now (key_table c.args.key.now)))
