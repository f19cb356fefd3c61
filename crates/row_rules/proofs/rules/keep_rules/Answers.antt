use Rattle.std.proofs.Common.{◌↔◌, Bool, IsTrue, sym, subst}
use Rattle.depot_rows.specs.db_records.declared.table.TableId.{TableId}
use Rattle.depot_rows.specs.table_store.Tables.{version_of}
use Rattle.depot_rows.specs.depot_model.Rules.{KeepRules}
use Rattle.row_rules.specs.Stored.{stored}
use Rattle.row_rules.proofs.Whole.{whole}
use Rattle.row_rules.proofs.rules.keep_rules.Goals as goal

pub returns : goal.returns
returns c =
    let P : Bool → Type 0 = λ b. IsTrue b ↔ KeepRules (stored c.args.tables.now) in
    subst P (sym c.both.ensures)
    (whole (λ (t : TableId). (version_of c.args.tables.now t).rows) c.are_in_order.ensures.rising c.in_ok-rows.rows c.in_ok-few.few c.in_ok-rows.ensures c.in_ok-few.ensures)
