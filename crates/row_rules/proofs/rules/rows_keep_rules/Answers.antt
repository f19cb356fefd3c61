use Rattle.std.proofs.Common.{◌↔◌, Bool, IsTrue, sym, subst, arith}
use Rattle.depot_rows.specs.db_records.declared.table.TableId.{TableId}
use Rattle.depot_rows.specs.table_store.Tables.{version_of}
use Rattle.row_rules.specs.Kept.{KeepRowRules}
use Rattle.row_rules.specs.Stored.{stored}
use Rattle.row_rules.proofs.Decided.{top_refused, generation_refused, decided}
use Rattle.row_rules.proofs.rules.rows_keep_rules.Goals as goal

pub returns-then-top-gt2147483647 : goal.returns-then-top-gt2147483647
returns-then-top-gt2147483647 c = top_refused (λ (t : TableId). (version_of c.args.tables.now t).rows) c.in_ok-top.top c.in_ok-top.ensures (omega arith)

pub returns-then-generation-gt4095 : goal.returns-then-generation-gt4095
returns-then-generation-gt4095 c =
    generation_refused (λ (t : TableId). (version_of c.args.tables.now t).rows) c.in_ok-generation.generation c.in_ok-generation.ensures (omega arith)

pub returns : goal.returns
returns c =
    let P : Bool → Type 0 = λ b. IsTrue b ↔ KeepRowRules (stored c.args.tables.now) in
    subst P (sym c.both.ensures)
    (decided (λ (t : TableId). (version_of c.args.tables.now t).rows) c.are_in_order.ensures.rising c.are_in_order.ensures.of_table
    c.in_ok-top.top c.in_ok-generation.generation c.in_ok-keep.keep c.in_ok-apart.apart
    c.in_ok-top.ensures (omega arith) c.in_ok-generation.ensures (omega arith) c.in_ok-keep.ensures c.in_ok-apart.ensures)
