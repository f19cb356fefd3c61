use Rattle.depot_rows.specs.db_records.declared.table.TableId.{TableId}
use Rattle.depot_rows.specs.table_store.Rows.{AllOfTable, IsRising}
use Rattle.depot_rows.specs.table_store.Tables.{version_of}
use Rattle.row_rules.proofs.Decided.{by_table}
use Rattle.row_rules.proofs.rules.are_in_order.Goals as goal

pub returns-clause-of_table : goal.returns-clause-of_table
returns-clause-of_table c =
    let t = c.args.tables.now in
    by_table (λ (table : TableId). AllOfTable table (version_of t table).rows) c.is_in_order.ensures.of_table c.is_in_order-2.ensures.of_table
    c.is_in_order-3.ensures.of_table c.is_in_order-4.ensures.of_table c.is_in_order-5.ensures.of_table c.is_in_order-6.ensures.of_table
    c.is_in_order-7.ensures.of_table c.is_in_order-8.ensures.of_table c.is_in_order-9.ensures.of_table c.is_in_order-10.ensures.of_table
    c.is_in_order-11.ensures.of_table

pub returns-clause-rising : goal.returns-clause-rising
returns-clause-rising c =
    let t = c.args.tables.now in
    by_table (λ (table : TableId). IsRising (version_of t table).rows) c.is_in_order.ensures.rising c.is_in_order-2.ensures.rising
    c.is_in_order-3.ensures.rising c.is_in_order-4.ensures.rising c.is_in_order-5.ensures.rising c.is_in_order-6.ensures.rising
    c.is_in_order-7.ensures.rising c.is_in_order-8.ensures.rising c.is_in_order-9.ensures.rising c.is_in_order-10.ensures.rising
    c.is_in_order-11.ensures.rising
