use Rattle.std.proofs.Common.{◌≡◌, IsTrue, ap, arith, get_or, refl, subst, sym, ◌∙◌}
use Rattle.depot_rows.specs.db_records.Table.{all_tables}
use Rattle.depot_rows.specs.db_records.declared.table.TableId.{TableId}
use Rattle.depot_rows.specs.db_records.declared.table.TableId.TheVariants.{Counter}
use Rattle.depot_rows.specs.table_changes.Changed.{AllRows, rows_of}
use Rattle.depot_rows.specs.table_store.Rows.{TableRows}
use Rattle.depot_follow.proofs.Tables.{in_each}
use Rattle.depot_follow.proofs.rows.same_rows.Goals as goal

pub returns-then-not-same_version : goal.returns-then-not-same_version
returns-then-not-same_version c =
    let table : TableId = get_or all_tables c.loop-table.table-index Counter in
    let one = ap (λ (v : TableRows). v.rows) c.version.ensures.rows in
    let other = ap (λ (v : TableRows). v.rows) c.version-in-loop-table.ensures.rows in (
      λ is. absurd cc,
      λ (same : rows_of c.args.one.now ≡ rows_of c.args.other.now). subst IsTrue c.if-not-same_version.true (c.same_version.ensures.1 (one ∙ ap (λ (rows : AllRows). rows table) same ∙ sym other)),
    )

pub returns : goal.returns
returns c = (
  λ is. in_each (rows_of c.args.one.now) (rows_of c.args.other.now) (λ n less. c.loop-table.invariant n (omega (arith, less, c.loop-table-test.false))),
  λ same. refl,
)
