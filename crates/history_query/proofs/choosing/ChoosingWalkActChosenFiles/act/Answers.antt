use Rattle.std.proofs.Common.{List, refl, sym, subst}
use Rattle.std.specs.List.{All}
use Rattle.depot_rows.specs.db_records.declared.rows.RevRecord.{RevRecord}
use Rattle.depot_rows.specs.table_changes.Changed.{rows_of}
use Rattle.history_query.specs.Choosing.{IsChosen}
use Rattle.history_query.proofs.choosing.ChoosingWalkActChosenFiles.act.Goals as goal

pub returns-clause-step : goal.returns-clause-step
returns-clause-step g c = λ set d e stands. c.in_ok-step.ensures d e c.args.argument.now stands.0 (c.in_ok-row.ensures.choice d stands.1 stands.3)

pub returns-clause-comes : goal.returns-clause-comes
returns-clause-comes g c = λ set d e stands. (
  stands.0,
  stands.1,
  stands.2,
  subst (λ (l : List RevRecord). All (IsChosen (rows_of c.args.tables.now) d c.args.self.now.caller.now c.args.argument.now.spec.wanted) l) (sym c.in_ok-row.ensures.rows) stands.3,
)

pub returns-clause-same : goal.returns-clause-same
returns-clause-same g c = refl
