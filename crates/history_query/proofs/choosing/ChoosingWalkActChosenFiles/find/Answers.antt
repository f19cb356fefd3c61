use Rattle.std.proofs.Common.{List, map, refl, sym, subst}
use Rattle.std.specs.List.{All}
use Rattle.depot_rows.specs.db_records.declared.rows.RevRecord.{RevRecord}
use Rattle.depot_rows.specs.table_changes.Changed.{rows_of}
use Rattle.depot_rows.specs.depot_model.declared.request.Caller.{Caller}
use Rattle.history_query.specs.Choosing.{IsChosen}
use Rattle.history_query.proofs.choosing.ChoosingWalkActChosenFiles.find.Goals as goal

pub returns-clause-paths : goal.returns-clause-paths
returns-clause-paths g c = λ d reads. c.in_ok-found.ensures.paths d reads

pub returns-clause-comes : goal.returns-clause-comes
returns-clause-comes g c = λ before d e stands.
    let rows = rows_of c.args.tables.now in
    let wanted = c.args.argument.now.spec.wanted in
    let own = map (λ r. r.now) c.in_ok-found.found.rows.items in (
      stands.0,
      stands.1,
      stands.2,
      subst (λ (l : List RevRecord). All (IsChosen rows d c.args.self.now.caller.now wanted) l) (sym c.see.ensures)
          (subst (λ (caller : Caller). All (IsChosen rows d caller wanted) own) stands.2 (c.in_ok-found.ensures.rows d stands.1)),
    )

pub returns-clause-same : goal.returns-clause-same
returns-clause-same g c = refl
