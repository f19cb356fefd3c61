use Rattle.std.proofs.lemmas.Result.{IfOk-weaker}
use Rattle.depot_rows.specs.table_changes.Changed.{rows_of}
use Rattle.command_parts.proofs.Refused.{first_told, passed_first}
use Rattle.opened_files.proofs.reopening.reopen.Goals as goal

pub returns-in-Some : goal.returns-in-Some
returns-in-Some c = IfOk-weaker c.tells.result _ _ (λ step told d sound asked change working.
    first_told (rows_of c.args.tables.now) d d _ _ _ _ c.in-Some.row step c.in-Some.is (c.in_ok-row.ensures d change) told) c.tells.ensures

pub returns : goal.returns
returns c = IfOk-weaker c.over_selected.result _ _ (λ step made d sound asked change working.
    passed_first (rows_of c.args.tables.now) d d _ _ _ _ step c.in_default.not-Some (c.in_ok-row.ensures d change) (made d sound asked working)) c.over_selected.ensures
