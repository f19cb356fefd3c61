use Rattle.std.proofs.Common.{Bool, List, [], ◌∷◌, ◌++◌, sym, ap, ◌∙◌}
use Rattle.std.specs.Prelude.{if◌then◌else◌}
use Rattle.depot_rows.specs.depot_model.declared.reply.Row.{Row}
use Rattle.depot_rows.specs.depot_model.Steps.History.{integrated_row}
use Rattle.history_query.proofs.integrating.add_if.Goals as goal

pub returns-in_ok-push : goal.returns-in_ok-push
returns-in_ok-push c =
    let old : List Row = c.args.rows.now in
    c.in_ok-push.ensures.ok
    ∙ (λ i. old ++ (c.in_ok-integrated_row.ensures i ∷ []))
    ∙ ap (λ (b : Bool). old ++ (if b then integrated_row c.args.integed.now ∷ [] else [])) (sym c.if-told.true)
