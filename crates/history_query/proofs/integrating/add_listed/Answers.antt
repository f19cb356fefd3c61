use Rattle.std.proofs.Common.{Bool, List, [], ◌∷◌, ◌++◌, ap, ◌∙◌}
use Rattle.std.specs.Prelude.{if◌then◌else◌}
use Rattle.depot_rows.specs.depot_model.declared.reply.Row.{Row}
use Rattle.depot_rows.specs.depot_model.Steps.History.{integrated_row}
use Rattle.history_query.proofs.integrating.add_listed.Goals as goal

pub returns : goal.returns
returns c =
    let old : List Row = c.args.rows.now in
    c.in_ok-add_if.ensures ∙ ap (λ (b : Bool). old ++ (if b then integrated_row c.args.integed.now ∷ [] else [])) c.in_ok-may.ensures
