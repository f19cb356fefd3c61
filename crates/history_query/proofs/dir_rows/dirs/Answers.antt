use Rattle.std.proofs.Common.{List, [], sym, ap, subst, ◌∙◌}
use Rattle.depot_rows.specs.table_changes.Changed.{rows_of}
use Rattle.depot_rows.specs.depot_model.declared.reply.Row.{Row}
use Rattle.depot_rows.specs.depot_model.Step.{tells}
use Rattle.depot_rows.specs.depot_model.Steps.History.{dirs_after}
use Rattle.reply_rows.specs.Made.{IsMade, told}
use Rattle.reply_rows.specs.declared.step.Step.{Step}
use Rattle.reply_rows.proofs.Bare.{tells_made}
use Rattle.history_query.proofs.Taken.{dirs_bare, dirs_told}
use Rattle.history_query.proofs.dir_rows.dirs.Goals as goal

pub returns : goal.returns
returns c = λ d sound asked has.
    let caller = c.args.caller.now in
    let arguments = c.args.arguments.now in
    let all = rows_of c.args.tables.now in
    let rows = dirs_after d caller [] arguments in
    let is = ap (λ (s : Step). record s { rows = c.in_ok-rows.rows }) c.new-step.ensures
    ∙ ap (λ (rs : List Row). told rs) (c.in_ok-rows.ensures d sound asked has ∙ dirs_told d caller arguments) in
    subst (λ (x : Step). IsMade all d d (tells rows) x) (sym is) (tells_made all d d rows (dirs_bare d caller [] arguments))
