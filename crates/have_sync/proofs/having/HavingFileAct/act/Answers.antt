use Rattle.std.proofs.Common.{List, refl, ap, ◌∙◌}
use Rattle.depot_rows.specs.table_changes.Changed.{rows_of}
use Rattle.depot_rows.specs.view_map.Mapping.{path_in}
use Rattle.depot_rows.specs.view_map.declared.line.ViewLine.{ViewLine}
use Rattle.depot_rows.specs.depot_model.Steps.Placing.{have_row}
use Rattle.reply_rows.proofs.Joined.{made_row}
use Rattle.have_sync.specs.Having.{have_row_of}
use Rattle.have_sync.proofs.having.HavingFileAct.act.Goals as goal

pub returns : goal.returns
returns c = λ d e reads later.
    let path = c.args.path.now in
    made_row (rows_of c.args.tables.now) d e c.in_ok-row.row (have_row d c.args.self.now.caller.now path) c.in_ok-step.step
    (c.in_ok-row.ensures
    ∙ (λ i. have_row_of path ((c.in_ok-place.ensures ∙ ap (λ (v : List ViewLine). path_in v path) reads.asked.view) i) (c.in_ok-rev.ensures d reads.listed i)))
    refl c.in_ok-step.ensures
