use Rattle.std.proofs.Common.{suc, add-one}
use Rattle.depot_figures.specs.Figures.{size_at, sizes_up_to}
use Rattle.depot_figures.proofs.Figures.{capped_more}
use Rattle.depot_figures.proofs.files.sizes_up_to.Goals as goal

pub loop-before-preserved : goal.loop-before-preserved
loop-before-preserved c = λ d has.
    let at = c.loop-before in
    rw add-one (capped_more (sizes_up_to d c.args.path.now at.before) (size_at d c.args.path.now (suc at.before)) at.sum c.in_ok-size.size _ (at.invariant d has) (rw add-one at (c.in_ok-size.ensures d has)) c.saturating_add-sum.ensures)
