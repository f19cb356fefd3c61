use Rattle.std.proofs.Common.{◌∙◌}
use Rattle.revision_reads.proofs.Places.{shown_by_view}
use Rattle.revision_reads.proofs.targets.shown_in_view.Goals as goal

pub returns : goal.returns
returns c = λ d sound rev there is.
    c.in_ok-place.ensures d sound rev there ∙ shown_by_view d c.args.caller.now c.args.wanted.now c.args.view.now c.args.path.now is
