use Rattle.std.proofs.Common.{ℕ, List, ap, ◌∙◌}
use Rattle.opening_reads.specs.InChange.{opened_in}
use Rattle.submit_core.proofs.openings.openings_of.Goals as goal

pub returns : goal.returns
returns c = λ d caller sound asked has.
    c.in_ok-openings.ensures d sound has ∙ ap (λ (client : List ℕ). opened_in d client c.args.change) asked.client
