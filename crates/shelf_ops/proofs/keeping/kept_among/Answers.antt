use Rattle.std.proofs.Common.{◌∙◌}
use Rattle.opening_reads.proofs.Onwards.{given_on}
use Rattle.shelf_ops.specs.Kept.{kept_file}
use Rattle.shelf_ops.proofs.keeping.kept_among.Goals as goal

pub loop-rest-preserved : goal.loop-rest-preserved
loop-rest-preserved c = λ d sound has.
    given_on (kept_file d c.args.change) c.loop-rest.files c.push_kept.new.files c.loop-rest.rest.now c.path-item.result c.in-len1-up.len_at_least c.path-item.is
    (c.in_ok-push_kept.ensures d sound has)
    ∙ c.loop-rest.invariant d sound has
