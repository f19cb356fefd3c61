use Rattle.std.proofs.Common.{◌∙◌}
use Rattle.std.specs.Prelude.{map}
use Rattle.depot_rows.specs.Deed.{opening_of}
use Rattle.opening_reads.proofs.Onwards.{given_on}
use Rattle.change_lists.specs.Saving.{moved_in}
use Rattle.change_lists.proofs.saving.moved_openings.Goals as goal

pub loop-rest-preserved : goal.loop-rest-preserved
loop-rest-preserved c = λ d sound has.
    given_on (moved_in d c.args.client.now c.args.change) (map opening_of c.loop-rest.openings) (map opening_of c.push_file.new.openings) c.loop-rest.rest.now c.path-item.result
    c.in-len1-up.len_at_least c.path-item.is (c.in_ok-push_file.ensures d sound has)
    ∙ c.loop-rest.invariant d sound has
