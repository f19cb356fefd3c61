use Rattle.std.proofs.Common.{◌∙◌}
use Rattle.opening_reads.proofs.Onwards.{given_on}
use Rattle.change_lists.specs.Listed.{made_in_file}
use Rattle.change_lists.proofs.made.push_files.Goals as goal

pub loop-rest-preserved : goal.loop-rest-preserved
loop-rest-preserved c = λ d sound has has_change has_wanted.
    given_on (made_in_file d c.args.caller.now c.args.argument.now c.args.taken.now) c.loop-rest.made.items c.push_file.new.made.items c.loop-rest.rest.now c.path-item.result
    c.in-len1-up.len_at_least c.path-item.is (c.in_ok-push_file.ensures d sound has has_change has_wanted)
    ∙ c.loop-rest.invariant d sound has has_change has_wanted
