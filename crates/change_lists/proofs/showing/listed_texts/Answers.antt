use Rattle.std.proofs.Common.{◌∙◌}
use Rattle.depot_rows.specs.declared.deed.Opening.{Opening}
use Rattle.opening_reads.proofs.Onwards.{given_on}
use Rattle.change_lists.specs.Showing.{listed_text}
use Rattle.change_lists.proofs.showing.listed_texts.Goals as goal

pub loop-rest-preserved : goal.loop-rest-preserved
loop-rest-preserved c =
    given_on (λ (o : Opening). listed_text c.args.asker.now o.path) c.loop-rest.texts c.push_listed.new.texts c.loop-rest.rest.now c.opening-item.result
    c.in-len1-up.len_at_least c.opening-item.is c.in_ok-push_listed.ensures
    ∙ c.loop-rest.invariant
