use Rattle.std.proofs.Common.{sym, ◌∙◌}
use Rattle.depot_rows.specs.depot_model.declared.refusal.Refusal.TheVariants.{NoContent}
use Rattle.depot_rows.specs.depot_model.Steps.Submitting.{lacks_content}
use Rattle.depot_rows.specs.Deed.{opening_of}
use Rattle.submit_core.proofs.Refusing.{refuse_none, refuse_some}
use Rattle.submit_core.proofs.refusals.content_refusal.Goals as goal

pub returns-then-not-lacks : goal.returns-then-not-lacks
returns-then-not-lacks c = λ d request reads client.
    let o = opening_of c.args.opening.now in
    refuse_none (lacks_content d request o) (NoContent o.path)
    (sym (c.in_ok-lacks.ensures d request reads.sound reads.revisions reads.asked reads.given client) ∙ c.if-not-lacks.true)

pub returns : goal.returns
returns c = λ d request reads client.
    let o = opening_of c.args.opening.now in
    refuse_some (lacks_content d request o) (NoContent o.path) c.in_ok-row.row
    (sym (c.in_ok-lacks.ensures d request reads.sound reads.revisions reads.asked reads.given client) ∙ c.if-not-lacks.false) c.in_ok-row.ensures
