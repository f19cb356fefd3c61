use Rattle.std.proofs.Common.{ℕ, List, sym, ap, ◌∙◌}
use Rattle.depot_rows.specs.depot_model.Revisions.{is_live_action}
use Rattle.depot_rows.specs.depot_model.Steps.Submitting.{block_of, source_content}
use Rattle.depot_rows.specs.Deed.{opening_of}
use Rattle.file_contents.proofs.Giving.{given_by}
use Rattle.file_contents.proofs.given.block_given.Goals as goal

pub returns : goal.returns
returns c = λ d request sound has asked given client.
    let o = opening_of c.args.opening.now in
    c.in_ok-block.ensures d request asked given
    ∙ ap (λ (k : List ℕ). block_of d request k o.path) (sym client)
    ∙ given_by (is_live_action o.action) (source_content d o) (block_of d request o.client o.path) (sym c.is_live_action.ensures ∙ c.if-not-is_live_action.false)
    (sym (c.in_ok-has.ensures d sound has) ∙ c.if-has.false)
