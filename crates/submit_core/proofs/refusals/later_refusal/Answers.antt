use Rattle.std.proofs.Common.{◌≡◌, ℕ, List, Some, sym, subst, ◌∙◌}
use Rattle.std.specs.List.{list_any}
use Rattle.depot_rows.specs.depot_model.Opened.{opened}
use Rattle.depot_rows.specs.depot_model.Step.{refuse_if}
use Rattle.depot_rows.specs.depot_model.Steps.Submitting.{is_unpaid, lacks_content, move_refusal, resolves_of}
use Rattle.depot_rows.specs.depot_model.declared.refusal.Refusal.TheVariants.{MustResolve, NoContent}
use Rattle.depot_rows.specs.Deed.{opening_of}
use Rattle.depot_rows.proofs.Locks.{opened-is}
use Rattle.submit_core.proofs.Refusing.{first_row, second_row, third_row}
use Rattle.submit_core.proofs.refusals.later_refusal.Goals as goal

pub returns-then-is_some : goal.returns-then-is_some
returns-then-is_some c = λ d request reads is.
    let o = opening_of c.args.opening.now in
    let client = (opened-is d request.caller.client o.path o is).0 in
    let own = subst (λ (k : List ℕ). opened d k o.path ≡ Some o) (sym client) is in
    first_row (refuse_if (list_any is_unpaid (resolves_of d o)) (MustResolve o.path)) (move_refusal d o) (refuse_if (lacks_content d request o) (NoContent o.path)) c.in_ok-owed.owed
    (sym c.is_some.ensures ∙ c.if-is_some.true) (c.in_ok-owed.ensures d reads.sound reads.resolves own)

pub returns-then-is_some-2 : goal.returns-then-is_some-2
returns-then-is_some-2 c = λ d request reads is.
    let o = opening_of c.args.opening.now in
    let client = (opened-is d request.caller.client o.path o is).0 in
    let own = subst (λ (k : List ℕ). opened d k o.path ≡ Some o) (sym client) is in
    second_row (refuse_if (list_any is_unpaid (resolves_of d o)) (MustResolve o.path)) (move_refusal d o) (refuse_if (lacks_content d request o) (NoContent o.path)) c.in_ok-owed.owed
    c.in_ok-moved.moved
    (sym c.is_some.ensures ∙ c.if-is_some.false) (c.in_ok-owed.ensures d reads.sound reads.resolves own)
    (sym c.is_some-2.ensures ∙ c.if-is_some-2.true) (c.in_ok-moved.ensures d reads.sound reads.workings)

pub returns : goal.returns
returns c = λ d request reads is.
    let o = opening_of c.args.opening.now in
    let client = (opened-is d request.caller.client o.path o is).0 in
    let own = subst (λ (k : List ℕ). opened d k o.path ≡ Some o) (sym client) is in
    third_row (refuse_if (list_any is_unpaid (resolves_of d o)) (MustResolve o.path)) (move_refusal d o) (refuse_if (lacks_content d request o) (NoContent o.path)) c.in_ok-owed.owed
    c.in_ok-moved.moved c.in_ok-lacking.lacking
    (sym c.is_some.ensures ∙ c.if-is_some.false) (c.in_ok-owed.ensures d reads.sound reads.resolves own)
    (sym c.is_some-2.ensures ∙ c.if-is_some-2.false) (c.in_ok-moved.ensures d reads.sound reads.workings)
    (c.in_ok-lacking.ensures d request reads client)
