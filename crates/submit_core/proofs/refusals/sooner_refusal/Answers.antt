use Rattle.std.proofs.Common.{sym, ◌∙◌}
use Rattle.std.specs.Prelude.{◌==◌, not}
use Rattle.depot_rows.specs.depot_model.Asking.{to_write}
use Rattle.depot_rows.specs.depot_model.Revisions.{head}
use Rattle.depot_rows.specs.depot_model.Step.{refuse_if}
use Rattle.depot_rows.specs.depot_model.Steps.Opening.{right_refusal}
use Rattle.depot_rows.specs.depot_model.Steps.Submitting.{lock_refusal}
use Rattle.depot_rows.specs.depot_model.declared.refusal.Refusal.TheVariants.{Stale}
use Rattle.depot_rows.specs.Deed.{opening_of}
use Rattle.submit_core.proofs.Refusing.{first_row, second_row, third_row}
use Rattle.submit_core.proofs.refusals.sooner_refusal.Goals as goal

pub returns-then-is_some : goal.returns-then-is_some
returns-then-is_some c = λ d request sound asked workings revisions.
    let o = opening_of c.args.opening.now in
    first_row (right_refusal to_write d request.caller o.path) (lock_refusal d o) (refuse_if (not (o.base == head d o.path)) (Stale o.path o.base (head d o.path))) c.in_ok-denied.denied
    (sym c.is_some.ensures ∙ c.if-is_some.true) (c.in_ok-denied.ensures d request asked)

pub returns-then-is_some-2 : goal.returns-then-is_some-2
returns-then-is_some-2 c = λ d request sound asked workings revisions.
    let o = opening_of c.args.opening.now in
    second_row (right_refusal to_write d request.caller o.path) (lock_refusal d o) (refuse_if (not (o.base == head d o.path)) (Stale o.path o.base (head d o.path))) c.in_ok-denied.denied
    c.in_ok-locked.locked
    (sym c.is_some.ensures ∙ c.if-is_some.false) (c.in_ok-denied.ensures d request asked)
    (sym c.is_some-2.ensures ∙ c.if-is_some-2.true) (c.in_ok-locked.ensures d sound workings)

pub returns : goal.returns
returns c = λ d request sound asked workings revisions.
    let o = opening_of c.args.opening.now in
    third_row (right_refusal to_write d request.caller o.path) (lock_refusal d o) (refuse_if (not (o.base == head d o.path)) (Stale o.path o.base (head d o.path))) c.in_ok-denied.denied
    c.in_ok-locked.locked c.in_ok-stale.stale
    (sym c.is_some.ensures ∙ c.if-is_some.false) (c.in_ok-denied.ensures d request asked)
    (sym c.is_some-2.ensures ∙ c.if-is_some-2.false) (c.in_ok-locked.ensures d sound workings)
    (c.in_ok-stale.ensures d sound revisions)
