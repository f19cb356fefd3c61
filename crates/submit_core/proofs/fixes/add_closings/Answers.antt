use Rattle.std.proofs.Common.{List, take, sym, ap, subst, ◌∙◌, append-nil}
use Rattle.std.specs.Prelude.{flat_map}
use Rattle.depot_rows.specs.depot_model.Deeds.{Deed}
use Rattle.depot_rows.specs.depot_model.Fixes.{closing}
use Rattle.job_fixes.specs.Telling.{Tells}
use Rattle.job_fixes.proofs.Telling.{tells_none, tells_on}
use Rattle.job_fixes.proofs.Steps.{flat_on, front}
use Rattle.submit_core.proofs.fixes.add_closings.Goals as goal

pub loop-form-init : goal.loop-form-init
loop-form-init c = λ d sound has. tells_none c.args.deeds.now c.args.deeds.now (sym (append-nil c.args.deeds.now))

pub loop-form-preserved : goal.loop-form-preserved
loop-form-preserved c = λ d sound has.
    let forms = c.args.forms.now in
    let i = c.loop-form.form-index in
    let form = c.form-item.result in
    let f = closing d c.args.change c.args.number in
    subst (λ (l : List Deed). Tells c.args.deeds.now c.add_closing.new.deeds l)
    (sym (ap (flat_map f) (front forms i form c.loop-form-test.true c.form-item.is) ∙ flat_on f (take i forms) form))
    (tells_on c.args.deeds.now c.loop-form.deeds c.add_closing.new.deeds (flat_map f (take i forms)) (f form) (c.loop-form.invariant d sound has) (c.in_ok-add_closing.ensures d sound has))
