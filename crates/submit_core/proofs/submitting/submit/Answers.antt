use Rattle.std.proofs.Common.{List, refl, sym, ap, subst, ◌∙◌, map}
use Rattle.depot_rows.specs.Deed.{opening_of}
use Rattle.depot_rows.specs.declared.deed.Opening.{Opening}
use Rattle.submit_core.specs.Premises.{AreOpened}
use Rattle.submit_core.proofs.Ending.{are_opened}
use Rattle.submit_core.proofs.submitting.submit.Goals as goal

pub returns : goal.returns
returns c = λ d has asker asked.
    let request = c.args.request.now in
    let change = c.args.change in
    let openings_are = c.in_ok-openings.ensures d request.caller has.sound asker has.workings in
    let opened = are_opened d request.caller change c.in_ok-openings.openings openings_are in
    c.in_ok-step.ensures d
    (record { sound = has.sound; asked = asker; given = refl; resolves = has.resolves; workings = has.workings; revisions = has.revisions })
    has.forms
    (subst (λ (os : List Opening). AreOpened d request.caller.client os) (sym c.as_slice.ensures) opened)
    (ap (λ (os : List Opening). map opening_of os) c.as_slice.ensures ∙ openings_are)
    (c.in_ok-number.ensures d has.counters)
    asked
