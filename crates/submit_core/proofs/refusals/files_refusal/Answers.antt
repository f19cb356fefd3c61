use Rattle.std.proofs.Common.{◌+◌, List, map, drop, sym, ap, subst, ◌∙◌}
use Rattle.std.specs.Prelude.{flat_map, option_map}
use Rattle.depot_rows.specs.depot_model.declared.refusal.Refusal.{Refusal}
use Rattle.std.proofs.Common.{Option}
use Rattle.depot_rows.specs.depot_model.Refusals.{refusal_row}
use Rattle.depot_rows.specs.depot_model.Steps.Submitting.{file_refusals}
use Rattle.depot_rows.specs.Deed.{opening_of}
use Rattle.depot_rows.specs.declared.deed.Opening.{Opening}
use Rattle.reply_rows.specs.Refusing.{first_of}
use Rattle.submit_core.specs.Premises.{AreOpened}
use Rattle.submit_core.proofs.Refusing.{first_on, next_first, none_of, row_first}
use Rattle.job_fixes.proofs.Steps.{back}
use Rattle.submit_core.proofs.refusals.files_refusal.Goals as goal

pub loop-opening-preserved : goal.loop-opening-preserved
loop-opening-preserved c = λ d request reads opened.
    let os = c.args.openings.now in
    let i = c.loop-opening.opening-index in
    let o = c.opening-item.result in
    let was = c.loop-opening.invariant d request reads opened in
    let next = back os i o c.loop-opening-test.true c.opening-item.is in
    let rest = subst (λ (l : List Opening). AreOpened d request.caller.client l) next was.0 in
    let f = file_refusals d request in
    let none = none_of c.in_ok-refusal.refusal (first_of (f (opening_of o))) (sym c.is_some.ensures ∙ c.if-is_some.false) (c.in_ok-refusal.ensures d request reads rest.0) in
    (rest.1, sym (ap (λ (l : List Opening). first_of (flat_map f (map opening_of l))) next ∙ next_first (f (opening_of o)) (flat_map f (map opening_of (drop (i + 1) os))) none) ∙ was.1)

pub returns-then-is_some : goal.returns-then-is_some
returns-then-is_some c = λ d request reads opened.
    let os = c.args.openings.now in
    let i = c.loop-opening.opening-index in
    let o = c.opening-item.result in
    let was = c.loop-opening.invariant d request reads opened in
    let next = back os i o c.loop-opening-test.true c.opening-item.is in
    let rest = subst (λ (l : List Opening). AreOpened d request.caller.client l) next was.0 in
    let f = file_refusals d request in
    row_first c.in_ok-refusal.refusal (first_of (f (opening_of o))) (first_of (flat_map f (map opening_of (drop (i + 1) os)))) (sym c.is_some.ensures ∙ c.if-is_some.true)
    (c.in_ok-refusal.ensures d request reads rest.0)
    ∙ ap (λ (x : Option Refusal). option_map refusal_row x)
    (sym (ap (λ (l : List Opening). first_of (flat_map f (map opening_of l))) next ∙ first_on (f (opening_of o)) (flat_map f (map opening_of (drop (i + 1) os)))) ∙ was.1)
