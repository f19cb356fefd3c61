use Rattle.std.proofs.Common.{◌≡◌, ◌+◌, take, subst, ◌∙◌, ap}
use Rattle.std.proofs.lemmas.List.{take_all}
use Rattle.depot_rows.specs.table_changes.Changed.{AllFitIn, changed_by}
use Rattle.depot_rows.specs.table_changes.Drafts.{rows_of_draft}
use Rattle.recovery.proofs.FirstBad.{told_bad}
use Rattle.recovery.proofs.Fits.{fits_taken}
use Rattle.recovery.proofs.rows.make_changes.Goals as goal

pub returns-then-fitting-changes-clause-only : goal.returns-then-fitting-changes-clause-only
returns-then-fitting-changes-clause-only c = λ fit.
    absurd (c.in_ok-fitting.ensures.next c.if-fitting-changes.true (fits_taken (rows_of_draft c.args.draft.now) (c.in_ok-fitting.fitting + 1) c.args.changes.now fit))

pub returns-then-fitting-changes-clause-damaged : goal.returns-then-fitting-changes-clause-damaged
returns-then-fitting-changes-clause-damaged c =
    let made = c.in_ok-fitting in
    told_bad (Unit {0}) (AllFitIn (rows_of_draft c.args.draft.now)) c.args.groups.now c.args.changes.now c.split_at.result.1.now made.fitting c.damaged_before.result c.split_at.ensures.back c.if-fitting-changes.true made.ensures.fit (made.ensures.next c.if-fitting-changes.true) c.damaged_before.ensures.place

pub returns-clause-fit : goal.returns-clause-fit
returns-clause-fit c =
    let whole : take c.in_ok-fitting.fitting c.args.changes.now ≡ c.args.changes.now = take_all c.in_ok-fitting.fitting c.args.changes.now c.if-fitting-changes.false in
    subst (AllFitIn (rows_of_draft c.args.draft.now)) whole c.in_ok-fitting.ensures.fit

pub returns-clause-rows : goal.returns-clause-rows
returns-clause-rows c =
    let whole : take c.in_ok-fitting.fitting c.args.changes.now ≡ c.args.changes.now = take_all c.in_ok-fitting.fitting c.args.changes.now c.if-fitting-changes.false in
    c.in_ok-fitting.ensures.rows ∙ ap (changed_by (rows_of_draft c.args.draft.now)) whole
