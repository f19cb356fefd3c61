use Rattle.std.proofs.Common.{Bool, Option, sym, ap, subst, ◌∙◌}
use Rattle.std.specs.Prelude.{IfSome, if◌then◌else◌}
use Rattle.newest_revisions.specs.Newest.{HasRow, choice_of}
use Rattle.newest_revisions.specs.declared.newest.Revision.{Revision}
use Rattle.label_ops.proofs.Tags.{live_at_choice, live_is}
use Rattle.label_ops.proofs.taking.live_choice.Goals as goal

pub returns-then-live-clause-rev : goal.returns-then-live-clause-rev
returns-then-live-clause-rev c = λ d are sound has there.
    let caller = c.args.caller.now in
    let path = c.args.path.now in
    let wanted = c.args.wanted.now in
    let found = c.in-Some.found in
    let at = c.in_ok-choice.ensures.choice d are sound has there in
    let live = c.is_live-live.ensures d path (subst (λ (o : Option Revision). IfSome o (HasRow d path)) c.in-Some.is at.has_row) in
    ap (λ (b : Bool). if b then found.rev else 0) (sym c.if-live.true ∙ live)
    ∙ ap (live_at_choice d path) (ap choice_of (sym c.in-Some.is) ∙ at.choice_is) ∙ live_is d caller path wanted

pub returns-else-live-clause-rev : goal.returns-else-live-clause-rev
returns-else-live-clause-rev c = λ d are sound has there.
    let caller = c.args.caller.now in
    let path = c.args.path.now in
    let wanted = c.args.wanted.now in
    let found = c.in-Some.found in
    let at = c.in_ok-choice.ensures.choice d are sound has there in
    let live = c.is_live-live.ensures d path (subst (λ (o : Option Revision). IfSome o (HasRow d path)) c.in-Some.is at.has_row) in
    ap (λ (b : Bool). if b then found.rev else 0) (sym c.if-live.false ∙ live)
    ∙ ap (live_at_choice d path) (ap choice_of (sym c.in-Some.is) ∙ at.choice_is) ∙ live_is d caller path wanted

pub returns-in-None-clause-rev : goal.returns-in-None-clause-rev
returns-in-None-clause-rev c = λ d are sound has there.
    let at = c.in_ok-choice.ensures.choice d are sound has there in
    ap (live_at_choice d c.args.path.now) (ap choice_of (sym c.in-None.is) ∙ at.choice_is) ∙ live_is d c.args.caller.now c.args.path.now c.args.wanted.now
