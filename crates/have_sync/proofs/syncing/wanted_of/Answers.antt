use Rattle.std.proofs.Common.{Bool, refl, sym, ap, ◌∙◌}
use Rattle.std.specs.Prelude.{if◌then◌else◌}
use Rattle.have_sync.proofs.Synced.{live_shown, not_live}
use Rattle.have_sync.proofs.syncing.wanted_of.Goals as goal

pub returns-then-not-live-clause-rev : goal.returns-then-not-live-clause-rev
returns-then-not-live-clause-rev c = λ d reads has.
    let live = c.is_live-live.result in
    not_live d c.args.caller.now c.args.argument.now c.args.path.now c.args.found.rev live c.if-not-live.true (c.is_live-live.ensures d c.args.path.now has)

pub returns-then-shown-clause-rev : goal.returns-then-shown-clause-rev
returns-then-shown-clause-rev c = λ d reads has.
    let rev = c.args.found.rev in
    let live = c.is_live-live.result in
    ap (λ (b : Bool). if b then rev else 0) (sym c.if-shown.true)
    ∙ live_shown d c.args.caller.now c.args.argument.now c.args.path.now rev live c.in_ok-shown.shown c.if-not-live.false
    (c.is_live-live.ensures d c.args.path.now has) (c.in_ok-shown.ensures d reads)

pub returns-else-shown-clause-rev : goal.returns-else-shown-clause-rev
returns-else-shown-clause-rev c = λ d reads has.
    let rev = c.args.found.rev in
    let live = c.is_live-live.result in
    ap (λ (b : Bool). if b then rev else 0) (sym c.if-shown.false)
    ∙ live_shown d c.args.caller.now c.args.argument.now c.args.path.now rev live c.in_ok-shown.shown c.if-not-live.false
    (c.is_live-live.ensures d c.args.path.now has) (c.in_ok-shown.ensures d reads)

pub returns-then-not-live-clause-row : goal.returns-then-not-live-clause-row
returns-then-not-live-clause-row c = λ d has. refl

pub returns-then-shown-clause-row : goal.returns-then-shown-clause-row
returns-then-shown-clause-row c = λ d has. has

pub returns-else-shown-clause-row : goal.returns-else-shown-clause-row
returns-else-shown-clause-row c = λ d has. refl
