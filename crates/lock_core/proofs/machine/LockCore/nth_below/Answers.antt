use Rattle.std.proofs.Common.{◌≡◌, ◌+◌, ◌≤◌, ℕ, Bool, length, sym, ap, ◌∙◌, arith}
use Rattle.std.specs.Prelude.{◌||◌, slice_get}
use Rattle.std.proofs.lemmas.Option.{slice_get_past}
use Rattle.lock_core.specs.Core.{may_wait, wait_at}
use Rattle.lock_core.specs.Drawing.{has_other, may_go_below}
use Rattle.lock_core.proofs.Ranges.{counted_one, stands_at, without_one}
use Rattle.lock_core.proofs.machine.LockCore.nth_below.Goals as goal
use Rattle.lock_core.proofs.machine.LockCore.nth_below.Goals.{then-may_go_on+else-passed-place, else-may_go_on}

pub loop-party-preserved : goal.loop-party-preserved
loop-party-preserved c =
    let items = c.args.self.now.parties.items in
    let n = c.loop-party.party in
    let test : ℕ → Bool = λ i. may_wait items (wait_at items i) || has_other c.args.others.now i in
    elim c.if-may_go_on.branch [
      | then-may_go_on+else-passed-place w ↦ record {
        counted = w.passed-is ∙ (ap (λ m. m + 1) c.loop-party.invariant.counted ∙ sym (counted_one test n (sym c.may_go_on.ensures ∙ w.if-may_go_on.true)));
        before = omega arith;
      }
      | else-may_go_on w ↦ record {
        counted = w.passed-is ∙ (c.loop-party.invariant.counted ∙ sym (ap (length {A = ℕ}) (without_one test n (sym c.may_go_on.ensures ∙ w.if-may_go_on.false))));
        before = omega arith;
      }
    ]

pub returns-then-passed-place : goal.returns-then-passed-place
returns-then-passed-place c =
    let items = c.args.self.now.parties.items in
    let n = c.loop-party.party in
    let test : ℕ → Bool = λ i. may_wait items (wait_at items i) || has_other c.args.others.now i in
    let place_is : c.args.place ≡ length (may_go_below items c.args.others.now n) = sym c.if-passed-place.true ∙ c.loop-party.invariant.counted in
    sym (ap (slice_get (may_go_below items c.args.others.now c.args.end)) place_is ∙ stands_at test n c.args.end c.loop-party-test.true (sym c.may_go_on.ensures ∙ c.if-may_go_on.true))

pub returns : goal.returns
returns c =
    let items = c.args.self.now.parties.items in
    let n = c.loop-party.party in
    let whole : n ≡ c.args.end = omega arith in
    let passed : length (may_go_below items c.args.others.now c.args.end) ≡ c.loop-party.passed = ap (λ m. length (may_go_below items c.args.others.now m)) (sym whole) ∙ sym c.loop-party.invariant.counted in
    let few : length (may_go_below items c.args.others.now c.args.end) ≤ c.args.place = omega (arith, passed, c.loop-party.invariant.before) in
    sym (slice_get_past (may_go_below items c.args.others.now c.args.end) c.args.place few)
