use Rattle.std.proofs.Common.{◌+◌, ℕ, Bool, length, sym, ap, ◌∙◌, arith}
use Rattle.std.specs.Prelude.{◌||◌}
use Rattle.lock_core.specs.Core.{may_wait, wait_at}
use Rattle.lock_core.specs.Drawing.{has_other}
use Rattle.lock_core.proofs.Ranges.{counted_one, without_one}
use Rattle.lock_core.proofs.machine.LockCore.count_below.Goals as goal
use Rattle.lock_core.proofs.machine.LockCore.count_below.Goals.{then-may_go_on, else-may_go_on}

pub loop-party-preserved : goal.loop-party-preserved
loop-party-preserved c =
    let items = c.args.self.now.parties.items in
    let n = c.loop-party.party in
    let test : ℕ → Bool = λ i. may_wait items (wait_at items i) || has_other c.args.others.now i in
    elim c.if-may_go_on.branch [
      | then-may_go_on w ↦ record {
        counted = w.count-is ∙ (ap (λ m. m + 1) c.loop-party.invariant.counted ∙ sym (counted_one test n (sym c.may_go_on.ensures ∙ w.if-may_go_on.true)));
        few = omega arith;
      }
      | else-may_go_on w ↦ record {
        counted = w.count-is ∙ (c.loop-party.invariant.counted ∙ sym (ap (length {A = ℕ}) (without_one test n (sym c.may_go_on.ensures ∙ w.if-may_go_on.false))));
        few = omega arith;
      }
    ]
