use Rattle.std.proofs.Common.{◌≡◌, ◌+◌, Bool, List, length, take, cond, sym, ap, ◌∙◌, arith, zero-add}
use Rattle.std.specs.Prelude.{filter, slice_get}
use Rattle.std.proofs.lemmas.List.{take_all}
use Rattle.std.proofs.lemmas.List.Filters.{length-filter_more}
use Rattle.depot_rows.specs.depot_model.Tables.{set_locks}
use Rattle.depot_rows.specs.depot_model.declared.lock.LockId.{LockId}
use Rattle.command_needs.specs.Sets.{takes}
use Rattle.lock_core.proofs.Passing.{none_past, stands_next}
use Rattle.lock_core.proofs.work.Work.next_lock.Goals as goal
use Rattle.lock_core.proofs.work.Work.next_lock.Goals.{then-takes+else-left-eq0, else-takes}

pub returns-then-left-eq0 : goal.returns-then-left-eq0
returns-then-left-eq0 c =
    let at = c.loop-lock in
    let test = takes c.args.self.now.needs in
    let before = length (filter test (take at.lock-index set_locks)) in
    let passed : before ≡ c.args.self.now.done = sym (zero-add before) ∙ (ap (λ n. n + before) (sym c.if-left-eq0.true) ∙ at.invariant) in
    sym (stands_next test set_locks at.lock-index _ c.loop-lock-test.true (sym c.takes.ensures ∙ c.if-takes.true)) ∙ ap (slice_get (filter test set_locks)) passed

pub loop-lock-preserved : goal.loop-lock-preserved
loop-lock-preserved c =
    let at = c.loop-lock in
    let test = takes c.args.self.now.needs in
    let passed = length (filter test (take at.lock-index set_locks)) in
    let more = length-filter_more test set_locks at.lock-index _ c.loop-lock-test.true in
    let before = at.invariant in
    elim c.if-takes.branch [
      | then-takes+else-left-eq0 w ↦
          let one = more ∙ ap (λ (b : Bool). passed + cond b 1 0) (sym c.takes.ensures ∙ w.if-takes.true) in
          let left = w.left-is in
          let some = w.if-left-eq0.false in
          omega arith
      | else-takes w ↦
          let none = more ∙ ap (λ (b : Bool). passed + cond b 1 0) (sym c.takes.ensures ∙ w.if-takes.false) in
          let left = w.left-is in
          omega arith
    ]

pub returns : goal.returns
returns c =
    let at = c.loop-lock in
    let test = takes c.args.self.now.needs in
    let all = ap (λ (locks : List LockId). length (filter test locks)) (take_all at.lock-index set_locks c.loop-lock-test.false) in
    let passed = at.invariant in
    sym (none_past (filter test set_locks) c.args.self.now.done (omega arith))
