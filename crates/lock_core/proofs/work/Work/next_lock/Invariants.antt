use Rattle.std.proofs.Common.{◌≡◌, ◌+◌, length, take}
use Rattle.std.specs.Prelude.{filter}
use Rattle.depot_rows.specs.depot_model.Tables.{set_locks}
use Rattle.command_needs.specs.Sets.{takes}
use Rattle.lock_core.proofs.work.Work.next_lock.Given as goal

-- some of its set are passed, and so many are left to pass
abbrev pub invariant-loop-lock : goal.invariant-loop-lock
invariant-loop-lock l = l.left + length (filter (takes l.self.needs) (take l.lock-index set_locks)) ≡ l.self.done
