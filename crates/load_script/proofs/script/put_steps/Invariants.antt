use Rattle.std.proofs.Common.{◌++◌, ◌-◌, []}
use Rattle.load_script.specs.Script.{files_after, steps_behind}
use Rattle.load_script.proofs.Steps.{IsSoFar}
use Rattle.load_script.proofs.script.put_steps.Given as goal

-- the steps so far, and those that are left
abbrev pub invariant-loop-done : goal.invariant-loop-done
invariant-loop-done l = IsSoFar (l.initial.out ++ steps_behind [] (files_after l.fn.seed l.count)) l.out l.known l.draw (l.count - l.done) l.done
