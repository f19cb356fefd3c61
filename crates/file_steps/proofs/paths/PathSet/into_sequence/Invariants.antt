use Rattle.std.proofs.Common.{◌≡◌, ◌++◌}
use Rattle.file_steps.proofs.paths.PathSet.into_sequence.Given as goal

abbrev pub invariant-loop-path : goal.invariant-loop-path
invariant-loop-path l = l.paths ++ l.path-iterator ≡ l.fn.self
