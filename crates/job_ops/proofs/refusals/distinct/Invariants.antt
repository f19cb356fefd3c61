use Rattle.std.proofs.Common.{◌≡◌, ◌++◌, drop}
use Rattle.depot_rows.specs.depot_model.Steps.Jobs.{distinct, distinct_after}
use Rattle.job_ops.proofs.refusals.distinct.Given as goal

abbrev pub invariant-loop-name : goal.invariant-loop-name
invariant-loop-name l = l.kept ++ distinct_after l.kept (drop l.name-index l.names) ≡ distinct l.names
