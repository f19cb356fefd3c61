use Rattle.std.proofs.Common.{◌≡◌, map, take}
use Rattle.std.specs.Prelude.{fold, max, min}
use Rattle.depot_rows.specs.depot_model.Fixes.{job_number}
use Rattle.job_ops.proofs.saving.greatest_number.Given as goal

abbrev pub invariant-loop-name : goal.invariant-loop-name
invariant-loop-name l = l.greatest ≡ min 999999 (fold max 0 (map job_number (take l.name-index l.names)))
