use Rattle.std.proofs.Common.{◌≡◌, take}
use Rattle.std.specs.Prelude.{map}
use Rattle.depot_rows.specs.depot_model.Steps.Jobs.{fix_row}
use Rattle.job_ops.proofs.fixes.fix_list.Given as goal

abbrev pub invariant-loop-form : goal.invariant-loop-form
invariant-loop-form l = l.rows ≡ map fix_row (take l.form-index l.forms)
