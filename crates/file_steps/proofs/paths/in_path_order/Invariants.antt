use Rattle.std.proofs.Common.{◌≡◌, [], length}
use Rattle.depot_rows.specs.depot_model.Sorted.{all_inserted}
use Rattle.file_steps.proofs.paths.in_path_order.Given as goal

abbrev pub invariant-loop-path : goal.invariant-loop-path
invariant-loop-path l = all_inserted l.rest.items l.set ≡ all_inserted l.fn.paths []

abbrev pub decreases-loop-path : goal.decreases-loop-path
decreases-loop-path l = length l.rest.items
