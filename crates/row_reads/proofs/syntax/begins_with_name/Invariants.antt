use Rattle.std.proofs.Common.{◌≡◌, length}
use Rattle.depot_rows.specs.depot_model.Arguments.{begins_with_name}
use Rattle.row_reads.proofs.syntax.begins_with_name.Given as goal

abbrev pub invariant-loop-name : goal.invariant-loop-name
invariant-loop-name l = begins_with_name l.name l.pieces ≡ begins_with_name l.initial.name l.initial.pieces

abbrev pub decreases-loop-name : goal.decreases-loop-name
decreases-loop-name l = length l.name
