use Rattle.std.proofs.Common.{◌≡◌, ◌++◌, length}
use Rattle.depot_model.specs.Printed.{printed_value}
use Rattle.wire_text.proofs.printing.put_value.Given as goal

abbrev pub invariant-loop-line : goal.invariant-loop-line
invariant-loop-line l = l.out ++ printed_value l.rest ≡ l.fn.out ++ printed_value l.value

abbrev pub decreases-loop-line : goal.decreases-loop-line
decreases-loop-line l = length l.rest
