use Rattle.std.proofs.Common.{◌≡◌, ◌++◌, take}
use Rattle.depot_model.specs.Printed.{printed_rows}
use Rattle.wire_text.proofs.printing.put_rows.Given as goal

abbrev pub invariant-loop-row : goal.invariant-loop-row
invariant-loop-row l = l.out ≡ l.fn.out ++ printed_rows (take l.row-index l.rows)
