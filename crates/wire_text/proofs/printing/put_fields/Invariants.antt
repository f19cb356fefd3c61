use Rattle.std.proofs.Common.{◌≡◌, ◌++◌, take}
use Rattle.depot_model.specs.Printed.{printed_fields}
use Rattle.wire_text.proofs.printing.put_fields.Given as goal

abbrev pub invariant-loop-field : goal.invariant-loop-field
invariant-loop-field l = l.out ≡ l.fn.out ++ printed_fields (take l.field-index l.fields)
