use Rattle.std.proofs.Common.{◌≡◌, ◌++◌}
use Rattle.spec_form.specs.Fields.{seen_fields}
use Rattle.spec_form.specs.Printing.{printed}
use Rattle.spec_form.proofs.print.print_fields.Given as goal

-- the text, and that of the fields that are left
abbrev pub invariant-loop-name : goal.invariant-loop-name
invariant-loop-name l = l.out ++ printed l.shape (seen_fields l.name-iterator) ≡ printed l.shape l.fn.fields
