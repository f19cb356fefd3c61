use Rattle.std.proofs.Common.{◌≡◌, length}
use Rattle.spec_form.specs.Shapes.{seen_rows}
use Rattle.spec_form.specs.Reading.{lacks}
use Rattle.spec_form.proofs.reader.lacks_required.Given as goal

abbrev pub invariant-loop-rows : goal.invariant-loop-rows
invariant-loop-rows l = lacks (seen_rows l.rows) l.fields ≡ lacks (seen_rows l.initial.rows) l.fields

abbrev pub decreases-loop-rows : goal.decreases-loop-rows
decreases-loop-rows l = length l.rows
