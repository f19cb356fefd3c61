use Rattle.std.proofs.Common.{◌≡◌, ◌+◌, ◌≤◌, [], length, reverse}
use Rattle.spec_form.specs.Texts.{text_lines}
use Rattle.spec_form.specs.Reading.{lines_read}
use Rattle.spec_form.proofs.reader.read_fields.Given as goal

abbrev pub invariant-loop-rest : goal.invariant-loop-rest
invariant-loop-rest l = record {
  read : lines_read l.shape l.number (text_lines l.rest) (reverse l.fields) ≡ lines_read l.shape 1 (text_lines l.fn.text) [];
  within : l.number + length l.rest ≤ length l.fn.text + 1;
}

abbrev pub decreases-loop-rest : goal.decreases-loop-rest
decreases-loop-rest l = length l.rest
