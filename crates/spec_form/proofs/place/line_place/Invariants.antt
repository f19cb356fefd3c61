use Rattle.std.proofs.Common.{◌≡◌, ◌+◌, ◌≤◌, length}
use Rattle.spec_form.specs.Texts.{text_lines}
use Rattle.spec_form.specs.Places.{places_from, number_at, line_place}
use Rattle.spec_form.proofs.place.line_place.Given as goal

abbrev pub invariant-loop-name : goal.invariant-loop-name
invariant-loop-name l = record {
  place : number_at l.left (places_from l.name l.inside l.number (text_lines l.rest)) ≡ line_place l.fn.text l.fn.field l.fn.index;
  name : l.name ≡ l.fn.field;
  within : l.number + length l.rest ≤ length l.fn.text + 1;
}

abbrev pub decreases-loop-name : goal.decreases-loop-name
decreases-loop-name l = length l.rest
