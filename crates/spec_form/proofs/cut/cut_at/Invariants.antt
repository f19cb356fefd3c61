use Rattle.std.proofs.Common.{◌≡◌, ◌++◌, take, drop}
use Rattle.depot_path.specs.Bytes.{is_among}
use Rattle.spec_form.specs.Texts.{before, behind}
use Rattle.spec_form.proofs.cut.cut_at.Given as goal

abbrev pub invariant-loop-i : goal.invariant-loop-i
invariant-loop-i l = record {
  found : is_among l.text l.byte ≡ is_among (drop l.i l.text) l.byte;
  front : before l.byte l.text ≡ take l.i l.text ++ before l.byte (drop l.i l.text);
  rest : behind l.byte l.text ≡ behind l.byte (drop l.i l.text);
}
