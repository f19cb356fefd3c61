use Rattle.std.proofs.Common.{◌≡◌, take}
use Rattle.wire_text.specs.Parts.{texts}
use Rattle.wire_text.proofs.head.copies.Given as goal

abbrev pub invariant-loop-part : goal.invariant-loop-part
invariant-loop-part l = l.copies ≡ texts (take l.part-index l.parts)
