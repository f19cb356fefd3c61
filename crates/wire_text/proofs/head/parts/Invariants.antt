use Rattle.std.proofs.Common.{◌≡◌, ◌++◌, length}
use Rattle.wire_text.specs.Parts.{texts, parted}
use Rattle.wire_text.proofs.head.parts.Given as goal

abbrev pub invariant-loop-part : goal.invariant-loop-part
invariant-loop-part l = texts l.parts.items ++ parted l.rest ≡ parted l.line

abbrev pub decreases-loop-part : goal.decreases-loop-part
decreases-loop-part l = length l.rest
