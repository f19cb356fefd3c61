use Rattle.std.proofs.Common.{arith}
use Rattle.wire_text.proofs.reader.ScriptReader.next.Goals as goal

pub overflow_add-self : goal.overflow_add-self
overflow_add-self g c =
    let k = rw c.in-Ok-Item.field-0-is at c.in-Ok-Item.ensures.item in
    omega (arith, k.2, k.3)
