-- What follows of what is told, if it is.
use Rattle.shared_depot.specs.Asked.{IfTold}
use Rattle.shared_depot.specs.declared.reading.Reading.{Reading}
use Rattle.shared_depot.specs.declared.reading.Reading.TheVariants.{Placed, Told}
use Rattle.depot_commit.specs.declared.telling.Told.{Told as AnyTold}

pub IfTold_then : (reading : Reading) {P Q : AnyTold → Type 0} → IfTold P reading → ((told : AnyTold) → P told → Q told) → IfTold Q reading
IfTold_then (Told told) is then = then told is
IfTold_then (Placed answer) is then = tt
