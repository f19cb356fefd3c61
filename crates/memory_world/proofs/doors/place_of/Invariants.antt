use Rattle.std.proofs.Common.{◌≡◌, None, take}
use Rattle.memory_world.specs.Door.{door_among}
use Rattle.memory_world.proofs.doors.place_of.Given as goal

abbrev pub invariant-loop-at : goal.invariant-loop-at
invariant-loop-at l = door_among (take l.at l.doors) l.fn.name ≡ None
