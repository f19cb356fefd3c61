use Rattle.std.proofs.Common.{◌≡◌, ◌+◌, length, take}
use Rattle.std.specs.List.{concat}
use Rattle.memory_world.proofs.link.moment_of.Given as goal

abbrev pub invariant-loop-newest : goal.invariant-loop-newest
invariant-loop-newest l = length (concat (take l.newest l.texts)) + l.left ≡ l.fn.count
