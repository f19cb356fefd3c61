use Rattle.std.proofs.Common.{take}
use Rattle.memory_world.specs.Files.{contents}
use Rattle.memory_world.specs.Replay.{replay, at_rest}
use Rattle.memory_world.specs.Ranges.{Agrees}
use Rattle.memory_world.proofs.image.replay_calls.Given as goal

abbrev pub invariant-loop-call : goal.invariant-loop-call
invariant-loop-call l = Agrees l.files.items l.ranges.items (replay (take l.call-index l.calls) (at_rest (contents l.start)))
