use Rattle.std.proofs.Common.{◌<◌, ◌^◌, length}
use Rattle.session_turns.proofs.Rounds.{AreSoFar}
use Rattle.session_turns.specs.Drawn.{Progress}
use Rattle.session_turns.specs.Going.{AreGoing, HaveLost, HaveTold, all_left}
use Rattle.session_turns.specs.Running.{Scene}
use Rattle.session_turns.specs.Taking.{CanGoOn, HaveCauses, StayWithin}
use Rattle.session_turns.proofs.turns.Turns.take_all.Given as goal

-- the turns so far
abbrev pub invariant-turns : goal.invariant-turns
invariant-turns g l = record {
  can : CanGoOn g.D.Disk.says l.self;
  so_far : (scene : Scene) (p : Progress) → AreGoing g.D.Disk.says g.K.Sink.says (g.C.Clock.says.may_give l.clock) scene p l.fn.self → length scene.sessions < 2 ^ 32 → all_left p < 2 ^ 64
      → AreSoFar g.D.Disk.says g.K.Sink.says (g.C.Clock.says.may_give l.clock) scene l.seed p l.fn.self l.self l.draw l.turns;
  within : StayWithin g.K.Sink.says l.fn.self l.self;
  faults : HaveCauses g.D.Disk.says l.fn.self l.self;
  told : HaveTold g.D.Disk.says l.fn.self l.self;
  lost : HaveLost g.D.Disk.says l.fn.self l.self;
}

abbrev pub decreases-turns : goal.decreases-turns
decreases-turns g l = l.turns
