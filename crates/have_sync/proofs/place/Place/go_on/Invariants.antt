use Rattle.std.proofs.Common.{◌≡◌}
use Rattle.have_sync.specs.Places.{StandsBy}
use Rattle.have_sync.proofs.place.Place.go_on.Given as goal

abbrev pub invariant-loop-steps : goal.invariant-loop-steps
invariant-loop-steps l = record {
  place : StandsBy l.key l.fn.self → StandsBy l.key l.self;
  version : l.self.version ≡ l.fn.self.version;
}

abbrev pub decreases-loop-steps : goal.decreases-loop-steps
decreases-loop-steps l = l.steps
