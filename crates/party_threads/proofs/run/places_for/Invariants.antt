use Rattle.std.proofs.Common.{◌≡◌, length, map, take}
use Rattle.party_threads.proofs.run.places_for.Given as goal

-- those so far
abbrev pub invariant-loop-own : goal.invariant-loop-own
invariant-loop-own l = l.places.items ≡ map (λ own. length own.items) (take l.own-index l.requests)
