use Rattle.std.proofs.Common.{◌≡◌, length, map, take}
use Rattle.run_parties.specs.Asking.{left_in}
use Rattle.session_turns.proofs.replicas.left_counts.Given as goal

-- those so far
abbrev pub invariant-loop-party : goal.invariant-loop-party
invariant-loop-party l = l.counts.items ≡ map (λ party. length (left_in party)) (take l.party-index l.parties)
