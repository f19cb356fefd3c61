use Rattle.std.proofs.Common.{◌≡◌, map, take}
use Rattle.run_parties.specs.Asking.{fresh}
use Rattle.session_turns.proofs.beginning.fresh_runs.Given as goal

-- one for each so far
abbrev pub invariant-loop-total : goal.invariant-loop-total
invariant-loop-total l = l.runs.items ≡ map (λ total. fresh) (take l._total-index l.totals)
