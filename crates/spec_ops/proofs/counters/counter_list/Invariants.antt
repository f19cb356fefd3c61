use Rattle.std.proofs.Common.{◌≡◌, take}
use Rattle.std.specs.Prelude.{map}
use Rattle.depot_rows.specs.depot_model.Steps.Counters.{counter_row}
use Rattle.spec_ops.proofs.counters.counter_list.Given as goal

abbrev pub invariant-loop-counter : goal.invariant-loop-counter
invariant-loop-counter l = l.rows ≡ map (λ c. counter_row c.name c.value) (take l.counter-index l.counters)
