use Rattle.std.proofs.Common.{◌≡◌, ◌++◌, take}
use Rattle.std.specs.Prelude.{flat_map}
use Rattle.depot_rows.specs.Effects.{entry_pairs}
use Rattle.row_changes.specs.Landing.{integed_rows}
use Rattle.row_changes.proofs.landing.push_pairs.Given as goal

abbrev pub invariant-loop-entry : goal.invariant-loop-entry
invariant-loop-entry l = l.rows.items ≡ l.initial.rows.items ++ integed_rows (flat_map (entry_pairs l.change) (take l.entry-index l.entries))
