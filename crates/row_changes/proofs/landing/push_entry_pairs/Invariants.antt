use Rattle.std.proofs.Common.{◌≡◌, ◌++◌, take}
use Rattle.std.specs.Prelude.{flat_map}
use Rattle.depot_rows.specs.depot_model.Records.{pair_of}
use Rattle.depot_rows.specs.Deed.{credit_of}
use Rattle.row_changes.specs.Landing.{integed_rows}
use Rattle.row_changes.proofs.landing.push_entry_pairs.Given as goal

abbrev pub invariant-loop-credit : goal.invariant-loop-credit
invariant-loop-credit l = l.rows.items ≡ l.initial.rows.items ++ integed_rows (flat_map (λ c. pair_of l.change l.entry.path l.entry.rev (credit_of c)) (take l.credit-index l.credits))
