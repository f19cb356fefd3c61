use Rattle.std.proofs.Common.{refl, arith}
use Rattle.depot_follow.specs.Opening.{no_changes}
use Rattle.depot_follow.proofs.laws.new_nodes_begin_alike.Goals as goal

pub returns : goal.returns
returns g c = λ theirs archive n. record { mine = no_changes; is_node = n; no_further = omega arith; same = λ image left. refl }
