use Rattle.shared_depot.proofs.making.+pair_first.Given as goal

abbrev pub decreases-pair_first : goal.decreases-pair_first
decreases-pair_first g l = l.count
