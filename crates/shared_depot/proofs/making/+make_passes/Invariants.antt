use Rattle.shared_depot.proofs.making.+make_passes.Given as goal

abbrev pub decreases-make_passes : goal.decreases-make_passes
decreases-make_passes g l = l.count
