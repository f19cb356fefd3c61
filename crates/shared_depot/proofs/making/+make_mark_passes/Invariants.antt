use Rattle.shared_depot.proofs.making.+make_mark_passes.Given as goal

abbrev pub decreases-make_mark_passes : goal.decreases-make_mark_passes
decreases-make_mark_passes g l = l.count
