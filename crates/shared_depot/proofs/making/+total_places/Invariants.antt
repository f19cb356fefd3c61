use Rattle.shared_depot.proofs.making.+total_places.Given as goal

abbrev pub decreases-total_places : goal.decreases-total_places
decreases-total_places l = l.parties
