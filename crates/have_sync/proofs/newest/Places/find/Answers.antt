use Rattle.have_sync.proofs.newest.Places.find.Goals as goal

pub returns-clause-places : goal.returns-clause-places
returns-clause-places c = λ of. record { heads = c.in_ok-paths.ensures.heads of.heads; haves = of.haves; haves_are = of.haves_are }
