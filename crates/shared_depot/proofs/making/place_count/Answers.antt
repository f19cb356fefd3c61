use Rattle.std.proofs.Common.{◌∙◌, Option, ℕ, unwrap_or, ap}
use Rattle.shared_depot.proofs.Places.{place_at}
use Rattle.shared_depot.proofs.making.place_count.Goals as goal

pub returns : goal.returns
returns c =
    let found = c.get.ensures.lookup in
    c.unwrap_or.ensures
    ∙ (ap (λ (o : Option ℕ). unwrap_or o 0) c.copied.ensures
    ∙ place_at c.args.places.now c.args.party c.requires c.get.result found.0 found.1)
