use Rattle.std.proofs.Common.{[], sym, ◌∙◌}
use Rattle.have_sync.proofs.place.Place.before.Goals as goal

pub returns-clause-place : goal.returns-clause-place
returns-clause-place c = record {
  front = [];
  fits = record {
    joined = sym c.take_next-next.ensures.first ∙ c.rows-rest.ensures;
    ends = tt;
    all = c.take_next-next.ensures.none;
  };
}
