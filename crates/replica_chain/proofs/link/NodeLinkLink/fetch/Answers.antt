use Rattle.std.proofs.Common.{List, ℕ, sym, subst}
use Rattle.outside_api.specs.Link.{Answers}
use Rattle.replica_chain.proofs.Told.{earlier_itself, some_texts, told_on}
use Rattle.replica_chain.proofs.link.NodeLinkLink.fetch.Goals as goal

pub returns-in-Ok-clause-answer : goal.returns-in-Ok-clause-answer
returns-in-Ok-clause-answer g c = λ now told. (
  now,
  earlier_itself now (some_texts g.D.Disk.says c.fetch_on.new.self now told.has),
  subst (λ (texts : List (List ℕ)). Answers texts c.args.generation c.args.at c.in-Ok.fetched c.fetch_on.new.buffer) (sym told.has.are)
      (c.in-Ok.ensures.as_link_after told.has.was told.has.doubt told.has.before told.has.files told.has.stands told.has.sees told.has.as_many told.has.older told.scanned),
)

pub returns-in-Ok-clause-grows : goal.returns-in-Ok-clause-grows
returns-in-Ok-clause-grows g c =
    told_on g.D.Disk.says c.args.self.now (record { journal = c.fetch_on.new.self; scanned = c.fetch_on.new.scanned }) c.fetch_on.ensures.stands c.fetch_on.ensures.same c.fetch_on.ensures.scanned

pub returns-in-Err-clause-grows : goal.returns-in-Err-clause-grows
returns-in-Err-clause-grows g c =
    told_on g.D.Disk.says c.args.self.now (record { journal = c.fetch_on.new.self; scanned = c.fetch_on.new.scanned }) c.fetch_on.ensures.stands c.fetch_on.ensures.same c.fetch_on.ensures.scanned

pub returns-in-Ok-clause-keeps : goal.returns-in-Ok-clause-keeps
returns-in-Ok-clause-keeps g c = record {
  journal = record {
    stands = c.fetch_on.ensures.stands;
    keeps = c.fetch_on.ensures.keeps;
    reads = record { same = c.fetch_on.ensures.same; no_more = c.fetch_on.ensures.crash; any_moment = c.fetch_on.ensures.any_moment };
  };
  scanned = c.fetch_on.ensures.scanned;
}

pub returns-in-Err-clause-keeps : goal.returns-in-Err-clause-keeps
returns-in-Err-clause-keeps g c = record {
  journal = record {
    stands = c.fetch_on.ensures.stands;
    keeps = c.fetch_on.ensures.keeps;
    reads = record { same = c.fetch_on.ensures.same; no_more = c.fetch_on.ensures.crash; any_moment = c.fetch_on.ensures.any_moment };
  };
  scanned = c.fetch_on.ensures.scanned;
}
