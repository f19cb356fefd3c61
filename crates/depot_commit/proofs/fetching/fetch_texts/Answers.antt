use Rattle.std.proofs.Common.{List, ℕ, sym, subst}
use Rattle.std.specs.Prelude.{IfOk}
use Rattle.outside_api.specs.Link.{Answers}
use Rattle.depot_commit.proofs.Growing.{groups_kept}
use Rattle.depot_commit.proofs.fetching.fetch_texts.Goals as goal

pub returns-clause-answers : goal.returns-clause-answers
returns-clause-answers g c = λ texts h.
    let P : List (List ℕ) → Type 0 = λ told. IfOk c.fetch.result (λ fetched. Answers told c.args.generation c.args.at fetched c.fetch.new.buffer) in
    subst P (sym h.are) (c.fetch.ensures.as_link h.was h.doubt h.before h.files h.stands h.sees h.as_many h.older)

pub returns-clause-fetched : goal.returns-clause-fetched
returns-clause-fetched g c = record {
  stands = c.fetch.ensures.stands;
  any_moment = c.fetch.ensures.any_moment;
  groups = λ all has. groups_kept has c.fetch.ensures.keeps (c.fetch.ensures.stands has.was has.doubt has.stands);
}
