use Rattle.depot_commit.proofs.Stored.{on_err}
use Rattle.std.proofs.lemmas.Bool.{true≢false}
use Rattle.std.proofs.Common.{◌≡◌, ℕ, [], ◌∷◌, refl, sym, ap, subst, ◌∙◌}
use Rattle.outside_api.specs.Link.{Answers}
use Rattle.disk_journal.specs.declared.journal.Journal.{Journal}
use Rattle.depot_commit.specs.Fetching.{HasTexts}
use Rattle.depot_runs.specs.Replica.{position_row}
use Rattle.depot_rows.specs.depot_model.Printed.{printed}
use Rattle.replica_turns.specs.Replying.{IsPullAnswer}
use Rattle.replica_turns.specs.declared.party.Answered.{Answered}
use Rattle.replica_turns.proofs.pulling.pull_into.Goals as goal

pub returns-in_ok-follow-in-Ok-clause-answered : goal.returns-in_ok-follow-in-Ok-clause-answered
returns-in_ok-follow-in-Ok-clause-answered g c = λ depot same.
    subst (λ (answered : Answered). IsPullAnswer (λ been. been ≡ depot) g.D.Disk.says c.args.replica.now c.follow.new.replica c.args.number answered.text answered.lost)
    (sym c.tells.ensures) (record {
      depot = depot;
      been = refl;
      fetched = c.in-Ok.fetched;
      piece = c.fetch_texts.new.buffer;
      answers = λ texts has.
          subst (λ (at : ℕ × ℕ). Answers texts at.0 at.1 c.in-Ok.fetched c.fetch_texts.new.buffer) c.awaits-generation.ensures (c.in-Ok.ensures.answers texts (subst (λ (journal : Journal g.row.D.Denot). HasTexts g.D.Disk.says journal texts) same has));
      follows = c.in_ok-follow-in-Ok.ensures.follows;
      reply = c.position.ensures ∙ ap (λ (at : ℕ × ℕ). printed (position_row at.0 at.1 ∷ []) c.args.number) c.position-generation.ensures;
    })

pub returns-in_err-follow-in-Ok-clause-no_memory : goal.returns-in_err-follow-in-Ok-clause-no_memory
returns-in_err-follow-in-Ok-clause-no_memory g c = on_err c.from_residual.result _ c.in-Ok.ensures.only

pub returns-in_ok-follow-in-Ok-clause-only : goal.returns-in_ok-follow-in-Ok-clause-only
returns-in_ok-follow-in-Ok-clause-only g c = λ kept. c.in-Ok.ensures.only

pub returns-in-Err-clause-only : goal.returns-in-Err-clause-only
returns-in-Err-clause-only g c = λ kept. absurd (true≢false (sym (ap (λ (answered : Answered). answered.lost) c.loses.ensures) ∙ kept))
