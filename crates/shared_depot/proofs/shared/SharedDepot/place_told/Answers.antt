use Rattle.std.proofs.Common.{sym, ◌∙◌, rules}
use Rattle.std.proofs.lemmas.Option.{same_Some}
use Rattle.shared_depot.proofs.Committed.{archive_committed}
use Rattle.shared_depot.proofs.Order.{ends_at}
use Rattle.shared_depot.proofs.shared.SharedDepot.place_told.Goals as goal

pub place_quiet-answer-requires : goal.place_quiet-answer-requires
place_quiet-answer-requires g c =
    let so = c.in_ok-settled.ensures.settled c.requires.0.request c.requires.1 in
    rw (sym (same_Some _ _ (sym c.requires.0.is ∙ (sym c.take.ensures.value ∙ c.unwrap-request.ensures)))) (record {
      may = c.requires.0.may;
      unwritten = rw c.in_ok-settled.ensures.told (c.is_unwritten.ensures.unwritten c.if-is_unwritten.true);
      held = so.read;
      end = search rules;
      fits = search rules;
      tells = (so.due.outcome, so.due.tells);
      due = λ read. rw c.in_ok-settled.ensures.same so.due;
    })

pub room_for-requires-clause-settled : goal.room_for-requires-clause-settled
room_for-requires-clause-settled g c =
    let so = c.in_ok-settled-2.ensures.settled c.requires.0.request c.requires.1 in
    (c.requires.0.request, c.requires.0.is, rw (c.learn.ensures.learnt, ← c.learn.ensures.same) so)

pub returns-in-None-clause-tried : goal.returns-in-None-clause-tried
returns-in-None-clause-tried g c = rw c.in_ok-writing.ensures.asked c.in_ok-commit-in-None.ensures.taken

pub commit-requires-in-Some-clause-used : goal.commit-requires-in-Some-clause-used
commit-requires-in-Some-clause-used g c = ends_at c.stored.invariant.0 (c.stored.view_is ∙ (c.deref_mut-stored.ensures.value ∙ (rw c.in-Some.is at c.in_ok-writing.ensures.archive)))

pub invariant_of-stored : goal.invariant_of-stored
invariant_of-stored g c =
    let commit = c.commit-in-Some in
    archive_committed c.stored.invariant commit.ensures.never_falls commit.result (λ same. (same.1, same.2)) commit.ensures.nothing commit.ensures.stored

pub returns-clause-tried : goal.returns-clause-tried
returns-clause-tried g c = rw c.in_ok-writing.ensures.asked c.in_ok-commit-in-Some.ensures.taken
