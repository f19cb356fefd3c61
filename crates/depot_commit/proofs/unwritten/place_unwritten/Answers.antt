use Rattle.std.proofs.Common.{sym, subst, ◌∙◌}
use Rattle.depot_commit.specs.Committing.{AreChangesOf}
use Rattle.depot_commit.proofs.Outcomes.{answers, told_changes}
use Rattle.depot_commit.proofs.Idle.{none_changed}
use Rattle.depot_commit.proofs.unwritten.place_unwritten.Goals as goal

pub returns-clause-answers : goal.returns-clause-answers
returns-clause-answers c = λ start places outcome t told. answers (λ whole. told (sym c.is_unread-unread.ensures ∙ (sym c.answer_told.ensures.fault ∙ whole))) t.of_fault c.answer_told.ensures.told

pub returns-clause-leaves : goal.returns-clause-leaves
returns-clause-leaves c = λ rows from outcome proper is t read d stand.
    let request = c.args.request.now in
    let told = c.args.told in
    let none = none_changed told c.requires.unwritten read in
    (subst (AreChangesOf rows request) none (told_changes stand is t proper c.requests_are_typed.ensures)).stand d stand
