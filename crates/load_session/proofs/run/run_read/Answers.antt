use Rattle.std.proofs.Common.{[], ◌∷◌, length, Option, Some, ap, sym, subst, ◌∙◌}
use Rattle.depot_model.specs.declared.request.Session.{Session}
use Rattle.session_loop.proofs.Faults.{caused_none, stand_same}
use Rattle.session_loop.specs.Asking.{AreWellFormed, commands_of}
use Rattle.load_session.proofs.Loads.{all_taken, loaded_of, loaded_none}
use Rattle.load_session.proofs.run.run_read.Goals as goal

pub returns-in-Some-clause-commands : goal.returns-in-Some-clause-commands
returns-in-Some-clause-commands g c =
    let run = c.run_session-run.ensures in
    all_taken c.run_session-run.result.failed _ _ run.all run.cause ∙ ap (λ (s : Option Session). length (commands_of s)) (sym c.in-Some.is)

pub returns-in-Some-clause-loaded : goal.returns-in-Some-clause-loaded
unfolding returns-in-Some-clause-commands
returns-in-Some-clause-loaded g c = λ since start formed ran.
    let P : Option Session → Type 0 = λ session. AreWellFormed (commands_of session) in
    let run = c.run_session-run.ensures in
    loaded_of _ _ start c.args.session c.run_session-run.result.commands c.run_session-run.result.failed _ _ _ (returns-in-Some-clause-commands g c)
    (run.served (c.args.session ∷ []) since start (ap Some c.in-Some.is) (subst P c.in-Some.is formed) ran)
    (run.ran (c.args.session ∷ []) since start (ap Some c.in-Some.is) (subst P c.in-Some.is formed) ran)

pub returns-in-None-clause-loaded : goal.returns-in-None-clause-loaded
returns-in-None-clause-loaded g c = λ since start formed ran. loaded_none _ _ start c.args.session _ c.in-None.is c.requires.no_places ran

pub returns-in-None-clause-faults : goal.returns-in-None-clause-faults
returns-in-None-clause-faults g c = rw c.requires.no_places (caused_none _ _)

pub returns-in-None-clause-stand : goal.returns-in-None-clause-stand
returns-in-None-clause-stand g c = stand_same _ _ [] c.args.order.now.items
