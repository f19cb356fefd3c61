use Rattle.std.proofs.Common.{ℕ, List, [], length, Option, ap, sym, subst, ◌∙◌}
use Rattle.depot_model.specs.declared.order.Place.{Place}
use Rattle.depot_model.specs.declared.request.Session.{Session}
use Rattle.session_loop.specs.Asking.{commands_of}
use Rattle.session_loop.specs.Served.{StandWithoutFaults}
use Rattle.load_script.specs.Script.{script_of}
use Rattle.load_session.specs.Loading.{IsAskedBy, IsLoaded, load_session}
use Rattle.load_session.proofs.Loads.{session_is}
use Rattle.load_session.proofs.run.run_load.Goals as goal

pub returns-clause-read : goal.returns-clause-read
returns-clause-read g c =
    let read = c.in_ok-read.read in
    let bytes = script_of c.args.seed c.args.count in
    let Of : List ℕ → Type 0 = λ script. IsAskedBy script read.session read.end in
    let said : IsAskedBy bytes read.session read.end = subst Of c.in_ok-script.ensures c.in_ok-read.ensures.read in
    let By : Option Session → Type 0 = λ session. IsAskedBy bytes session read.end in
    subst By (session_is bytes read.session read.end said) said

pub returns-clause-commands : goal.returns-clause-commands
returns-clause-commands g c =
    let read = c.in_ok-read.read in
    let bytes = script_of c.args.seed c.args.count in
    let Of : List ℕ → Type 0 = λ script. IsAskedBy script read.session read.end in
    c.run_read-commands.ensures.commands ∙ ap (λ (s : Option Session). length (commands_of s)) (session_is bytes read.session read.end (subst Of c.in_ok-script.ensures c.in_ok-read.ensures.read))

pub returns-clause-loaded : goal.returns-clause-loaded
returns-clause-loaded g c = λ since start ran.
    let read = c.in_ok-read.read in
    let bytes = script_of c.args.seed c.args.count in
    let Of : List ℕ → Type 0 = λ script. IsAskedBy script read.session read.end in
    let same = session_is bytes read.session read.end (subst Of c.in_ok-script.ensures c.in_ok-read.ensures.read) in
    let By : Option Session → Type 0 = λ session. IsLoaded (g.C.Clock.says.may_give c.args.clock.now) (g.T.Taker.has_run c.run_read-commands.new.taker since) start session c.run_read-commands.new.order.items in
    let Over : List Place → Type 0 = λ order. IsLoaded (g.C.Clock.says.may_give c.args.clock.now) (g.T.Taker.has_run c.run_read-commands.new.taker since) start (load_session c.args.seed c.args.count) order in
    subst Over (sym c.from_vec.ensures) (subst By same (c.run_read-commands.ensures.loaded since start c.in_ok-read.ensures.formed ran))

pub returns-clause-stand : goal.returns-clause-stand
returns-clause-stand g c =
    let before = c.args.taker.now in
    let now = c.run_read-commands.new.taker in
    let Stand : List Place → Type 0 = StandWithoutFaults (g.T.Taker.faults before) (g.T.Taker.faults now) (g.T.Taker.content_faults before) (g.T.Taker.content_faults now) [] in
    subst Stand (sym c.from_vec.ensures) c.run_read-commands.ensures.stand
