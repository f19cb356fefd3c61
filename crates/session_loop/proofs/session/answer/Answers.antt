use Rattle.std.proofs.Common.{List, ℕ, inl, subst}
use Rattle.wire_text.specs.Giving.{GivesAll}
use Rattle.session_loop.proofs.session.answer.Goals as goal

pub returns-in-Ok-clause-answered : goal.returns-in-Ok-clause-answered
returns-in-Ok-clause-answered g c = λ since start places has proper.
    let before = g.K.Sink.says.given c.args.sink.now in
    let now = g.K.Sink.says.given c.give_all.new.sink in
    record {
      text = c.in-Ok.text;
      taken = inl (c.in-Ok.ensures.ok since start places has proper);
      given = subst (λ (text : List ℕ). GivesAll before now text c.give_all.result) c.as_bytes.ensures c.give_all.ensures.given;
    }
