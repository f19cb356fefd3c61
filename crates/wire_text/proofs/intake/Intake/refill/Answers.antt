use Rattle.std.proofs.Common.{sym, ap, ◌∙◌, arith, refl, []}
use Rattle.std.proofs.lemmas.List.{append-nil}
use Rattle.wire_text.specs.Intake.{Taken}
use Rattle.wire_text.proofs.Takings.{prepended-nil}
use Rattle.wire_text.proofs.intake.Intake.refill.Goals as goal

pub returns-in-Err-clause-stops : goal.returns-in-Err-clause-stops
returns-in-Err-clause-stops g c = record {
  left = g.S.Source.says.left c.args.source.now;
  moves = record {
    came = [];
    source = sym (prepended-nil (g.S.Source.says.left c.args.source.now));
    bytes = append-nil c.args.self.now.held ∙ c.requires;
    place = omega (arith, ap (λ (t : Taken). t.place) c.self.view_is);
    most = omega (arith, c.self.invariant.most);
  };
  nothing = refl;
  why = c.in-Err.ensures.stop;
}
