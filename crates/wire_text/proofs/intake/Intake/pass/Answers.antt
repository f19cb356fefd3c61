use Rattle.std.proofs.Common.{length, drop, ap, ◌∙◌, arith}
use Rattle.wire_text.specs.Intake.{Taken}
use Rattle.wire_text.proofs.Takings.{drop_range}
use Rattle.wire_text.proofs.intake.Intake.pass.Goals as goal

pub returns-clause-held : goal.returns-clause-held
returns-clause-held c =
    let i = c.self.inside in
    drop_range i.buffer.items i.start i.end c.args.count (omega (arith, c.requires, ap (λ (t : Taken). length t.held) c.self.view_is))
    ∙ ap (λ (t : Taken). drop c.args.count t.held) c.self.view_is
