use Rattle.std.proofs.Common.{arith}
use Rattle.wire_text.proofs.Takings.{takes_whole, takes_all}
use Rattle.wire_text.proofs.lines.move_line.Goals as goal

pub returns-in_ok-extend_from_slice-in-Some-clause-line : goal.returns-in_ok-extend_from_slice-in-Some-clause-line
returns-in_ok-extend_from_slice-in-Some-clause-line c = (
  c.in-Some.piece.now,
  c.in_ok-extend_from_slice-in-Some.ensures.items,
  takes_whole c.args.intake.now c.pass.new.self c.held-held.result.now c.in-Some.piece.now _ c.held-held.ensures.held c.in-Some.ensures.before c.in-Some.ensures.found c.pass.ensures.held c.pass.ensures.place (omega arith),
)

pub returns-in_ok-extend_from_slice-in-None-clause-line : goal.returns-in_ok-extend_from_slice-in-None-clause-line
returns-in_ok-extend_from_slice-in-None-clause-line c = (
  c.held-held.result.now,
  c.in_ok-extend_from_slice-in-None.ensures.items,
  takes_all c.args.intake.now c.pass-in-None.new.self c.held-held.result.now _ c.held-held.ensures.held c.in-None.ensures.free c.pass-in-None.ensures.held c.pass-in-None.ensures.place (omega arith),
)
