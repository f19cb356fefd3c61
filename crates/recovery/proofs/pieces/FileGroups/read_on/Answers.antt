use Rattle.std.proofs.Common.{◌∙◌}
use Rattle.recovery.proofs.PassedOn.{unless_passed}
use Rattle.recovery.proofs.pieces.FileGroups.read_on.Goals as goal

pub returns-in_err-read_piece-clause-unfailed : goal.returns-in_err-read_piece-clause-unfailed
returns-in_err-read_piece-clause-unfailed g c = unless_passed c.from_residual.result c.in_err-read_piece.field-0.0 _ c.from_residual.ensures.1 (λ other. c.in_err-read_piece.ensures.unfailed other ∙ c.loop.invariant.faults)
