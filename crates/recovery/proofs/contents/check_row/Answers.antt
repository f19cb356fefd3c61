use Rattle.recovery.proofs.PassedOn.{unless_passed}
use Rattle.recovery.proofs.contents.check_row.Goals as goal

pub returns-in_err-check_content-clause-unfailed : goal.returns-in_err-check_content-clause-unfailed
returns-in_err-check_content-clause-unfailed g c = unless_passed c.from_residual.result c.in_err-check_content.field-0.0 _ c.from_residual.ensures.1 (λ other. c.in_err-check_content.ensures.unfailed other)
