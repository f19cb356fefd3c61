use Rattle.recovery.proofs.PassedOn.{unless_failed}
use Rattle.recovery.proofs.pieces.FileGroups.open.Goals as goal

pub returns-in_err-length-clause-unfailed : goal.returns-in_err-length-clause-unfailed
returns-in_err-length-clause-unfailed g c = unless_failed c.from_residual.result _ c.from_residual.ensures.1
