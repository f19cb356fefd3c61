use Rattle.std.proofs.Common.{List, ℕ}
use Rattle.recovery.proofs.PassedOn.{unless_read}
use Rattle.recovery.proofs.contents.check_content.Goals as goal

pub returns-in_err-found-clause-unfailed : goal.returns-in_err-found-clause-unfailed
returns-in_err-found-clause-unfailed g c = unless_read (List ℕ) c.from_residual.result c.in_err-found.field-0.0 _ _ c.from_residual.ensures.1 c.in_err-found.ensures.only
