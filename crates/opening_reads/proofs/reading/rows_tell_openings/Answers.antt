use Rattle.std.proofs.Common.{None}
use Rattle.opening_reads.proofs.Opens.{row_opens}
use Rattle.opening_reads.proofs.reading.rows_tell_openings.Goals as goal

pub returns-clause-opening : goal.returns-clause-opening
returns-clause-opening c = λ d client path o row sound e is. row_opens d client path o row None None sound e is

pub returns-clause-reopened : goal.returns-clause-reopened
returns-clause-reopened c = λ d client path o row change type sound e is. row_opens d client path o row change type sound e is
