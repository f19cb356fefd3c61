use Rattle.std.proofs.Common.{refl}
use Rattle.end_lines.proofs.Tellings.{got_lines}
use Rattle.p4_server.proofs.Loadings.{told_other}
use Rattle.p4_server.proofs.load.tell.Goals as goal

pub returns-in_default : goal.returns-in_default
returns-in_default g c = told_other _ _ _ _ _ c.args.cause c.args.cause c.in_default.not-Done refl (got_lines _ _ _ _ _ c.give_cause.result c.give_cause.ensures.given c.give_cause.ensures.cause)
