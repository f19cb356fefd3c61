use Rattle.std.proofs.Common.{sym}
use Rattle.spec_form.proofs.Cutting.{before_whole, behind_none}
use Rattle.spec_form.proofs.place.name_and_rest.Goals as goal

pub returns-in-None-clause-name : goal.returns-in-None-clause-name
returns-in-None-clause-name c = sym (before_whole 0x3A c.args.line.now c.in-None.ensures.absent)

pub returns-in-None-clause-rest : goal.returns-in-None-clause-rest
returns-in-None-clause-rest c = sym (behind_none 0x3A c.args.line.now c.in-None.ensures.absent)
