use Rattle.session_loop.proofs.Asked.{asked_well}
use Rattle.session_loop.proofs.reading.session_by.Goals as goal

pub returns-in-Ok-clause-formed : goal.returns-in-Ok-clause-formed
returns-in-Ok-clause-formed c = asked_well c.in-Ok.commands c.args.entries c.in-Ok.ensures.value c.requires.short
