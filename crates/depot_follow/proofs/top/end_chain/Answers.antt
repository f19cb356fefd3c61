use Rattle.end_lines.proofs.Tellings.{got_lines}
use Rattle.depot_follow.proofs.top.end_chain.Goals as goal

pub returns-clause-line : goal.returns-clause-line
returns-clause-line g c = got_lines _ _ _ _ _ c.give_end.result c.give_end.ensures.given c.give_end.ensures.cause
