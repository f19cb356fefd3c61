use Rattle.replica_turns.proofs.Along.{along_first, along_grown, along_turned}
use Rattle.replica_turns.proofs.laws.replicas_reply_for_their_last_pull.Goals as goal

pub returns-clause-first : goal.returns-clause-first
returns-clause-first g c = λ past start places party script p all fresh formed. along_first past start places (g.C.Clock.says.may_give c.args.clock.now) party script p all fresh formed

pub returns-clause-grown : goal.returns-clause-grown
returns-clause-grown g c = λ past start places more party script p all now counts texts grown along.
    along_grown past start places (g.C.Clock.says.may_give c.args.clock.now) party script p all now more grown counts texts along

pub returns-clause-turned : goal.returns-clause-turned
returns-clause-turned g c = λ past start places depot bytes party script old new all counts texts result master told along turn.
    along_turned g.D.Disk.says g.met.D.Disk.reads_an_image past start places depot all master (bytes, told) (g.C.Clock.says.may_give c.args.clock.now) party script old new counts texts result along turn
