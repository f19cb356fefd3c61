use Rattle.replica_turns.proofs.Moving.{pulls_move}
use Rattle.replica_turns.proofs.laws.pulls_move.Goals as goal

pub returns : goal.returns
returns g c = λ depot all rules moments old new result groups good followed turn formed is.
    pulls_move g.D.Disk.says g.met.D.Disk.reads_an_image depot all rules moments old new result groups good followed turn formed is
