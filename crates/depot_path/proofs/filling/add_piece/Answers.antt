use Rattle.std.proofs.Common.{◌-◌, arith}
use Rattle.depot_path.proofs.Columns.{joining}
use Rattle.depot_path.proofs.filling.add_piece.Goals as goal

pub loop-at-preserved : goal.loop-at-preserved
loop-at-preserved c =
    joining c.args.piece c.args.text.now c.args.column.now c.loop-at.column (c.loop-at.at - 1) c.loop-at.at _ c.loop-at.below c.with_byte.result (omega arith) c.loop-at.invariant c.with_byte.ensures
