use Rattle.std.proofs.Common.{Bool, ◌-◌, arith}
use Rattle.std.proofs.Math.ListN.{length-set}
use Rattle.depot_path.proofs.Rows.{adding}
use Rattle.depot_path.proofs.fit.add_byte.Goals as goal

pub loop-at-preserved : goal.loop-at-preserved
loop-at-preserved c =
    adding c.args.pieces.now c.args.byte c.args.row.now c.loop-at.row (c.loop-at.at - 1) c.loop-at.at c.loop-at.below c.with_byte.result _ (omega arith) c.loop-at.invariant
    (omega (arith, length-set {A = Bool}, c.loop-at.auto.row, c.requires)) c.with_byte.ensures
