use Rattle.std.proofs.Common.{Bool, ◌-◌, refl, arith}
use Rattle.std.proofs.Math.ListN.{length-set}
use Rattle.protect_table.proofs.Places.{begun, begun_more}
use Rattle.protect_table.proofs.wildcard.begin_row.Goals as goal

pub loop-at-init : goal.loop-at-init
loop-at-init c = begun c.args.text.now c.args.row.now _ refl (omega (arith, c.requires))

pub loop-at-preserved : goal.loop-at-preserved
loop-at-preserved c =
    begun_more c.args.text.now c.loop-at.row (c.loop-at.at - 1) c.loop-at.at (omega arith) (omega (arith, length-set {A = Bool}, c.loop-at.auto.row, c.requires)) c.loop-at.invariant
