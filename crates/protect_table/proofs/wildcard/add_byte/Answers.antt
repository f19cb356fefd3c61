use Rattle.std.proofs.Common.{Bool, ◌-◌, arith, refl}
use Rattle.std.proofs.Math.ListN.{length-set}
use Rattle.protect_table.proofs.Places.{adding, adding_begins}
use Rattle.protect_table.proofs.wildcard.add_byte.Goals as goal

pub loop-at-init : goal.loop-at-init
loop-at-init c = adding_begins c.args.byte c.args.text.now c.args.row.now _ _ c.at_end.result refl (omega (arith, c.requires)) refl c.at_end.ensures

pub loop-at-preserved : goal.loop-at-preserved
loop-at-preserved c =
    adding c.args.byte c.args.text.now c.args.row.now c.loop-at.row (c.loop-at.at - 1) c.loop-at.at c.loop-at.below c.with_place.result _ (omega arith) c.loop-at.invariant
    (omega (arith, length-set {A = Bool}, c.loop-at.auto.row, c.requires)) c.with_place.ensures
