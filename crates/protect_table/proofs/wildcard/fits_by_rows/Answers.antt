use Rattle.std.proofs.Common.{◌-◌, drop, arith}
use Rattle.protect_table.proofs.Places.{row_more}
use Rattle.protect_table.proofs.wildcard.fits_by_rows.Goals as goal

pub loop-at-preserved : goal.loop-at-preserved
loop-at-preserved c = (
  omega arith,
  row_more c.args.word.now c.args.text.now c.add_byte.new.row (c.loop-at.at - 1) c.loop-at.at (omega arith) (omega (arith, c.loop-at.invariant.0))
      (c.add_byte.ensures (drop c.loop-at.at c.args.word.now) c.loop-at.invariant.1),
)
