use Rattle.std.proofs.Common.{sym, ◌∙◌, arith}
use Rattle.depot_path.proofs.Columns.{behind_more}
use Rattle.depot_path.proofs.filling.literal_length.Goals as goal

pub loop-count-preserved : goal.loop-count-preserved
loop-count-preserved c = (
  omega (arith, c.loop-count-test.true),
  behind_more c.args.pieces.now c.loop-count.count _ c.loop-count-test.true (sym c.is_specifier.ensures ∙ c.if-not-is_specifier.true) c.loop-count.invariant.1,
)
