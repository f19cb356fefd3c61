use Rattle.depot_path.proofs.Columns.{Walking}
use Rattle.std.proofs.Common.{drop}
use Rattle.depot_path.proofs.filling.texts_by_columns.Given as goal

abbrev pub invariant-loop-piece : goal.invariant-loop-piece
invariant-loop-piece l = Walking l.pieces l.text (drop l.piece-index l.pieces) l.at l.columns.items l.texts.items
