use Rattle.std.proofs.Common.{◌≡◌, ◌++◌, drop}
use Rattle.depot_path.specs.Fit.{filled}
use Rattle.depot_path.proofs.filling.fill.Given as goal

abbrev pub invariant-loop-piece : goal.invariant-loop-piece
invariant-loop-piece l = l.whole ++ filled (drop l.piece-index l.pieces) l.rest ≡ filled l.pieces l.texts
