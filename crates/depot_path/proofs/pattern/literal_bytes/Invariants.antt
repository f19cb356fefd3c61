use Rattle.std.proofs.Common.{◌≡◌, ◌++◌, drop}
use Rattle.depot_path.specs.Pattern.{literal}
use Rattle.depot_path.proofs.pattern.literal_bytes.Given as goal

abbrev pub invariant-loop-piece : goal.invariant-loop-piece
invariant-loop-piece l = l.bytes.items ++ literal (drop l.piece-index l.pieces) ≡ literal l.pieces
