use Rattle.std.proofs.Common.{◌≡◌, ◌≤◌, length}
use Rattle.depot_path.specs.Fit.{fits}
use Rattle.depot_path.proofs.fit.fits.Given as goal

abbrev pub invariant-loop-pieces : goal.invariant-loop-pieces
invariant-loop-pieces l = (fits l.pieces l.text ≡ fits l.fn.pieces l.fn.text) × (length l.pieces ≤ 1024)

abbrev pub decreases-loop-pieces : goal.decreases-loop-pieces
decreases-loop-pieces l = length l.pieces
