use Rattle.std.proofs.Common.{◌≡◌, ◌≤◌, length}
use Rattle.protect_table.specs.Wildcard.{fits_word}
use Rattle.protect_table.proofs.wildcard.fits_word.Given as goal

abbrev pub invariant-loop-rest : goal.invariant-loop-rest
invariant-loop-rest l = (fits_word l.rest l.left ≡ fits_word l.word l.text) × (length l.left ≤ length l.text)

abbrev pub decreases-loop-rest : goal.decreases-loop-rest
decreases-loop-rest l = length l.rest
