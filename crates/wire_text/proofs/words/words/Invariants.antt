use Rattle.std.proofs.Common.{◌≡◌, ◌++◌, length, List, ℕ}
use Rattle.std.specs.Prelude.{option_map}
use Rattle.wire_text.specs.Words.{words_from}
use Rattle.wire_text.proofs.words.words.Given as goal

abbrev pub invariant-loop-rest : goal.invariant-loop-rest
invariant-loop-rest l = option_map (λ (ws : List (List ℕ)). l.words ++ ws) (words_from 0 l.rest) ≡ words_from 0 l.line

abbrev pub decreases-loop-rest : goal.decreases-loop-rest
decreases-loop-rest l = length l.rest
