use Rattle.std.proofs.Common.{◌≡◌, ◌+◌, false, drop}
use Rattle.protect_table.specs.Words.{word_length}
use Rattle.protect_table.proofs.words.word_length.Given as goal

abbrev pub invariant-loop-i : goal.invariant-loop-i
invariant-loop-i l = word_length l.quoted (drop l.i l.text) + l.i ≡ word_length false l.text
