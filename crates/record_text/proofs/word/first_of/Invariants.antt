use Rattle.std.proofs.Common.{◌≡◌, drop}
use Rattle.record_text.specs.Words.{first_word}
use Rattle.record_text.proofs.word.first_of.Given as goal

abbrev pub invariant-loop-word : goal.invariant-loop-word
invariant-loop-word g l = first_word g.W.Word.text (drop l.word-index l.words) l.bytes ≡ first_word g.W.Word.text l.words l.bytes
