use Rattle.std.proofs.Common.{◌≡◌, drop}
use Rattle.record_text.specs.Words.{greater, reach}
use Rattle.record_text.proofs.word.reach_of.Given as goal

abbrev pub invariant-loop-word : goal.invariant-loop-word
invariant-loop-word g l = greater l.going (reach g.W.Word.text (drop l.word-index l.words) l.bytes) ≡ reach g.W.Word.text l.words l.bytes
