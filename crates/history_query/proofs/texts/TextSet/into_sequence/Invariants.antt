use Rattle.std.proofs.Common.{◌≡◌, ◌++◌}
use Rattle.history_query.proofs.texts.TextSet.into_sequence.Given as goal

abbrev pub invariant-loop-text : goal.invariant-loop-text
invariant-loop-text l = l.texts ++ l.text-iterator ≡ l.fn.self
