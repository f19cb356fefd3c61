use Rattle.std.proofs.Common.{◌≡◌, ◌<◌, ℕ, List, length}
use Rattle.session_turns.specs.Running.{AreWithin}
use Rattle.session_turns.specs.Answering.{AnswersNone, IsDoneAt, IsSameAt}
use Rattle.session_turns.proofs.answers.answer_rest.Given as goal

-- those so far have nothing left
abbrev pub invariant-loop-at : goal.invariant-loop-at
invariant-loop-at g l = record {
  as_many : length l.sinks.items ≡ length l.runs.items;
  same : length l.sinks.items ≡ length l.fn.sinks.items;
  none : AnswersNone (g.C.Clock.says.may_give l.clock) g.K.Sink.says l.fn.runs.items l.runs.items l.fn.sinks.items l.sinks.items;
  within : (before : List g.row.K.Denot) → AreWithin g.K.Sink.says l.totals l.fn.runs.items before l.fn.sinks.items → AreWithin g.K.Sink.says l.totals l.runs.items before l.sinks.items;
  still : (i : ℕ) → IsDoneAt l.fn.runs.items l.totals i → IsSameAt i l.fn.runs.items l.runs.items l.fn.sinks.items l.sinks.items;
  done : (j : ℕ) → j < l.at → IsDoneAt l.runs.items l.totals j;
}
