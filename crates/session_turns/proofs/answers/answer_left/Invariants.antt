use Rattle.std.proofs.Common.{◌≡◌, ◌≢◌, ◌<◌, ℕ, List, length}
use Rattle.std.specs.Prelude.{slice_get}
use Rattle.session_turns.specs.Running.{AreWithin}
use Rattle.session_turns.specs.Answering.{AnswersNone, IsDoneAt, IsSameAt, left_count}
use Rattle.session_turns.proofs.answers.answer_left.Given as goal

-- the answers so far
abbrev pub invariant-left : goal.invariant-left
invariant-left g l = record {
  there : l.at < length l.sinks.items;
  as_many : length l.sinks.items ≡ length l.runs.items;
  same : length l.sinks.items ≡ length l.fn.sinks.items;
  none : AnswersNone (g.C.Clock.says.may_give l.clock) g.K.Sink.says l.fn.runs.items l.runs.items l.fn.sinks.items l.sinks.items;
  within : (before : List g.row.K.Denot) → AreWithin g.K.Sink.says l.totals l.fn.runs.items before l.fn.sinks.items → AreWithin g.K.Sink.says l.totals l.runs.items before l.sinks.items;
  others : (j : ℕ) → j ≢ l.at → IsSameAt j l.fn.runs.items l.runs.items l.fn.sinks.items l.sinks.items;
  still : IsDoneAt l.fn.runs.items l.totals l.at → IsSameAt l.at l.fn.runs.items l.runs.items l.fn.sinks.items l.sinks.items;
}

abbrev pub decreases-left : goal.decreases-left
decreases-left g l = left_count (slice_get l.runs.items l.at) (slice_get l.totals l.at)
