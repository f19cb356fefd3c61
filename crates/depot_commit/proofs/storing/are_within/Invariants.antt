use Rattle.std.proofs.Common.{ℕ, ◌<◌, get_or}
use Rattle.reply_rows.specs.declared.content.RowContent.{RowContent}
use Rattle.depot_commit.specs.Storing.{EndsBy}
use Rattle.depot_commit.proofs.storing.are_within.Given as goal

abbrev pub invariant-loop-place : goal.invariant-loop-place
invariant-loop-place l = (k : ℕ) (d : RowContent) → k < l.place-index → EndsBy l.used (get_or l.places k d)
