use Rattle.std.proofs.Common.{◌≡◌, ℕ, ◌<◌, true, get_or}
use Rattle.depot_rows.specs.db_records.declared.change.Change.{Change}
use Rattle.row_texts.specs.Texts.{is_counted}
use Rattle.depot_commit.proofs.counting.are_counted.Given as goal

abbrev pub invariant-loop-change : goal.invariant-loop-change
invariant-loop-change l = (k : ℕ) (d : Change) → k < l.change-index → is_counted (get_or l.changes k d).row ≡ true
