use Rattle.std.proofs.Common.{ℕ, ◌<◌, get_or}
use Rattle.depot_rows.specs.db_records.declared.change.Change.{Change}
use Rattle.row_texts.specs.Texts.{IsOf64Bits}
use Rattle.depot_commit.proofs.counting.know_records.Given as goal

abbrev pub invariant-loop-change : goal.invariant-loop-change
invariant-loop-change l = (k : ℕ) (d : Change) → k < l.change-index → IsOf64Bits (get_or l.changes k d).row
