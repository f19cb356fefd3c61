use Rattle.std.proofs.Common.{ℕ, ◌<◌, get_or}
use Rattle.depot_rows.specs.db_records.declared.change.Change.{Change}
use Rattle.depot_checkpoint.specs.Values.{IsWide}
use Rattle.depot_checkpoint.proofs.values.know_values.Given as goal

abbrev pub invariant-loop-change : goal.invariant-loop-change
invariant-loop-change l = (k : ℕ) (d : Change) → k < l.change-index → IsWide (get_or l.changes k d).row
