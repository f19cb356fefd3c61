use Rattle.std.proofs.Common.{◌≡◌, length}
use Rattle.table_store.specs.Marks.{is_of, leading, rows_now}
use Rattle.table_store.specs.SearchKey.{sought_mark}
use Rattle.table_store.proofs.mark_walk.next_at.Given as goal

abbrev pub invariant-loop-place : goal.invariant-loop-place
invariant-loop-place l =
    rows_now (is_of (sought_mark l.mark)) l.rows (leading (is_of (sought_mark l.mark)) l.places) ≡ rows_now (is_of (sought_mark l.mark)) l.rows (leading (is_of (sought_mark l.mark)) l.initial.places)

abbrev pub decreases-loop-place : goal.decreases-loop-place
decreases-loop-place l = length l.places
