use Rattle.std.proofs.Common.{◌≡◌, take}
use Rattle.depot_rows.specs.table_changes.Changed.{AllFitIn, changed_by}
use Rattle.depot_rows.specs.table_changes.Drafts.{rows_of_draft}
use Rattle.recovery.proofs.rows.make_fitting.Given as goal

abbrev pub invariant-loop-i : goal.invariant-loop-i
invariant-loop-i l = record {
  fit : AllFitIn (rows_of_draft l.initial.draft) (take l.i l.changes);
  rows : rows_of_draft l.draft ≡ changed_by (rows_of_draft l.initial.draft) (take l.i l.changes);
}
