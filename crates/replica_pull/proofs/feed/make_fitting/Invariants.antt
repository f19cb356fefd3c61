use Rattle.std.proofs.Common.{◌≡◌, take}
use Rattle.depot_rows.specs.table_changes.Drafts.{rows_of_draft}
use Rattle.replica_pull.specs.Feed.{Fit, changed_cut}
use Rattle.replica_pull.proofs.feed.make_fitting.Given as goal

abbrev pub invariant-loop-i : goal.invariant-loop-i
invariant-loop-i l = record {
  fit : Fit l.filter (rows_of_draft l.initial.draft) (take l.i l.changes);
  rows : rows_of_draft l.draft ≡ changed_cut l.filter (rows_of_draft l.initial.draft) (take l.i l.changes);
}
