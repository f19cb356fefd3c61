use Rattle.std.proofs.Common.{◌≡◌, ◌+◌, ◌<◌, ◌^◌, List, length}
use Rattle.depot_rows.specs.db_records.declared.change.Change.{Change}
use Rattle.depot_rows.specs.table_changes.Drafts.{rows_of_draft}
use Rattle.replica_pull.specs.Feed.{AreTaken}
use Rattle.replica_pull.proofs.feed.take_groups.Given as goal

abbrev pub invariant-loop-changes : goal.invariant-loop-changes
invariant-loop-changes l = record {
  short : l.reader.at + length l.reader.left < 2 ^ 63;
  taken : (groups : List (List Change)) × ((l.count ≡ length groups) × AreTaken l.filter l.fn.reader (rows_of_draft l.fn.draft) groups l.reader (rows_of_draft l.draft));
}

abbrev pub decreases-loop-changes : goal.decreases-loop-changes
decreases-loop-changes l = length l.reader.left
