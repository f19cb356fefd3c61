use Rattle.std.proofs.Common.{◌≡◌, drop}
use Rattle.table_changes.specs.Changed.{AllFitIn, changed_by, rows_of}
use Rattle.table_changes.specs.Drafts.{rows_of_draft}
use Rattle.table_changes.proofs.changing.change_tables.Given as goal

-- the changes that are left fit, and lead to the rows after all
abbrev pub invariant-loop-change : goal.invariant-loop-change
invariant-loop-change l =
    record {
      fit : AllFitIn (rows_of_draft l.draft) (drop l.change-index l.changes);
      rows : changed_by (rows_of_draft l.draft) (drop l.change-index l.changes) ≡ changed_by (rows_of l.tables) l.changes;
      end : l.draft.archive_end ≡ l.tables.archive_end;
    }
