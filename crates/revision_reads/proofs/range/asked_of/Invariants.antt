use Rattle.std.proofs.Common.{◌≡◌, ◌≤◌, ◌+◌, ◌-◌, ◌++◌, List}
use Rattle.std.specs.Prelude.{filter}
use Rattle.std.specs.List.{range_with_len}
use Rattle.depot_rows.specs.db_records.declared.table.TableId.TheVariants as tables
use Rattle.depot_rows.specs.table_changes.Changed.{rows_of}
use Rattle.depot_rows.specs.depot_model.Deeds.{Deed}
use Rattle.depot_rows.specs.depot_model.Revisions.{head}
use Rattle.depot_rows.specs.depot_model.Rules.{IsSound}
use Rattle.depot_rows.specs.Standing.{HasRows}
use Rattle.revision_reads.specs.Choice.{choice_of}
use Rattle.revision_reads.specs.Range.{is_asked}
use Rattle.revision_reads.proofs.range.asked_of.Given as goal

abbrev pub invariant-loop-rev : goal.invariant-loop-rev
invariant-loop-rev l = record {
  within : l.rev ≤ l.head;
  asked : (d : List Deed) → IsSound d → HasRows (rows_of l.tables) d tables.Rev → HasRows (rows_of l.tables) d tables.Change → l.head ≡ head d l.path
      → l.numbers.items ++ filter (is_asked d l.path l.wanted (choice_of l.chosen)) (range_with_len (l.rev + 1) (l.head - l.rev))
      ≡ filter (is_asked d l.path l.wanted (choice_of l.chosen)) (range_with_len 1 l.head);
}

abbrev pub decreases-loop-rev : goal.decreases-loop-rev
decreases-loop-rev l = l.head - l.rev
