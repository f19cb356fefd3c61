use Rattle.std.proofs.Common.{◌≡◌, ◌≤◌, ◌-◌, ℕ, List, length, map, take}
use Rattle.outside_api.specs.Reaching.{Reaches}
use Rattle.depot_rows.specs.depot_model.Deeds.{Deed}
use Rattle.depot_rows.specs.depot_model.declared.reply.Row.{Row}
use Rattle.depot_rows.specs.Standing.{Stand}
use Rattle.depot_rows.specs.table_changes.Changed.{rows_of}
use Rattle.recovery.specs.Standing.{HasContents}
use Rattle.reply_rows.specs.Made.{waiting}
use Rattle.replica_replies.specs.Prints.{AreShown}
use Rattle.replica_answers.specs.Printing.{AreDigested, AreGiven, GrowsTo}
use Rattle.replica_answers.proofs.Filled.{filled_to}
use Rattle.replica_answers.proofs.printing.fill_rows.Given as goal

abbrev pub invariant-loop-next : goal.invariant-loop-next
invariant-loop-next g l = record {
  within : l.next ≤ length l.rows.items;
  same : map waiting l.rows.items ≡ map waiting l.fn.reply.rows;
  digested : AreDigested (rows_of l.tables) (take l.next l.rows.items);
  told : (d : List Deed) (told : List Row) (before : List ℕ) → Stand (rows_of l.tables) d → AreShown d told → l.fn.reply.rows ≡ map waiting told → g.C.Contents.tells l.fn.contents before
      → HasContents before (rows_of l.tables) d → l.rows.items ≡ filled_to l.next told;
  given : (before : List ℕ) → g.C.Contents.tells l.fn.contents before → GrowsTo (g.C.Contents.tells l.contents) before (λ now. AreGiven (rows_of l.tables) now (take l.next l.rows.items));
  reached : Reaches g.C.Contents.keeps l.fn.contents l.contents;
  count : g.C.Contents.faults l.contents ≡ g.C.Contents.faults l.fn.contents;
}

abbrev pub decreases-loop-next : goal.decreases-loop-next
decreases-loop-next g l = length l.rows.items - l.next
