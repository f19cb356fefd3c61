use Rattle.std.proofs.Common.{◌≡◌, ℕ, ◌++◌, List, [], length}
use Rattle.std.specs.Prelude.{flat_map}
use Rattle.depot_rows.specs.table_changes.Changed.{rows_of}
use Rattle.depot_rows.specs.depot_model.Deeds.{Deed}
use Rattle.depot_rows.specs.depot_model.Steps.Changes.{made_over, missing}
use Rattle.file_steps.proofs.Spelling.{AreAlike}
use Rattle.named_files.specs.Sets.{ShownReads}
use Rattle.named_files.specs.declared.listing.Listing.TheVariants.{Submitted}
use Rattle.change_lists.proofs.made.changes_made.Given as goal

abbrev pub invariant-loop-rest : goal.invariant-loop-rest
invariant-loop-rest l = record {
  told : (d : List Deed) → ShownReads l.caller l.asker Submitted (rows_of l.tables) d
      → l.rows ++ flat_map (missing d l.caller) l.rest ≡ l.fn.rows ++ flat_map (missing d l.caller) l.arguments;
  given : (d : List Deed) → ShownReads l.caller l.asker Submitted (rows_of l.tables) d
      → (earlier : List (List ℕ)) × AreAlike l.taken earlier × (l.made.items ++ made_over d l.caller earlier l.rest ≡ made_over d l.caller [] l.arguments);
}

abbrev pub decreases-loop-rest : goal.decreases-loop-rest
decreases-loop-rest l = length l.rest
