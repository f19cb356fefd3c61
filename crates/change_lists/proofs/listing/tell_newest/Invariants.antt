use Rattle.std.proofs.Common.{◌≡◌, ◌++◌, List}
use Rattle.std.specs.Prelude.{flat_map}
use Rattle.depot_rows.specs.db_records.declared.table.TableId.TheVariants as table_ids
use Rattle.depot_rows.specs.table_changes.Changed.{rows_of}
use Rattle.depot_rows.specs.depot_model.declared.request.Caller.{Caller}
use Rattle.depot_rows.specs.depot_model.Deeds.{Deed}
use Rattle.depot_rows.specs.depot_model.Rules.{IsSound}
use Rattle.depot_rows.specs.depot_model.Steps.Changes.{at_most, numbers}
use Rattle.depot_rows.specs.Standing.{HasRows}
use Rattle.named_files.specs.Asked.{IsAsker}
use Rattle.change_lists.specs.Listed.{listed_at}
use Rattle.change_lists.proofs.Newest.{down_from, left_of}
use Rattle.change_lists.proofs.listing.tell_newest.Given as goal

abbrev pub invariant-loop-next : goal.invariant-loop-next
invariant-loop-next l = (d : List Deed) (caller : Caller) → IsSound d → IsAsker d caller l.asker → HasRows (rows_of l.tables) d table_ids.Change
    → HasRows (rows_of l.tables) d table_ids.Rev
    → l.rows ++ at_most l.left (flat_map (listed_at d caller l.filter.status.now l.filter.user.now l.filter.client.now) (down_from l.next))
    ≡ l.fn.rows ++ at_most l.fn.most (flat_map (listed_at d caller l.filter.status.now l.filter.user.now l.filter.client.now) (numbers d))

abbrev pub decreases-loop-next : goal.decreases-loop-next
decreases-loop-next l = left_of l.next
