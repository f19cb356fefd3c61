use Rattle.std.proofs.Common.{◌≡◌, ◌++◌, List, length}
use Rattle.depot_rows.specs.db_records.declared.table.TableId.TheVariants as table_ids
use Rattle.depot_rows.specs.table_changes.Changed.{rows_of}
use Rattle.depot_rows.specs.depot_model.Deeds.{Deed}
use Rattle.depot_rows.specs.depot_model.Steps.Changes.{at_most}
use Rattle.depot_rows.specs.Standing.{HasRows}
use Rattle.change_lists.specs.Listed.{rows_asked}
use Rattle.change_lists.proofs.listing.tell_numbers.Given as goal

abbrev pub invariant-loop-rest : goal.invariant-loop-rest
invariant-loop-rest l = (d : List Deed) → HasRows (rows_of l.tables) d table_ids.Change
    → l.rows ++ at_most l.left (rows_asked d l.filter.status.now l.filter.user.now l.filter.client.now l.rest)
    ≡ l.fn.rows ++ at_most l.fn.most (rows_asked d l.filter.status.now l.filter.user.now l.filter.client.now l.numbers)

abbrev pub decreases-loop-rest : goal.decreases-loop-rest
decreases-loop-rest l = length l.rest
