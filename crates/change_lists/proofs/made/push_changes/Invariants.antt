use Rattle.std.proofs.Common.{◌≡◌, ◌++◌, List, length}
use Rattle.std.specs.Prelude.{flat_map}
use Rattle.std.specs.Option.{option_to_list}
use Rattle.depot_rows.specs.db_records.declared.table.TableId.TheVariants as table_ids
use Rattle.depot_rows.specs.table_changes.Changed.{rows_of}
use Rattle.depot_rows.specs.depot_model.Deeds.{Deed}
use Rattle.depot_rows.specs.depot_model.Steps.Changes.{change_at}
use Rattle.depot_rows.specs.Standing.{HasRows}
use Rattle.change_lists.proofs.made.push_changes.Given as goal

abbrev pub invariant-loop-rest : goal.invariant-loop-rest
invariant-loop-rest l = (d : List Deed) → HasRows (rows_of l.tables) d table_ids.Rev
    → l.made.items ++ flat_map (λ rev. option_to_list (change_at d l.path rev)) l.rest ≡ l.fn.made.items ++ flat_map (λ rev. option_to_list (change_at d l.path rev)) l.revs

abbrev pub decreases-loop-rest : goal.decreases-loop-rest
decreases-loop-rest l = length l.rest
