use Rattle.std.proofs.Common.{◌≡◌, ◌++◌, List, length}
use Rattle.std.specs.Prelude.{flat_map}
use Rattle.depot_rows.specs.db_records.declared.table.TableId.TheVariants as table_ids
use Rattle.depot_rows.specs.table_changes.Changed.{rows_of}
use Rattle.depot_rows.specs.depot_model.Deeds.{Deed}
use Rattle.depot_rows.specs.depot_model.Rules.{IsSound}
use Rattle.depot_rows.specs.Standing.{HasRows}
use Rattle.revision_reads.specs.Choice.{HaveRows, wanted_tables}
use Rattle.change_lists.specs.Listed.{made_in_file}
use Rattle.change_lists.proofs.made.push_files.Given as goal

abbrev pub invariant-loop-rest : goal.invariant-loop-rest
invariant-loop-rest l = (d : List Deed) → IsSound d → HasRows (rows_of l.tables) d table_ids.Rev → HasRows (rows_of l.tables) d table_ids.Change
    → HaveRows (rows_of l.tables) d (wanted_tables l.argument.spec.wanted)
    → l.made.items ++ flat_map (made_in_file d l.caller l.argument l.taken) l.rest ≡ l.fn.made.items ++ flat_map (made_in_file d l.caller l.argument l.taken) l.paths

abbrev pub decreases-loop-rest : goal.decreases-loop-rest
decreases-loop-rest l = length l.rest
