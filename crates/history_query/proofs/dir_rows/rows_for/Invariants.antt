use Rattle.std.proofs.Common.{◌≡◌, ◌++◌, List, [], length}
use Rattle.depot_rows.specs.db_records.declared.table.TableId.TheVariants as tables
use Rattle.depot_rows.specs.table_changes.Changed.{rows_of}
use Rattle.depot_rows.specs.depot_model.Deeds.{Deed}
use Rattle.depot_rows.specs.depot_model.Rules.{IsSound}
use Rattle.depot_rows.specs.Standing.{HasRows}
use Rattle.named_files.specs.Asked.{IsAsker}
use Rattle.history_query.specs.Directories.{told_after}
use Rattle.history_query.proofs.dir_rows.rows_for.Given as goal

abbrev pub invariant-loop-rest : goal.invariant-loop-rest
invariant-loop-rest l =
    (d : List Deed) → IsSound d → IsAsker d l.caller l.asker → HasRows (rows_of l.tables) d tables.Rev
    → l.rows ++ told_after d l.caller l.taken l.rest ≡ told_after d l.caller [] l.arguments

abbrev pub decreases-loop-rest : goal.decreases-loop-rest
decreases-loop-rest l = length l.rest
