use Rattle.std.proofs.Common.{◌≡◌, List, [], length}
use Rattle.depot_rows.specs.db_records.declared.table.TableId.TheVariants as tables
use Rattle.depot_rows.specs.table_changes.Changed.{rows_of}
use Rattle.depot_rows.specs.depot_model.Deeds.{Deed}
use Rattle.depot_rows.specs.depot_model.Rules.{IsSound}
use Rattle.depot_rows.specs.Standing.{HasRows}
use Rattle.named_files.specs.Asked.{IsAsker}
use Rattle.history_query.specs.Directories.{all_directories, all_fitting}
use Rattle.history_query.proofs.directories.directories_among.Given as goal

abbrev pub invariant-loop-path : goal.invariant-loop-path
invariant-loop-path l =
    (d : List Deed) → IsSound d → IsAsker d l.caller l.asker → HasRows (rows_of l.tables) d tables.Rev
    → all_fitting l.pattern (all_directories d l.caller l.asker l.pattern l.rest.items) l.set ≡ all_fitting l.pattern (all_directories d l.caller l.asker l.pattern l.fn.paths) []

abbrev pub decreases-loop-path : goal.decreases-loop-path
decreases-loop-path l = length l.rest.items
