use Rattle.std.proofs.Common.{◌≡◌, ◌++◌, List, drop}
use Rattle.depot_rows.specs.db_records.declared.table.TableId.TheVariants as table_ids
use Rattle.depot_rows.specs.table_changes.Changed.{rows_of}
use Rattle.depot_rows.specs.depot_model.Deeds.{Deed}
use Rattle.depot_rows.specs.depot_model.Rules.{IsSound}
use Rattle.depot_rows.specs.Standing.{HasRows}
use Rattle.job_fixes.specs.Fixes.{fixes_among}
use Rattle.job_fixes.proofs.fixes.fixes_named.Given as goal

abbrev pub invariant-loop-name : goal.invariant-loop-name
invariant-loop-name l =
    (d : List Deed) → IsSound d → HasRows (rows_of l.tables) d table_ids.Domain
    → l.forms ++ fixes_among d l.change l.job (drop l.name-index l.names) ≡ fixes_among d l.change l.job l.names
