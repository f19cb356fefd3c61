use Rattle.std.proofs.Common.{◌≡◌, ◌++◌, List, drop}
use Rattle.std.specs.Prelude.{filter_map, map}
use Rattle.depot_rows.specs.db_records.declared.table.TableId.TheVariants as table_ids
use Rattle.depot_rows.specs.table_changes.Changed.{rows_of}
use Rattle.depot_rows.specs.depot_model.Deeds.{Deed}
use Rattle.depot_rows.specs.depot_model.Fixes.{job}
use Rattle.depot_rows.specs.depot_model.Rules.{IsSound}
use Rattle.depot_rows.specs.depot_model.Steps.Jobs.{job_row}
use Rattle.depot_rows.specs.Standing.{HasRows}
use Rattle.job_ops.proofs.jobs.job_list.Given as goal

abbrev pub invariant-loop-name : goal.invariant-loop-name
invariant-loop-name l =
    (d : List Deed) → IsSound d → HasRows (rows_of l.tables) d table_ids.Domain
    → l.rows ++ map job_row (filter_map (job d) (drop l.name-index l.names)) ≡ map job_row (filter_map (job d) l.names)
