use Rattle.std.proofs.Common.{◌≡◌, ◌++◌, ◌+◌, List, length}
use Rattle.std.specs.Prelude.{flat_map}
use Rattle.std.specs.List.{enumerate_from}
use Rattle.depot_rows.specs.db_records.declared.table.TableId.TheVariants as table_ids
use Rattle.depot_rows.specs.table_changes.Changed.{rows_of}
use Rattle.depot_rows.specs.depot_model.Deeds.{Deed}
use Rattle.depot_rows.specs.depot_model.Rules.{IsSound}
use Rattle.depot_rows.specs.depot_model.Steps.Shelving.{shelved_fields}
use Rattle.depot_rows.specs.Standing.{HasRows}
use Rattle.shelf_ops.proofs.describing.push_files.Given as goal

abbrev pub invariant-loop-rest : goal.invariant-loop-rest
invariant-loop-rest l = record {
  told : (d : List Deed) → IsSound d → HasRows (rows_of l.tables) d table_ids.Domain
      → l.fields ++ flat_map (shelved_fields d l.change) (enumerate_from l.index l.rest) ≡ l.fn.fields ++ flat_map (shelved_fields d l.change) (enumerate_from 0 l.paths);
  counted : l.index + length l.rest ≡ length l.paths;
}

abbrev pub decreases-loop-rest : goal.decreases-loop-rest
decreases-loop-rest l = length l.rest
