use Rattle.std.proofs.Common.{◌≡◌, ◌++◌, ◌+◌, List, length, map}
use Rattle.depot_rows.specs.db_records.declared.table.TableId.TheVariants as tables
use Rattle.depot_rows.specs.table_changes.Changed.{rows_of}
use Rattle.depot_rows.specs.depot_model.Deeds.{Deed}
use Rattle.depot_rows.specs.Standing.{HasRows}
use Rattle.revision_reads.specs.History.{seen}
use Rattle.history_query.specs.Crediting.{credited}
use Rattle.history_query.specs.Logging.{logged_from}
use Rattle.history_query.proofs.logging.with_all.Given as goal

abbrev pub invariant-loop-rest : goal.invariant-loop-rest
invariant-loop-rest l = record {
  shown : (d : List Deed) → HasRows (rows_of l.tables) d tables.Change
      → l.more ++ logged_from d l.index (credited l.credits) (map (λ r. seen r.now) l.rest)
      ≡ l.fn.made ++ logged_from d 0 (credited l.credits) (map (λ r. seen r.now) l.rows);
  counted : l.index + length l.rest ≡ length l.rows;
}

abbrev pub decreases-loop-rest : goal.decreases-loop-rest
decreases-loop-rest l = length l.rest
