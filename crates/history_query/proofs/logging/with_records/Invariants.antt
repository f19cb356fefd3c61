use Rattle.std.proofs.Common.{◌≡◌, ◌++◌, ◌+◌, length, map}
use Rattle.std.specs.Prelude.{flat_map}
use Rattle.std.specs.List.{enumerate_from}
use Rattle.depot_rows.specs.depot_model.Steps.History.{record_fields}
use Rattle.history_query.specs.Logging.{credit_fields}
use Rattle.history_query.proofs.logging.with_records.Given as goal

abbrev pub invariant-loop-rest : goal.invariant-loop-rest
invariant-loop-rest l = record {
  shown : l.more ++ flat_map (record_fields l.revision) (enumerate_from l.index (map (λ r. r.now) l.rest)) ≡ l.fn.made ++ credit_fields l.revision (map (λ r. r.now) l.records);
  counted : l.index + length l.rest ≡ length l.records;
}

abbrev pub decreases-loop-rest : goal.decreases-loop-rest
decreases-loop-rest l = length l.rest
