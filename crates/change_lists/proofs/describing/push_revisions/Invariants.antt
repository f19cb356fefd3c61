use Rattle.std.proofs.Common.{◌≡◌, ◌++◌, ◌+◌, length}
use Rattle.std.specs.Prelude.{flat_map, map}
use Rattle.std.specs.List.{enumerate_from}
use Rattle.change_lists.specs.Describing.{fields_at}
use Rattle.change_lists.proofs.describing.push_revisions.Given as goal

abbrev pub invariant-loop-rest : goal.invariant-loop-rest
invariant-loop-rest l = record {
  told : l.fields ++ flat_map fields_at (enumerate_from l.index (map (λ r. r.now) l.rest)) ≡ l.fn.fields ++ flat_map fields_at (enumerate_from 0 (map (λ r. r.now) l.rows));
  counted : l.index + length l.rest ≡ length l.rows;
}

abbrev pub decreases-loop-rest : goal.decreases-loop-rest
decreases-loop-rest l = length l.rest
