use Rattle.std.proofs.Common.{◌≡◌, drop}
use Rattle.std.specs.Prelude.{filter, not}
use Rattle.std.specs.List.{list_any}
use Rattle.integ_records.specs.Crediting.{is_within}
use Rattle.integ_records.specs.Ends.{ends_from, ends_of}
use Rattle.integ_records.proofs.uncredited.ends_outside.Given as goal

abbrev pub invariant-loop-rev : goal.invariant-loop-rev
invariant-loop-rev l =
    ends_from l.ends (filter (λ n. not (list_any (is_within n) l.spans)) (drop l.rev-index l.revs)) ≡ ends_of (filter (λ n. not (list_any (is_within n) l.spans)) l.revs)
