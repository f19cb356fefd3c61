use Rattle.std.proofs.Common.{◌≡◌, ℕ, List, true, length}
use Rattle.std.specs.List.{list_all}
use Rattle.depot_rows.specs.depot_model.Deeds.{Deed}
use Rattle.depot_rows.specs.depot_model.Step.{after}
use Rattle.depot_rows.specs.Effects.{Follow}
use Rattle.opening_reads.specs.OwnOpenings.{IsOwn, is_of}
use Rattle.opening_reads.proofs.OwnDeeds.{IsNoted}
use Rattle.opening_reads.proofs.own_openings.OwnOpenings.note.Given as goal

abbrev pub invariant-loop-rest : goal.invariant-loop-rest
invariant-loop-rest l = (client : List ℕ) (d e done : List Deed) → Follow e l.deeds done → list_all (is_of client) done ≡ true → IsOwn l.fn.self client d e
    → IsNoted client d (after e done) l.rest l.self

abbrev pub decreases-loop-rest : goal.decreases-loop-rest
decreases-loop-rest l = length l.rest
