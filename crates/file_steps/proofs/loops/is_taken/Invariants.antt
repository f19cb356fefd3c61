use Rattle.std.proofs.Common.{◌≡◌, List, length}
use Rattle.std.specs.List.{list_any}
use Rattle.depot_rows.specs.table_changes.Changed.{rows_of}
use Rattle.depot_rows.specs.depot_model.Deeds.{Deed}
use Rattle.file_steps.proofs.loops.is_taken.Given as goal

abbrev pub invariant-loop-rest : goal.invariant-loop-rest
invariant-loop-rest g l = (d : List Deed) → g.S.FileSet.reads l.set (rows_of l.tables) d
    → list_any (λ a. g.S.FileSet.names l.set d a l.path) l.rest ≡ list_any (λ a. g.S.FileSet.names l.set d a l.path) l.earlier

abbrev pub decreases-loop-rest : goal.decreases-loop-rest
decreases-loop-rest g l = length l.rest
