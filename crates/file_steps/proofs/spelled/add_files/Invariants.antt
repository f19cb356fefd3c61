use Rattle.std.proofs.Common.{◌≡◌, List, length}
use Rattle.depot_rows.specs.table_changes.Changed.{rows_of}
use Rattle.depot_rows.specs.depot_model.Arguments.{not_in}
use Rattle.depot_rows.specs.depot_model.Deeds.{Deed}
use Rattle.depot_rows.specs.depot_model.Step.{Step as ModelStep, all_of, both}
use Rattle.file_steps.specs.Goes.{Goes}
use Rattle.file_steps.proofs.spelled.add_files.Given as goal

abbrev pub invariant-loop-rest : goal.invariant-loop-rest
invariant-loop-rest g l = (d : List Deed) (model : ModelStep) → g.A.FileAct.reads l.act (rows_of l.tables) d
    → Goes (g.A.FileAct.is_later l.act d) (rows_of l.tables) d d model l.fn.step
    → (m : ModelStep) × Goes (g.A.FileAct.is_later l.act d) (rows_of l.tables) d d m l.step
    × (both m (all_of (g.A.FileAct.acts l.act d l.argument) (not_in l.taken l.rest)) ≡ both model (all_of (g.A.FileAct.acts l.act d l.argument) (not_in l.taken l.paths)))

abbrev pub decreases-loop-rest : goal.decreases-loop-rest
decreases-loop-rest g l = length l.rest
