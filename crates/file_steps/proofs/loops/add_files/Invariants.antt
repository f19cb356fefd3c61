use Rattle.std.proofs.Common.{◌≡◌, List, length}
use Rattle.std.specs.Prelude.{not, filter}
use Rattle.std.specs.List.{list_any}
use Rattle.depot_rows.specs.table_changes.Changed.{rows_of}
use Rattle.depot_rows.specs.depot_model.Deeds.{Deed}
use Rattle.depot_rows.specs.depot_model.Step.{Step as ModelStep, all_of, both}
use Rattle.file_steps.specs.Goes.{Goes}
use Rattle.file_steps.proofs.loops.add_files.Given as goal

abbrev pub invariant-loop-rest : goal.invariant-loop-rest
invariant-loop-rest g l =
    record {
      goes : (d : List Deed) (model : ModelStep) → g.S.FileSet.reads l.set (rows_of l.tables) d → Goes (g.A.WalkAct.stands l.fn.act l.set l.argument (rows_of l.tables) d) (rows_of l.tables) d d model l.fn.step
          → (m : ModelStep) × Goes (g.A.WalkAct.stands l.act l.set l.argument (rows_of l.tables) d) (rows_of l.tables) d d m l.step
          × (both m (all_of (g.A.WalkAct.acts l.fn.act d l.argument) (filter (λ path. not (list_any (λ a. g.S.FileSet.names l.set d a path) l.earlier)) l.rest))
          ≡ both model (all_of (g.A.WalkAct.acts l.fn.act d l.argument) (filter (λ path. not (list_any (λ a. g.S.FileSet.names l.set d a path) l.earlier)) l.paths)));
      same : g.A.WalkAct.acts l.act ≡ g.A.WalkAct.acts l.fn.act;
    }

abbrev pub decreases-loop-rest : goal.decreases-loop-rest
decreases-loop-rest g l = length l.rest
