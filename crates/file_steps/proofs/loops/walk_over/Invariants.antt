use Rattle.std.proofs.Common.{◌≡◌, List, [], take, drop}
use Rattle.std.specs.Prelude.{filter, flat_map}
use Rattle.depot_rows.specs.table_changes.Changed.{rows_of}
use Rattle.depot_rows.specs.depot_model.declared.command.FileArgument.{FileArgument}
use Rattle.depot_rows.specs.depot_model.Arguments.{over}
use Rattle.depot_rows.specs.depot_model.Deeds.{Deed}
use Rattle.depot_rows.specs.depot_model.Step.{Step as ModelStep, both, tells}
use Rattle.file_steps.specs.Goes.{Goes}
use Rattle.file_steps.proofs.loops.walk_over.Given as goal

abbrev pub invariant-loop-i : goal.invariant-loop-i
invariant-loop-i g l =
    record {
      goes : (before : FileArgument) (d : List Deed) → g.S.FileSet.reads l.set (rows_of l.tables) d → g.A.WalkAct.stands l.fn.act l.set before (rows_of l.tables) d d
          → (m : ModelStep) × (last : FileArgument) × Goes (g.A.WalkAct.stands l.act l.set last (rows_of l.tables) d) (rows_of l.tables) d d m l.step
          × (both m (over (λ a. filter (g.S.FileSet.names l.set d a) (g.S.FileSet.files l.set d)) (λ a. tells (g.S.FileSet.rows_without l.set a)) (g.A.WalkAct.acts l.fn.act d)
          (flat_map (λ a. filter (g.S.FileSet.names l.set d a) (g.S.FileSet.files l.set d)) (take l.i l.arguments)) (drop l.i l.arguments))
          ≡ over (λ a. filter (g.S.FileSet.names l.set d a) (g.S.FileSet.files l.set d)) (λ a. tells (g.S.FileSet.rows_without l.set a)) (g.A.WalkAct.acts l.fn.act d) [] l.arguments);
      same : g.A.WalkAct.acts l.act ≡ g.A.WalkAct.acts l.fn.act;
    }
