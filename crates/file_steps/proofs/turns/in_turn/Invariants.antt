use Rattle.std.proofs.Common.{◌≡◌, List, length}
use Rattle.depot_rows.specs.table_changes.Changed.{rows_of}
use Rattle.depot_rows.specs.depot_model.Deeds.{Deed}
use Rattle.depot_rows.specs.depot_model.Step.{Step as ModelStep, after, both, in_turn}
use Rattle.file_steps.specs.Goes.{Goes}
use Rattle.file_steps.proofs.turns.in_turn.Given as goal

abbrev pub invariant-loop-rest : goal.invariant-loop-rest
invariant-loop-rest g l =
    record {
      goes : (d e : List Deed) → g.A.TurnAct.stands l.fn.act (rows_of l.tables) d e
          → (m : ModelStep) × Goes (g.A.TurnAct.stands l.act (rows_of l.tables) d) (rows_of l.tables) d e m l.step
          × (both m (in_turn (g.A.TurnAct.acts l.fn.act d) (after e m.deeds) l.rest) ≡ in_turn (g.A.TurnAct.acts l.fn.act d) e l.paths);
      same : g.A.TurnAct.acts l.act ≡ g.A.TurnAct.acts l.fn.act;
    }

abbrev pub decreases-loop-rest : goal.decreases-loop-rest
decreases-loop-rest g l = length l.rest
