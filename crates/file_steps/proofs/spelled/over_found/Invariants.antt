use Rattle.std.proofs.Common.{◌≡◌, ℕ, List, [], true, length}
use Rattle.std.specs.List.{list_all}
use Rattle.depot_rows.specs.table_changes.Changed.{rows_of}
use Rattle.depot_rows.specs.depot_model.Arguments.{over}
use Rattle.depot_rows.specs.depot_model.Deeds.{Deed}
use Rattle.depot_rows.specs.depot_model.Step.{Step as ModelStep, both, tells}
use Rattle.depot_rows.specs.depot_model.WellFormed.{spells_path}
use Rattle.file_steps.specs.Goes.{Goes}
use Rattle.file_steps.proofs.Spelling.{AreAlike}
use Rattle.file_steps.proofs.spelled.over_found.Given as goal

abbrev pub invariant-loop-rest : goal.invariant-loop-rest
invariant-loop-rest g l = (d : List Deed) → list_all spells_path l.arguments ≡ true → g.F.FileFinder.reads l.finder (rows_of l.tables) d → g.A.FileAct.reads l.act (rows_of l.tables) d
    → (m : ModelStep) × (earlier : List (List ℕ)) × Goes (g.A.FileAct.is_later l.act d) (rows_of l.tables) d d m l.step
    × AreAlike l.taken earlier × (list_all spells_path l.rest ≡ true)
    × (both m (over (g.F.FileFinder.found l.finder d) (λ a. tells (g.F.FileFinder.rows_without l.finder a)) (g.A.FileAct.acts l.act d) earlier l.rest)
    ≡ over (g.F.FileFinder.found l.finder d) (λ a. tells (g.F.FileFinder.rows_without l.finder a)) (g.A.FileAct.acts l.act d) [] l.arguments)

abbrev pub decreases-loop-rest : goal.decreases-loop-rest
decreases-loop-rest g l = length l.rest
