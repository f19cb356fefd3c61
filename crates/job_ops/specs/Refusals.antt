-- By what a change and jobs that are named are refused, in order (Command-Line Reference, "p4 fix").
use Rattle.std.specs.Prelude.{ℕ, not, List, ◌∷◌, map, Option}
use Rattle.depot_rows.specs.depot_model.declared.refusal.Refusal.{Refusal}
use Rattle.depot_rows.specs.depot_model.declared.refusal.Refusal.TheVariants.{NoSuchChange}
use Rattle.depot_rows.specs.depot_model.Deeds.{Deed}
use Rattle.depot_rows.specs.depot_model.Step.{refuse_if}
use Rattle.depot_rows.specs.depot_model.Steps.Jobs.{is_change, no_job}

abbrev pub named_refusals : List Deed → ℕ → List (List ℕ) → List (Option Refusal)
named_refusals d n names = refuse_if (not (is_change d n)) (NoSuchChange n) ∷ map (no_job d) names
