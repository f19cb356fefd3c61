-- A step so far. This project's own choice.
use Rattle.std.specs.Prelude.{List}
use Rattle.depot_rows.specs.table_changes.Changed.{AllRows}
use Rattle.depot_rows.specs.depot_model.Deeds.{Deed}
use Rattle.depot_rows.specs.depot_model.Step.{Step as ModelStep, after}
use Rattle.reply_rows.specs.Made.{IsMade}
use Rattle.reply_rows.specs.declared.step.Step.{Step}

-- it is the model's, and the depot after its deeds is one of some
pub record Goes (IsSome : List Deed → Type 0) (all : AllRows) (d e : List Deed) (model : ModelStep) (step : Step) : Type 0 where
  pub made : IsMade all d e model step
  pub there : IsSome (after e model.deeds)
