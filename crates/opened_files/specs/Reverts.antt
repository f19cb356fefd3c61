-- Which files a `revert` has taken, and the row of a file. This project's own choice.
use Rattle.std.specs.Prelude.{◌≡◌, ℕ, List, [], ◌∷◌, ◌++◌, codes}
use Rattle.depot_rows.specs.depot_model.declared.reply.Row.{Row}
use Rattle.depot_rows.specs.depot_model.declared.request.Caller.{Caller}
use Rattle.depot_rows.specs.depot_model.Arguments.{is_in}
use Rattle.depot_rows.specs.depot_model.Deeds.{Deed}
use Rattle.depot_rows.specs.depot_model.Rows.{path_field, row, text_field}
use Rattle.depot_rows.specs.depot_model.Rules.{IsSound}
use Rattle.depot_rows.specs.depot_model.Step.{Step as ModelStep}
use Rattle.depot_rows.specs.depot_model.Steps.Reverting.{have_field}
use Rattle.depot_rows.specs.db_records.declared.table.TableId.TheVariants as table_ids
use Rattle.depot_rows.specs.Standing.{HasRows}
use Rattle.named_files.specs.Asked.{IsAsker}
use Rattle.named_files.specs.declared.asker.Asker.{Asker}
use Rattle.reply_rows.specs.Made.{IsMade}
use Rattle.reply_rows.specs.declared.step.Step.{Step}
use Rattle.depot_rows.specs.table_changes.Changed.{AllRows}

abbrev pub shut_row : List ℕ → ℕ → Row
shut_row path have = row (path_field (codes "depotFile") path ∷ have_field have ++ text_field (codes "action") (codes "reverted") ∷ [])

-- the same files, in whichever order
abbrev pub AreAlike : List (List ℕ) → List (List ℕ) → Type 0
AreAlike taken seen = (path : List ℕ) → is_in taken path ≡ is_in seen path

-- a `revert` has done what the model's has done, and has taken the same files
pub record IsReverted (all : AllRows) (d : List Deed) (done : ModelStep) (seen : List (List ℕ)) (step : Step) (taken : List (List ℕ)) : Type 0 where
  pub made : IsMade all d d done step
  pub alike : AreAlike taken seen

-- the asker is that of the depot, and so are the have lists and the opened files
pub record Reads (caller : Caller) (asker : Asker) (rows : AllRows) (d : List Deed) : Type 0 where
  pub sound : IsSound d
  pub asked : IsAsker d caller asker
  pub had : HasRows rows d table_ids.Have
  pub listed : HasRows rows d table_ids.Working
