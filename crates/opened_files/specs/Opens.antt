-- What `edit` and `delete` do with a file once it is known that the caller may open it, where the view shows it, and what is to be opened; and what
-- is read for it. This project's own choice.
use Rattle.std.specs.Prelude.{ℕ, List, [], ◌∷◌, Option, Some, None, unwrap_or}
use Rattle.depot_rows.specs.db_records.declared.table.TableId.TheVariants as table_ids
use Rattle.depot_rows.specs.table_changes.Changed.{AllRows}
use Rattle.depot_rows.specs.depot_model.declared.request.Caller.{Caller}
use Rattle.depot_rows.specs.depot_model.declared.refusal.Refusal.TheVariants.{AlreadyOpen}
use Rattle.depot_rows.specs.depot_model.Deeds.{Action, Deed, Open, Opening}
use Rattle.depot_rows.specs.depot_model.Rules.{IsSound}
use Rattle.depot_rows.specs.depot_model.Step.{Step, does, refuses, unless}
use Rattle.depot_rows.specs.depot_model.Steps.Editing.{new_type, next_opening}
use Rattle.depot_rows.specs.depot_model.Steps.Opening.{exclusive_refusal, opening_row}
use Rattle.depot_rows.specs.Standing.{HasRows}
use Rattle.depot_rows.specs.declared.deed.Action.{Action as DoneAction}
use Rattle.depot_rows.specs.declared.deed.Opening.{Opening as DoneOpening}
use Rattle.named_files.specs.Asked.{IsAsker}
use Rattle.named_files.specs.declared.asker.Asker.{Asker}

-- the opening of a file that isn't opened
abbrev pub new_opening : Caller → List ℕ → ℕ → DoneAction → Option ℕ → List ℕ → DoneOpening
new_opening caller path base action change type = record {
  client = caller.client;
  path = path;
  base = base;
  action = action;
  file_type = type;
  change = unwrap_or change 0;
  source = None;
  moved = None;
}

-- a file that is opened
abbrev pub open_step : Opening → Option (List ℕ) → Step
open_step o place = does (Open o ∷ []) (opening_row o place)

-- the opening that is made of it, or its refusal where it is opened so
abbrev pub opens_next : List ℕ → Option (List ℕ) → Option Opening → Step
opens_next path place next = elim next [
  | None ↦ refuses (AlreadyOpen path)
  | Some o ↦ open_step o place
]

-- unless another client has it opened alone
abbrev pub opens_shown : List Deed → Caller → Action → Option ℕ → Option (List ℕ) → Option (List ℕ) → List ℕ → Step
opens_shown d caller action change type place path =
    let own = new_type d caller type path in
    unless (exclusive_refusal d path caller.client own ∷ []) (opens_next path place (next_opening d caller action change own path))

-- the asker is that of the depot, and so are the forms, the have lists, the opened files and the revisions
pub record Reads (caller : Caller) (asker : Asker) (rows : AllRows) (d : List Deed) : Type 0 where
  pub sound : IsSound d
  pub asked : IsAsker d caller asker
  pub forms : HasRows rows d table_ids.Domain
  pub had : HasRows rows d table_ids.Have
  pub listed : HasRows rows d table_ids.Working
  pub revisions : HasRows rows d table_ids.Rev
