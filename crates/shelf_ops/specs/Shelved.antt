-- How a file is kept in the change in which it is opened, and what is read for it (Command-Line Reference, "p4 shelve").
use Rattle.std.specs.Prelude.{ℕ, ◌&&◌, Bool, false, List, [], ◌∷◌, Option, Some}
use Rattle.depot_rows.specs.db_records.declared.table.TableId.TheVariants as tables
use Rattle.depot_rows.specs.table_changes.Changed.{AllRows}
use Rattle.depot_rows.specs.depot_model.declared.command.FileArgument.{FileArgument}
use Rattle.depot_rows.specs.depot_model.declared.request.Caller.{Caller}
use Rattle.depot_rows.specs.depot_model.Arguments.{names}
use Rattle.depot_rows.specs.depot_model.Deeds.{Deed, Opening, ShelfForm, Spec}
use Rattle.depot_rows.specs.depot_model.Opened.{opened}
use Rattle.depot_rows.specs.depot_model.Rules.{IsSound}
use Rattle.depot_rows.specs.depot_model.Shelves.{kept_form, shelf_name}
use Rattle.depot_rows.specs.depot_model.Step.{Step, does}
use Rattle.depot_rows.specs.depot_model.Steps.Reverting.{is_selected}
use Rattle.depot_rows.specs.depot_model.Steps.Shelving.{shelved_row}
use Rattle.depot_rows.specs.Standing.{HasRows}
use Rattle.named_files.specs.Asked.{IsAsker}
use Rattle.named_files.specs.Sets.{at_head}
use Rattle.named_files.specs.declared.asker.Asker.{Asker}

-- the asker is that of the depot, and the rows of forms, opened files and revisions are the depot's
pub record OpenedReads (caller : Caller) (asker : Asker) (rows : AllRows) (d : List Deed) : Type 0 where
  pub sound : IsSound d
  pub asked : IsAsker d caller asker
  pub has_domain : HasRows rows d tables.Domain
  pub has_working : HasRows rows d tables.Working
  pub has_rev : HasRows rows d tables.Rev

-- the client has the file opened in the change, and the argument names it, whichever revision it asks for
abbrev pub is_at_head : Caller → ℕ → List Deed → FileArgument → List ℕ → Bool
is_at_head caller n d argument path = is_selected (Some n) (opened d caller.client path) && names false d caller (at_head argument.spec) path

-- an opened file is kept, with the block that gave its content, where one did
abbrev pub keeping : Caller → Opening → Option (List ℕ) → Step
keeping caller o block = does (Spec ShelfForm (shelf_name o.change o.path) (kept_form caller o block) ∷ []) (shelved_row o)
