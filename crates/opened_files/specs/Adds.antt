-- The file that an argument of `add` spells, why a file can't be made anew, and what is read for it. This project's own choice.
use Rattle.std.specs.Prelude.{ℕ, Bool, List, Option, Some, if◌then◌else◌}
use Rattle.depot_rows.specs.db_records.declared.table.TableId.TheVariants as table_ids
use Rattle.depot_rows.specs.table_changes.Changed.{AllRows}
use Rattle.depot_rows.specs.view_map.Mapping.{files_at}
use Rattle.depot_rows.specs.depot_model.declared.command.FileArgument.{FileArgument}
use Rattle.depot_rows.specs.depot_model.declared.request.Caller.{Caller}
use Rattle.depot_rows.specs.depot_model.declared.refusal.Refusal.{Refusal}
use Rattle.depot_rows.specs.depot_model.declared.refusal.Refusal.TheVariants.{AlreadyOpen, Exists}
use Rattle.depot_rows.specs.depot_model.Arguments.{in_client_syntax}
use Rattle.depot_rows.specs.depot_model.Deeds.{Deed}
use Rattle.depot_rows.specs.depot_model.Rules.{IsSound}
use Rattle.depot_rows.specs.depot_model.Steps.Adding.{first_live}
use Rattle.depot_rows.specs.Standing.{HasRows}
use Rattle.named_files.specs.Asked.{IsAsker}
use Rattle.named_files.specs.declared.asker.Asker.{Asker}

-- the file of a path that an argument spells
abbrev pub spelled_file : List Deed → Asker → FileArgument → List ℕ → Option (List ℕ)
spelled_file d asker argument path =
    if in_client_syntax asker.client argument.spec.pattern then first_live d (files_at asker.view path) else Some path

-- why a file can't be made anew: it is opened, or there, or another client has it opened alone
abbrev pub new_refusal : List ℕ → Bool → Bool → Option Refusal → Option Refusal
new_refusal path is_open there barred = if is_open then Some (AlreadyOpen path) else (if there then Some (Exists path) else barred)

-- the asker is that of the depot, and so are the opened files and the revisions
pub record Reads (caller : Caller) (asker : Asker) (rows : AllRows) (d : List Deed) : Type 0 where
  pub sound : IsSound d
  pub asked : IsAsker d caller asker
  pub listed : HasRows rows d table_ids.Working
  pub revisions : HasRows rows d table_ids.Rev
