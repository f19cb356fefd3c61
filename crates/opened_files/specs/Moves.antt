-- What `move` does with a file by what was found of it, and what is read for it. This project's own choice.
use Rattle.std.specs.Prelude.{◌≡◌, ℕ, Bool, true, false, List, [], ◌∷◌, codes, Option, Some, None, unwrap_or}
use Rattle.depot_rows.specs.depot_path.Path.{printed}
use Rattle.depot_rows.specs.db_records.declared.table.TableId.TheVariants as table_ids
use Rattle.depot_rows.specs.table_changes.Changed.{AllRows}
use Rattle.depot_rows.specs.depot_model.declared.command.FileArgument.{FileArgument}
use Rattle.depot_rows.specs.depot_model.declared.refusal.Refusal.TheVariants.{NotInView}
use Rattle.depot_rows.specs.depot_model.declared.reply.Row.{Row}
use Rattle.depot_rows.specs.depot_model.declared.request.Caller.{Caller}
use Rattle.depot_rows.specs.depot_model.Deeds.{Deed, Opening, Action, Add, MoveAdd, MoveDelete}
use Rattle.depot_rows.specs.depot_model.Rows.{row, path_field, number_field, text_field, action_word}
use Rattle.depot_rows.specs.depot_model.Rules.{IsSound}
use Rattle.depot_rows.specs.depot_model.Step.{Step, does, refuses, unless}
use Rattle.depot_rows.specs.depot_model.Steps.Moving.{movable_refusal, move_deeds, move_row, target_action}
use Rattle.depot_rows.specs.depot_model.WellFormed.{asks_head}
use Rattle.depot_rows.specs.Standing.{HasRows}
use Rattle.depot_rows.specs.declared.deed.Action.TheVariants as actions
use Rattle.depot_rows.specs.declared.deed.Opening.{Opening as DoneOpening}
use Rattle.named_files.specs.Asked.{IsAsker}
use Rattle.named_files.specs.declared.asker.Asker.{Asker}
use Rattle.opening_reads.specs.OwnOpenings.{IsOwn}
use Rattle.opening_reads.specs.declared.own_openings.OwnOpenings.{OwnOpenings}

-- ---- what becomes of openings

abbrev pub is_add : Action → Bool
is_add Add = true
is_add _ = false

abbrev pub is_move_add : Action → Bool
is_move_add MoveAdd = true
is_move_add _ = false

abbrev pub is_move_delete : Action → Bool
is_move_delete MoveDelete = true
is_move_delete _ = false

abbrev pub at_target : DoneOpening → ℕ → Option ℕ → List ℕ → DoneOpening
at_target o base change t = record o { path = t; base = base; change = unwrap_or change o.change }

abbrev pub added_at : DoneOpening → ℕ → Option ℕ → List ℕ → DoneOpening
added_at o base change t = record (at_target o base change t) { source = None; moved = None }

abbrev pub edited_at : DoneOpening → ℕ → Option ℕ → List ℕ → DoneOpening
edited_at o base change t =
    record (at_target o base change t) { action = actions.MoveAdd; source = Some (record { path = o.path; rev = o.base }); moved = Some o.path }

abbrev pub left_behind : DoneOpening → Option ℕ → List ℕ → DoneOpening
left_behind o change t = record o { action = actions.MoveDelete; change = unwrap_or change o.change; source = None; moved = Some t }

abbrev pub renamed : DoneOpening → Option ℕ → List ℕ → DoneOpening
renamed o change t = record o { change = unwrap_or change o.change; moved = Some t }

-- ---- what is done

abbrev pub moved_row : Opening → ℕ → List ℕ → Row
moved_row o base t = row (
    path_field (codes "depotFile") t ∷ path_field (codes "fromFile") o.path
    ∷ number_field (codes "workRev") base ∷ text_field (codes "action") (action_word (target_action o)) ∷ [])

abbrev pub move_step : List Deed → Option ℕ → Opening → List ℕ → Step
move_step e change o t = does (move_deeds e change o t) (move_row e o t)

abbrev pub moves_nowhere : Opening → List ℕ → Step
moves_nowhere o text = unless (movable_refusal o ∷ []) (refuses (NotInView (printed text)))

-- the asker is that of the depot, and so are the opened files and the revisions, and the argument asks for no revision
pub record Reads (caller : Caller) (asker : Asker) (from : FileArgument) (rows : AllRows) (d : List Deed) : Type 0 where
  pub sound : IsSound d
  pub asked : IsAsker d caller asker
  pub listed : HasRows rows d table_ids.Working
  pub revisions : HasRows rows d table_ids.Rev
  pub head : asks_head from ≡ true

-- and the client's openings are those of a later depot
pub record ReadsOwn (caller : Caller) (asker : Asker) (from : FileArgument) (own : OwnOpenings) (rows : AllRows) (d e : List Deed) : Type 0 where
  pub reads : Reads caller asker from rows d
  pub own_now : IsOwn own caller.client d e
