-- `move` (Command-Line Reference, "p4 move").
use Rattle.std.specs.Prelude.{ℕ, ◌==◌, List, [], ◌∷◌, codes, Option, Some, None, unwrap_or, is_some, is_none, Bool, true, false, not}
use Rattle.db_records.specs.depot_path.Path.{printed}
use Rattle.db_records.specs.depot_path.declared.revision.Wanted.TheVariants.{Head}
use Rattle.depot_model.specs.declared.request.Caller.{Caller}
use Rattle.depot_model.specs.declared.command.FileArgument.{FileArgument}
use Rattle.depot_model.specs.declared.command.PatternArgument.{PatternArgument}
use Rattle.depot_model.specs.declared.reply.Row.{Row}
use Rattle.depot_model.specs.declared.refusal.Refusal.{Refusal}
use Rattle.depot_model.specs.declared.refusal.Refusal.TheVariants.{NotInView, AlreadyOpen, NotOpen, Exists, NotMovable}
use Rattle.depot_model.specs.Deeds.{Deed, Open, Shut, Opening, Action, Add, Edit, MoveAdd, MoveDelete}
use Rattle.depot_model.specs.Revisions.{head, is_live_head}
use Rattle.depot_model.specs.Opened.{opened, partner}
use Rattle.depot_model.specs.Asking.{to_open}
use Rattle.depot_model.specs.Choice.{shown}
use Rattle.depot_model.specs.Arguments.{named, opened_by, within_files}
use Rattle.depot_model.specs.Rows.{row, path_field, number_field, text_field, action_word}
use Rattle.depot_model.specs.Step.{Step, nothing, does, refuses, unless, refuse_if, in_turn}
use Rattle.depot_model.specs.Steps.Opening.{named_change_refusal, exclusive_refusal, right_refusal}
use Rattle.depot_model.specs.Steps.Targets.{target_text, target_at}

-- an opened file that may be moved: one that is added, was moved already, or is edited over a revision
abbrev pub is_movable : Opening → Bool
is_movable o = elim o.action [ Add ↦ true | MoveAdd ↦ true | Edit ↦ not (o.base == 0) | _ ↦ false ]

-- the opening of the target, with the same type, and the change that is named or the same
abbrev pub opening_at : List Deed → Option ℕ → Opening → List ℕ → Opening
opening_at d change o t = record o { path = t; base = head d t; change = unwrap_or change o.change }

abbrev pub shut : Opening → Deed
shut o = Shut (record { client = o.client; path = o.path })

-- the deeds for a file that is added
abbrev pub move_added : List Deed → Option ℕ → Opening → List ℕ → List Deed
move_added d change o t = Open (record (opening_at d change o t) { source = None; moved = None }) ∷ shut o ∷ []

-- for one that is edited: it is deleted there, and added here with its base as the source
abbrev pub move_edited : List Deed → Option ℕ → Opening → List ℕ → List Deed
move_edited d change o t =
    Open (record o { action = MoveDelete; change = unwrap_or change o.change; source = None; moved = Some t })
    ∷ Open (record (opening_at d change o t) { action = MoveAdd; source = Some (record { path = o.path; rev = o.base }); moved = Some o.path })
    ∷ []

-- for one that was moved: the file that it was moved from names the new path
abbrev pub renamed : Option ℕ → List ℕ → Option Opening → List Deed
renamed change t None = []
renamed change t (Some p) = elim p.action [ MoveDelete ↦ Open (record p { change = unwrap_or change p.change; moved = Some t }) ∷ [] | _ ↦ [] ]

abbrev pub move_again : List Deed → Option ℕ → Opening → List ℕ → List Deed
move_again d change o t = shut o ∷ Open (opening_at d change o t) ∷ renamed change t (partner d o)

abbrev pub move_deeds : List Deed → Option ℕ → Opening → List ℕ → List Deed
move_deeds d change o t = elim o.action [ Add ↦ move_added d change o t | MoveAdd ↦ move_again d change o t | _ ↦ move_edited d change o t ]

abbrev pub target_action : Opening → Action
target_action o = elim o.action [ Add ↦ Add | _ ↦ MoveAdd ]

abbrev pub move_row : List Deed → Opening → List ℕ → Row
move_row d o t = row (
    path_field (codes "depotFile") t ∷ path_field (codes "fromFile") o.path
    ∷ number_field (codes "workRev") (head d t) ∷ text_field (codes "action") (action_word (target_action o)) ∷ [])

abbrev pub movable_refusal : Opening → Option Refusal
movable_refusal o = refuse_if (not (is_movable o)) (NotMovable o.path)

abbrev pub move_to : List Deed → Caller → Option ℕ → Opening → List ℕ → Step
move_to d caller change o t =
    unless (
    right_refusal to_open d caller t
    ∷ movable_refusal o
    ∷ refuse_if (is_none (shown d caller Head t)) (NotInView (printed t))
    ∷ refuse_if (is_some (opened d caller.client t)) (AlreadyOpen t)
    ∷ refuse_if (is_live_head d t) (Exists t)
    ∷ exclusive_refusal d t caller.client o.file_type
    ∷ [])
    (does (move_deeds d change o t) (move_row d o t))

abbrev pub move_opening : List Deed → Caller → Option ℕ → FileArgument → PatternArgument → Opening → Step
move_opening d caller change from to o =
    let text = target_text d caller from to o.path in
    unless (right_refusal to_open d caller o.path ∷ []) (elim (target_at d caller to text) [
      | None ↦ unless (movable_refusal o ∷ []) (refuses (NotInView (printed text)))
      | Some t ↦ move_to d caller change o t
    ])

abbrev pub move_file : Caller → Option ℕ → FileArgument → PatternArgument → List Deed → List ℕ → Step
move_file caller change from to d path = elim (opened d caller.client path) [ None ↦ nothing | Some o ↦ move_opening d caller change from to o ]

abbrev pub move_all : List Deed → Caller → Option ℕ → FileArgument → PatternArgument → List (List ℕ) → Step
move_all d caller change from to [] = refuses (NotOpen from.text)
move_all d caller change from to (path ∷ paths) = in_turn (move_file caller change from to) d (path ∷ paths)

abbrev pub move : List Deed → Caller → Option ℕ → FileArgument → PatternArgument → Step
move d caller change from to = unless (named_change_refusal d caller change ∷ [])
    (within_files (move_all d caller change from to (named false d caller (opened_by d caller.client) from)))
