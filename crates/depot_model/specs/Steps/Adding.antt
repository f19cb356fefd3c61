-- `add` (Command-Line Reference, "p4 add").
use Rattle.std.specs.Prelude.{ℕ, List, [], ◌∷◌, find, codes, if◌then◌else◌, Option, Some, None, unwrap_or, is_some, is_none}
use Rattle.db_records.specs.depot_path.Path.{printed}
use Rattle.db_records.specs.depot_path.declared.revision.Wanted.TheVariants.{Head}
use Rattle.db_records.specs.depot_path.Fit.{filled}
use Rattle.view_map.specs.Mapping.{files_at}
use Rattle.depot_model.specs.declared.request.Caller.{Caller}
use Rattle.depot_model.specs.declared.command.FileArgument.{FileArgument}
use Rattle.depot_model.specs.declared.refusal.Refusal.TheVariants.{NotInView, AlreadyOpen, Exists}
use Rattle.depot_model.specs.Deeds.{Deed, Open, Opening, Add}
use Rattle.depot_model.specs.Revisions.{head, is_live_head}
use Rattle.depot_model.specs.Opened.{opened}
use Rattle.depot_model.specs.Asking.{view, to_open}
use Rattle.depot_model.specs.Choice.{shown}
use Rattle.depot_model.specs.Arguments.{in_client_syntax, over, within_files}
use Rattle.depot_model.specs.Step.{Step, does, refuses, unless, refuse_if}
use Rattle.depot_model.specs.Steps.Opening.{named_change_refusal, exclusive_refusal, right_refusal, opening_row}

-- the path that an argument without wildcards spells
abbrev pub spelled : FileArgument → List ℕ
spelled argument = filled argument.spec.pattern []

-- of a client path's files the first that is live, else the first
abbrev pub first_live : List Deed → List (List ℕ) → Option (List ℕ)
first_live d [] = None
first_live d (file ∷ files) = Some (unwrap_or (find (is_live_head d) (file ∷ files)) file)

-- the file that an argument of `add` takes
abbrev pub file_to_add : List Deed → Caller → FileArgument → Option (List ℕ)
file_to_add d caller argument =
    if in_client_syntax caller.client argument.spec.pattern then first_live d (files_at (view d caller.client) (spelled argument)) else Some (spelled argument)

abbrev pub opening : List Deed → Caller → Option ℕ → List ℕ → List ℕ → Opening
opening d caller change type path = record {
  client = caller.client;
  path = path;
  base = head d path;
  action = Add;
  file_type = type;
  change = unwrap_or change 0;
  source = None;
  moved = None;
}

abbrev pub add_file : List Deed → Caller → Option ℕ → List ℕ → List ℕ → Step
add_file d caller change type path =
    unless (
    right_refusal to_open d caller path
    ∷ refuse_if (is_none (shown d caller Head path)) (NotInView (printed path))
    ∷ refuse_if (is_some (opened d caller.client path)) (AlreadyOpen path)
    ∷ refuse_if (is_live_head d path) (Exists path)
    ∷ exclusive_refusal d path caller.client type
    ∷ [])
    (does (Open (opening d caller change type path) ∷ []) (opening_row (opening d caller change type path) (shown d caller Head path)))

abbrev pub files_to_add : List Deed → Caller → FileArgument → List (List ℕ)
files_to_add d caller argument = elim (file_to_add d caller argument) [ None ↦ [] | Some file ↦ file ∷ [] ]

abbrev pub add : List Deed → Caller → Option ℕ → Option (List ℕ) → List FileArgument → Step
add d caller change type paths =
    unless (named_change_refusal d caller change ∷ [])
    (within_files (over (files_to_add d caller) (λ argument. refuses (NotInView (printed (spelled argument)))) (λ _. add_file d caller change (unwrap_or type (codes "text"))) [] paths))
