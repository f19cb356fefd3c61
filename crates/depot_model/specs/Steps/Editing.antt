-- `edit`, `delete` (Command-Line Reference, "p4 edit", "p4 delete"): they open files that the client has.
use Rattle.std.specs.Prelude.{ℕ, List, [], ◌∷◌, codes, if◌then◌else◌, Option, Some, None, unwrap_or, is_some, is_none, false}
use Rattle.db_records.specs.depot_path.Path.{printed}
use Rattle.db_records.specs.depot_path.declared.revision.Wanted.TheVariants.{Head}
use Rattle.depot_model.specs.declared.request.Caller.{Caller}
use Rattle.depot_model.specs.declared.command.FileArgument.{FileArgument}
use Rattle.depot_model.specs.declared.refusal.Refusal.TheVariants.{NotInView, AlreadyOpen}
use Rattle.depot_model.specs.Deeds.{Deed, Open, Opening, Action, Add, Edit, Delete, Branch, Integrate}
use Rattle.depot_model.specs.Latest.{have}
use Rattle.depot_model.specs.Revisions.{revision}
use Rattle.depot_model.specs.Opened.{opened}
use Rattle.depot_model.specs.Choice.{shown}
use Rattle.depot_model.specs.Arguments.{named, had, over, within_files, no_file}
use Rattle.depot_model.specs.Step.{Step, does, refuses, unless, refuse_if}
use Rattle.depot_model.specs.Steps.Opening.{named_change_refusal, exclusive_refusal, right_refusal, opening_row}
use Rattle.depot_model.specs.Asking.{to_open}

-- the type of the have revision
abbrev pub had_type : List Deed → Caller → List ℕ → List ℕ
had_type d caller path = elim (revision d path (have d caller.client path)) [ None ↦ codes "text" | Some r ↦ r.entry.file_type ]

abbrev pub opening : List Deed → Caller → Action → Option ℕ → List ℕ → List ℕ → Opening
opening d caller action change type path = record {
  client = caller.client;
  path = path;
  base = have d caller.client path;
  action = action;
  file_type = type;
  change = unwrap_or change 0;
  source = None;
  moved = None;
}

-- what `edit` makes of an opening: its source is cleared; other openings stay as they are
abbrev pub edited : Opening → Option Opening
edited o = elim o.action [
  | Branch ↦ Some (record o { action = Add; source = None })
  | Integrate ↦ Some (record o { action = Edit; source = None })
  | Edit ↦ if is_some o.source then Some (record o { source = None }) else None
  | _ ↦ None
]

-- what an action makes of a file that is opened, or of one that isn't
abbrev pub reopened : Action → Opening → Option Opening
reopened Edit o = edited o
reopened _ o = None

abbrev pub next_opening : List Deed → Caller → Action → Option ℕ → List ℕ → List ℕ → Option Opening
next_opening d caller action change type path = elim (opened d caller.client path) [
  | None ↦ Some (opening d caller action change type path)
  | Some o ↦ reopened action o
]

-- the type that the opening is to have: its own, that is asked for, or that of the have revision
abbrev pub new_type : List Deed → Caller → Option (List ℕ) → List ℕ → List ℕ
new_type d caller type path = elim (opened d caller.client path) [ Some o ↦ o.file_type | None ↦ unwrap_or type (had_type d caller path) ]

abbrev pub open_file : List Deed → Caller → Action → Option ℕ → Option (List ℕ) → List ℕ → Step
open_file d caller action change type path =
    unless (
    right_refusal to_open d caller path
    ∷ refuse_if (is_none (shown d caller Head path)) (NotInView (printed path))
    ∷ exclusive_refusal d path caller.client (new_type d caller type path)
    ∷ [])
    (elim (next_opening d caller action change (new_type d caller type path) path) [
      | None ↦ refuses (AlreadyOpen path)
      | Some o ↦ does (Open o ∷ []) (opening_row o (shown d caller Head path))
    ])

abbrev pub open_had : Action → List Deed → Caller → Option ℕ → Option (List ℕ) → List FileArgument → Step
open_had action d caller change type files =
    unless (named_change_refusal d caller change ∷ [])
    (within_files (over (named false d caller (had d caller.client)) no_file (λ _. open_file d caller action change type) [] files))

abbrev pub edit : List Deed → Caller → Option ℕ → Option (List ℕ) → List FileArgument → Step
edit d caller change type files = open_had Edit d caller change type files

abbrev pub delete : List Deed → Caller → Option ℕ → List FileArgument → Step
delete d caller change files = open_had Delete d caller change None files
