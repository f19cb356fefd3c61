-- `integrate` (Command-Line Reference, "p4 integrate"). Only revisions that weren't integrated before are integrated.
use Rattle.std.specs.Prelude.{ℕ, List, [], ◌∷◌, filter, codes, if◌then◌else◌, Option, Some, None, unwrap_or, is_some, false, not}
use Rattle.std.specs.List.{last_or}
use Rattle.db_records.specs.depot_path.Path.{printed}
use Rattle.db_records.specs.depot_path.declared.revision.Wanted.{Wanted}
use Rattle.db_records.specs.depot_path.declared.revision.Wanted.TheVariants.{Head}
use Rattle.depot_model.specs.declared.request.Caller.{Caller}
use Rattle.depot_model.specs.declared.command.FileArgument.{FileArgument}
use Rattle.depot_model.specs.declared.command.PatternArgument.{PatternArgument}
use Rattle.depot_model.specs.declared.reply.Row.{Row}
use Rattle.depot_model.specs.declared.refusal.Refusal.TheVariants.{NotInView, AlreadyOpen, AllIntegrated, NoSuchFile}
use Rattle.depot_model.specs.Deeds.{Deed, Open, Got, Owe, Paid, Opening, Owing, Source, Action, Delete, Branch, Integrate, BranchFrom, DeleteFrom}
use Rattle.depot_model.specs.Revisions.{revision, head, is_live_at, is_live_head, credited}
use Rattle.depot_model.specs.Opened.{opened}
use Rattle.depot_model.specs.Asking.{to_open, to_read}
use Rattle.depot_model.specs.Choice.{shown, PassedOver, At, chosen}
use Rattle.depot_model.specs.Range.{in_range}
use Rattle.depot_model.specs.Arguments.{named, submitted, within_files}
use Rattle.depot_model.specs.Rows.{row, path_field, number_field, text_field, action_word}
use Rattle.depot_model.specs.Step.{Step, nothing, does, refuses, unless, refuse_if, in_turn}
use Rattle.depot_model.specs.Steps.Opening.{right_refusal, named_change_refusal, exclusive_refusal, held}
use Rattle.depot_model.specs.Steps.Targets.{target_text, target_at}

-- ---- the revisions to integrate

abbrev pub uncredited : List Deed → Caller → Wanted → List ℕ → List ℕ → List ℕ
uncredited d caller wanted s t = filter (λ n. not (credited d s t n)) (in_range d caller s wanted)

-- ---- one source

abbrev pub type_at : List Deed → List ℕ → ℕ → List ℕ
type_at d path n = elim (revision d path n) [ None ↦ codes "text" | Some r ↦ r.entry.file_type ]

abbrev pub opening : List Deed → Caller → Option ℕ → Action → List ℕ → List ℕ → Option Source → Opening
opening d caller change action type t source = record {
  client = caller.client;
  path = t;
  base = head d t;
  action = action;
  file_type = type;
  change = unwrap_or change 0;
  source = source;
  moved = None;
}

abbrev pub owing : Caller → List ℕ → List ℕ → ℕ → ℕ → Owing
owing caller s t first last = record { client = caller.client; path = t; from = s; first = first; last = last }

abbrev pub integrate_row : List ℕ → List ℕ → ℕ → ℕ → Action → Row
integrate_row s t first last action = row (
    path_field (codes "depotFile") t ∷ path_field (codes "fromFile") s ∷ number_field (codes "startFromRev") first
    ∷ number_field (codes "endFromRev") last ∷ text_field (codes "action") (action_word action) ∷ [])

abbrev pub integrate_live : List Deed → Caller → Option ℕ → List ℕ → List ℕ → ℕ → ℕ → Step
integrate_live d caller change s t first last =
    if is_live_head d t
    then does (Open (opening d caller change Integrate (type_at d t (head d t)) t None) ∷ Got (held caller t) (head d t)
    ∷ Owe (owing caller s t first last) ∷ []) (integrate_row s t first last Integrate)
    else does (Open (opening d caller change Branch (type_at d s last) t (Some (record { path = s; rev = last })))
    ∷ Owe (owing caller s t first last) ∷ Paid (held caller t) s BranchFrom ∷ []) (integrate_row s t first last Branch)

abbrev pub integrate_deleted : List Deed → Caller → Option ℕ → List ℕ → List ℕ → ℕ → ℕ → Step
integrate_deleted d caller change s t first last =
    if is_live_head d t
    then does (Open (opening d caller change Delete (type_at d t (head d t)) t None) ∷ Owe (owing caller s t first last)
    ∷ Paid (held caller t) s DeleteFrom ∷ []) (integrate_row s t first last Delete)
    else refuses (AllIntegrated t)

abbrev pub integrate_revs : List Deed → Caller → Option ℕ → List ℕ → List ℕ → List ℕ → Step
integrate_revs d caller change s t [] = refuses (AllIntegrated t)
integrate_revs d caller change s t (first ∷ revs) =
    let last = unwrap_or (last_or (Some first) revs) first in
    if is_live_at d s last then integrate_live d caller change s t first last else integrate_deleted d caller change s t first last

abbrev pub new_type : List Deed → List ℕ → List ℕ → ℕ → List ℕ
new_type d s t last = if is_live_head d t then type_at d t (head d t) else type_at d s last

-- what is opened is that of the depot e, after what the command did with the sources before; all else is that of the depot d before the command
abbrev pub integrate_to : List Deed → List Deed → Caller → Option ℕ → Wanted → List ℕ → List ℕ → Step
integrate_to d e caller change wanted s t =
    let revs = uncredited d caller wanted s t in
    unless (
    right_refusal to_open d caller t
    ∷ refuse_if (not (is_some (shown d caller Head t))) (NotInView (printed t))
    ∷ refuse_if (is_some (opened e caller.client t)) (AlreadyOpen t)
    ∷ exclusive_refusal e t caller.client (new_type d s t (unwrap_or (last_or None revs) 0))
    ∷ [])
    (integrate_revs d caller change s t revs)

abbrev pub integrate_chosen : List Deed → List Deed → Caller → Option ℕ → FileArgument → PatternArgument → List ℕ → Step
integrate_chosen d e caller change from to s =
    let text = target_text d caller from to s in
    elim (target_at d caller to text) [
      | None ↦ refuses (NotInView (printed text))
      | Some t ↦ integrate_to d e caller change from.spec.wanted s t
    ]

-- a file passed over gives no row
abbrev pub integrate_file : List Deed → Caller → Option ℕ → FileArgument → PatternArgument → List Deed → List ℕ → Step
integrate_file d caller change from to e s = unless (right_refusal to_read d caller s ∷ []) (elim (chosen d caller s from.spec.wanted) [
  | PassedOver ↦ nothing
  | At n ↦ integrate_chosen d e caller change from to s
])

abbrev pub integrate_all : List Deed → Caller → Option ℕ → FileArgument → PatternArgument → List (List ℕ) → Step
integrate_all d caller change from to [] = refuses (NoSuchFile from.text)
integrate_all d caller change from to (s ∷ sources) = in_turn (integrate_file d caller change from to) d (s ∷ sources)

abbrev pub integrate : List Deed → Caller → Option ℕ → FileArgument → PatternArgument → Step
integrate d caller change from to = unless (named_change_refusal d caller change ∷ [])
    (within_files (integrate_all d caller change from to (named false d caller (submitted d) from)))
