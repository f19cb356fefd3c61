-- `shelve`, `shelve -d`, `unshelve`, `describe -S` (Command-Line Reference, "p4 shelve", "p4 unshelve", "p4 describe").
use Rattle.std.specs.Prelude.{ℕ, ◌==◌, List, [], ◌∷◌, ◌++◌, length, nat_lt, map, filter, flat_map, sum, codes, if◌then◌else◌, Option, Some, None, unwrap_or, is_some, is_none, Bool, true, false, not, ◌&&◌, decimal}
use Rattle.std.specs.List.{enumerate_from}
use Rattle.std.specs.Option.{option_map_or}
use Rattle.db_records.specs.depot_path.Path.{printed}
use Rattle.spec_form.specs.Form.{FormValue}
use Rattle.db_records.specs.depot_path.declared.revision.Wanted.TheVariants.{Head}
use Rattle.depot_model.specs.declared.request.Caller.{Caller}
use Rattle.depot_model.specs.declared.request.Request.{Request}
use Rattle.depot_model.specs.declared.command.FileArgument.{FileArgument}
use Rattle.depot_model.specs.declared.reply.Row.{Row}
use Rattle.depot_model.specs.declared.reply.Field.{Field}
use Rattle.depot_model.specs.declared.refusal.Refusal.{Refusal}
use Rattle.depot_model.specs.declared.refusal.Refusal.TheVariants.{NotInView, AlreadyOpen, NoContent, OverLimit, AlreadyShelved, NotShelvable, NoShelf}
use Rattle.depot_model.specs.declared.refusal.Limit.TheVariants.{Files, Shelf}
use Rattle.depot_model.specs.Deeds.{Deed, Spec, Open, Opening, Pending, Source, ShelfForm, Add, Edit, Delete}
use Rattle.depot_model.specs.Revisions.{is_live_action}
use Rattle.depot_model.specs.Opened.{opened}
use Rattle.depot_model.specs.Numbers.{pending}
use Rattle.depot_model.specs.Asking.{may_list, to_open}
use Rattle.depot_model.specs.Choice.{shown}
use Rattle.depot_model.specs.Arguments.{named, opened_by, over_all, within_files, no_file}
use Rattle.depot_model.specs.Rows.{row, path_field, number_field, text_field, action_word}
use Rattle.depot_model.specs.Shelves.{shelf_name, kept, kept_paths, kept_form, gone_form, kept_base, kept_action, kept_block, kept_opening, block_size}
use Rattle.depot_model.specs.Step.{Step, nothing, tells, does, refuses, unless, refuse_if}
use Rattle.depot_model.specs.Steps.Opening.{change_refusal, named_change_refusal, exclusive_refusal, right_refusal, opening_row}
use Rattle.depot_model.specs.Steps.Reverting.{not_open, is_selected}
use Rattle.depot_model.specs.Steps.Submitting.{source_content, block_of, lacks_content}

-- ---- shelve

-- the block that gives a file its content, where its source doesn't
abbrev pub block_given : List Deed → Request → Opening → Option (List ℕ)
block_given d request o = if is_live_action o.action && is_none (source_content d o) then block_of d request o.client o.path else None

abbrev pub is_shelvable : Opening → Bool
is_shelvable o = elim o.action [ Add ↦ true | Edit ↦ true | Delete ↦ true | _ ↦ false ]

abbrev pub shelved_row : Opening → Row
shelved_row o =
    row (path_field (codes "depotFile") o.path ∷ number_field (codes "rev") o.base ∷ text_field (codes "action") (action_word o.action)
    ∷ [])

abbrev pub shelve_opening : List Deed → Request → Bool → Opening → Step
shelve_opening d request replaces o =
    unless (
    right_refusal to_open d request.caller o.path
    ∷ refuse_if (not (is_shelvable o)) (NotShelvable o.path)
    ∷ refuse_if (not replaces && is_some (kept d o.change o.path)) (AlreadyShelved o.path)
    ∷ refuse_if (lacks_content d request o) (NoContent o.path)
    ∷ [])
    (does (Spec ShelfForm (shelf_name o.change o.path) (kept_form request.caller o (block_given d request o)) ∷ []) (shelved_row o))

abbrev pub shelve_file : List Deed → Request → Bool → List ℕ → Step
shelve_file d request replaces path = elim (opened d request.caller.client path) [ None ↦ nothing | Some o ↦ shelve_opening d request replaces o ]

-- the files that this client has opened in the change
abbrev pub opened_in : List Deed → Caller → ℕ → FileArgument → List (List ℕ)
opened_in d caller n argument =
    named false d caller (filter (λ path. is_selected (Some n) (opened d caller.client path)) (opened_by d caller.client)) argument

-- one form is saved a file: at most 10,000 files, and 16,777,216 bytes of blocks
abbrev pub size_in : Deed → ℕ
size_in (Spec kind name form) = block_size form
size_in _ = 0

abbrev pub within_forms : Step → Step
within_forms step =
    unless (refuse_if (nat_lt 10000 (length step.deeds)) (OverLimit Files)
    ∷ refuse_if (nat_lt 16777216 (sum (map size_in step.deeds))) (OverLimit Shelf) ∷ []) step

abbrev pub shelve : List Deed → Request → ℕ → Bool → List FileArgument → Step
shelve d request n replaces files = unless (change_refusal d request.caller n ∷ [])
    (within_forms (over_all (opened_in d request.caller n) not_open (λ _. shelve_file d request replaces) files))

-- ---- shelve -d

abbrev pub listable : List Deed → Caller → ℕ → List (List ℕ)
listable d caller n = filter (may_list d caller) (kept_paths d n)

abbrev pub shelf_refusal : List Deed → Caller → ℕ → Option Refusal
shelf_refusal d caller n = refuse_if (length (listable d caller n) == 0) (NoShelf n)

abbrev pub unkeep : List Deed → Caller → ℕ → List ℕ → Step
unkeep d caller n path = unless (right_refusal to_open d caller path ∷ [])
    (does (Spec ShelfForm (shelf_name n path) (gone_form n path) ∷ []) (row (path_field (codes "depotFile") path ∷ text_field (codes "action") (codes "deleted") ∷ [])))

-- its tables leave the revisions out, so client syntax names mapped files
abbrev pub shelve_delete : List Deed → Caller → ℕ → List FileArgument → Step
shelve_delete d caller n files = unless (change_refusal d caller n ∷ shelf_refusal d caller n ∷ [])
    (within_forms (over_all (named true d caller (kept_paths d n)) no_file (λ _. unkeep d caller n) files))

-- ---- unshelve

abbrev pub from_fields : Option Source → List Field
from_fields None = []
from_fields (Some s) = path_field (codes "fromFile") s.path ∷ number_field (codes "fromRev") s.rev ∷ []

abbrev pub unshelved_row : List Deed → Caller → Opening → Option (List ℕ) → Row
unshelved_row d caller o block = record { fields = (opening_row o (shown d caller Head o.path)).fields ++ from_fields o.source; content = block }

abbrev pub unshelve_opening : List Deed → Caller → Opening → Option (List ℕ) → Step
unshelve_opening d caller o block =
    unless (
    right_refusal to_open d caller o.path
    ∷ refuse_if (is_none (shown d caller Head o.path)) (NotInView (printed o.path))
    ∷ refuse_if (is_some (opened d caller.client o.path)) (AlreadyOpen o.path)
    ∷ exclusive_refusal d o.path caller.client o.file_type
    ∷ [])
    (does (Open o ∷ []) (unshelved_row d caller o block))

abbrev pub unshelve_file : List Deed → Caller → ℕ → ℕ → List ℕ → Step
unshelve_file d caller n change path =
    elim (kept d n path) [ None ↦ nothing | Some form ↦ unshelve_opening d caller (kept_opening caller change path form) (kept_block form) ]

abbrev pub unshelve : List Deed → Caller → ℕ → Option ℕ → List FileArgument → Step
unshelve d caller n change files = unless (named_change_refusal d caller change ∷ shelf_refusal d caller n ∷ [])
    (within_files (over_all (named false d caller (kept_paths d n)) no_file (λ _. unshelve_file d caller n (unwrap_or change 0)) files))

-- ---- describe -S

abbrev pub fields_of_kept : List ℕ → List ℕ → FormValue → List Field
fields_of_kept index path form =
    path_field (codes "depotFile" ++ index) path ∷ text_field (codes "action" ++ index) (action_word (kept_action form))
    ∷ number_field (codes "rev" ++ index) (kept_base form) ∷ []

abbrev pub shelved_fields : List Deed → ℕ → ℕ × List ℕ → List Field
shelved_fields d n item = option_map_or (fields_of_kept (decimal item.0) item.1) (kept d n item.1) []

abbrev pub describe_kept : List Deed → Caller → Pending → Row
describe_kept d caller p = row (
    number_field (codes "change") p.change ∷ text_field (codes "user") p.user ∷ text_field (codes "client") p.client
    ∷ flat_map (shelved_fields d p.change) (enumerate_from 0 (listable d caller p.change)))

abbrev pub describe_shelved : List Deed → Caller → ℕ → Step
describe_shelved d caller n =
    unless (shelf_refusal d caller n ∷ []) (elim (pending d n) [ None ↦ refuses (NoShelf n) | Some p ↦ tells (describe_kept d caller p ∷ []) ])
