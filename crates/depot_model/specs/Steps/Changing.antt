-- `change -i`, `change -o`, `change -d` (Command-Line Reference, "p4 change").
use Rattle.std.specs.Prelude.{ℕ, ◌==◌, ◌+◌, List, [], ◌∷◌, ◌++◌, length, nat_lt, map, filter, filter_map, take_while, codes, if◌then◌else◌, Option, Some, None, Ok, Err, option_map, option_and_then, unwrap_or, is_some, is_none, Bool, true, not, ◌&&◌, ◌||◌, decimal, is_ok}
use Rattle.std.specs.Option.{option_map_or}
use Rattle.std.specs.List.{list_any, enumerate_from}
use Rattle.db_records.specs.depot_path.Bytes.{same}
use Rattle.db_records.specs.depot_path.Path.{printed, path_of}
use Rattle.db_records.specs.depot_path.Digits.{number_of}
use Rattle.db_records.specs.depot_path.Revision.{small_number}
use Rattle.spec_form.specs.declared.shape.Shape.TheVariants.{Change as ChangeShape}
use Rattle.spec_form.specs.Form.{FormValue, lines_of}
use Rattle.spec_form.specs.Reading.{form_of}
use Rattle.depot_model.specs.Values.{value_of}
use Rattle.depot_model.specs.declared.request.Caller.{Caller}
use Rattle.depot_model.specs.declared.request.Request.{Request}
use Rattle.depot_model.specs.declared.reply.Row.{Row}
use Rattle.depot_model.specs.declared.reply.Field.{Field}
use Rattle.depot_model.specs.declared.refusal.Refusal.{Refusal}
use Rattle.depot_model.specs.declared.refusal.Refusal.TheVariants.{BadForm, NotOpen, OverLimit, NoSuchChange, NotYours, NotDeletable}
use Rattle.depot_model.specs.declared.refusal.Limit.TheVariants.{Text, Change, Files}
use Rattle.depot_model.specs.Deeds.{Deed, Open, Pend, Drop, Opening, Pending, Landing}
use Rattle.depot_model.specs.Revisions.{revisions}
use Rattle.depot_model.specs.Opened.{opened}
use Rattle.depot_model.specs.Numbers.{pending, top, landing}
use Rattle.depot_model.specs.Asking.{may_list}
use Rattle.depot_model.specs.Choice.{made_by}
use Rattle.depot_model.specs.Arguments.{submitted}
use Rattle.depot_model.specs.Rows.{row, path_field, number_field, text_field}
use Rattle.depot_model.specs.Step.{Step, tells, does, refuses, unless, refuse_if}
use Rattle.depot_model.specs.Steps.Opening.{change_refusal, is_of}
use Rattle.depot_model.specs.Steps.Submitting.{openings_of}
use Rattle.spec_form.specs.Places.{line_place, field_place}
use Rattle.depot_model.specs.FormRows.{text_of}

-- ---- change -i

abbrev pub form_text : FormValue → List ℕ
form_text form = text_of form (codes "Description")

-- the path in a line of Files: what stands before a tab
abbrev pub path_before_tab : List ℕ → List ℕ
path_before_tab line = take_while (λ b. not (b == 0x09)) line

abbrev pub listed_path : List ℕ → List ℕ
listed_path line = elim (path_of (path_before_tab line)) [ Err fault ↦ [] | Ok path ↦ path ]

abbrev pub listed_paths : FormValue → List (List ℕ)
listed_paths form = map listed_path (lines_of form (codes "Files"))

-- the refusals of the lines of Files, the first of which is the k-th: those that are no path
abbrev pub bad_lines : List ℕ → ℕ → List (List ℕ) → List (Option Refusal)
bad_lines input k [] = []
bad_lines input k (line ∷ lines) =
    refuse_if (not (is_ok (path_of (path_before_tab line)))) (BadForm (line_place input (codes "Files") k)) ∷ bad_lines input (k + 1) lines

-- the number that the form names; nothing for `new`
abbrev pub form_number : FormValue → Option ℕ
form_number form = if same (value_of form (codes "Change")) (codes "new") then None else Some (number_of (value_of form (codes "Change")))

abbrev pub has_number : FormValue → Bool
has_number form = same (value_of form (codes "Change")) (codes "new") || is_some (small_number (value_of form (codes "Change")))

abbrev pub not_open : List Deed → Caller → List ℕ → Option Refusal
not_open d caller path = refuse_if (is_none (opened d caller.client path)) (NotOpen (printed path))

abbrev pub moved_to : ℕ → List Deed → Caller → List ℕ → Option Deed
moved_to n d caller path = option_map (λ (o : Opening). Open (record o { change = n })) (opened d caller.client path)

abbrev pub saved : List Deed → Request → FormValue → ℕ → Step
saved d request form n = does (
    Pend (record { change = n; user = request.caller.user; client = request.caller.client; moment = request.moment; text = form_text form })
    ∷ filter_map (moved_to n d request.caller) (listed_paths form))
    (row (number_field (codes "Change") n ∷ text_field (codes "action") (codes "saved") ∷ []))

abbrev pub change_form : List Deed → Request → List ℕ → FormValue → Step
change_form d request input form =
    let n = unwrap_or (form_number form) (top d + 1) in
    unless (
    refuse_if (not (has_number form)) (BadForm (field_place input (codes "Change")))
    ∷ bad_lines input 0 (lines_of form (codes "Files"))
    ++ option_and_then (change_refusal d request.caller) (form_number form)
    ∷ map (not_open d request.caller) (listed_paths form)
    ++ refuse_if (nat_lt 65536 (length (form_text form))) (OverLimit Text)
    ∷ refuse_if (nat_lt 2147483647 n) (OverLimit Change)
    ∷ refuse_if (nat_lt 10000 (length (listed_paths form))) (OverLimit Files)
    ∷ [])
    (saved d request form n)

abbrev pub change_save : List Deed → Request → List ℕ → Step
change_save d request input =
    elim (form_of ChangeShape input) [ Err fault ↦ refuses (BadForm fault.line) | Ok form ↦ change_form d request input form ]

-- ---- change -o

abbrev pub file_field : ℕ × Opening → Field
file_field file = path_field (codes "Files" ++ decimal file.0) (file.1).path

abbrev pub change_row : List ℕ → List ℕ → List ℕ → List ℕ → List ℕ → List Opening → Row
change_row number client user status text openings = row (
    text_field (codes "Change") number ∷ text_field (codes "Client") client ∷ text_field (codes "User") user
    ∷ text_field (codes "Status") status ∷ text_field (codes "Description") text ∷ map file_field (enumerate_from 0 openings))

-- ---- change -d

-- the files of which a change made a revision, in path order
abbrev pub files_of_change : List Deed → ℕ → List (List ℕ)
files_of_change d n = filter (λ path. list_any (made_by n) (revisions d path)) (submitted d)

abbrev pub landed_by : Caller → Landing → Bool
landed_by caller l = same l.user caller.user && same l.client caller.client

abbrev pub delete_refusals : List Deed → Caller → ℕ → List (Option Refusal)
delete_refusals d caller n =
    refuse_if (is_none (pending d n) && is_none (landing d n)) (NoSuchChange n)
    ∷ refuse_if (not (option_map_or (is_of caller) (pending d n) true) || not (option_map_or (landed_by caller) (landing d n) true)) (NotYours n)
    ∷ refuse_if (is_some (landing d n) || nat_lt 0 (length (openings_of d caller n))) (NotDeletable n)
    ∷ []

abbrev pub change_delete : List Deed → Caller → ℕ → Step
change_delete d caller n =
    unless (delete_refusals d caller n) (does (Drop n ∷ []) (row (number_field (codes "Change") n ∷ text_field (codes "action") (codes "deleted") ∷ [])))

-- those openings whose files the caller may list
abbrev pub listable : List Deed → Caller → List Opening → List Opening
listable d caller openings = filter (λ (o : Opening). may_list d caller o.path) openings

abbrev pub default_text : List ℕ
default_text = codes "<enter description here>"

abbrev pub show_new : List Deed → Caller → Row
show_new d caller = change_row (codes "new") caller.client caller.user (codes "new") default_text (listable d caller (openings_of d caller 0))

-- the openings of a pending change, by its own user and client
abbrev pub openings_in : List Deed → Pending → List Opening
openings_in d p = openings_of d (record { user = p.user; client = p.client; host = [] }) p.change

abbrev pub show_landed : List Deed → ℕ → Step
show_landed d n = elim (landing d n) [
  | None ↦ refuses (NoSuchChange n)
  | Some l ↦ tells (change_row (decimal n) l.client l.user (codes "submitted") l.text [] ∷ [])
]

abbrev pub show_numbered : List Deed → Caller → ℕ → Step
show_numbered d caller n = elim (pending d n) [
  | None ↦ show_landed d n
  | Some p ↦ tells (change_row (decimal n) p.client p.user (codes "pending") p.text (listable d caller (openings_in d p)) ∷ [])
]

abbrev pub change_show : List Deed → Caller → Option ℕ → Step
change_show d caller None = tells (show_new d caller ∷ [])
change_show d caller (Some n) = show_numbered d caller n
