-- `revert`, `reopen`, `lock`, `unlock`, `opened` (Command-Line Reference, "p4 revert", "p4 reopen", "p4 lock", "p4 unlock", "p4 opened"). The have
-- list stays at a revert.
use Rattle.std.specs.Prelude.{ℕ, ◌==◌, List, [], ◌∷◌, ◌++◌, map, filter, filter_map, flat_map, codes, if◌then◌else◌, Option, Some, None, unwrap_or, length, nat_lt, Bool, true, false, not, option_and_then}
use Rattle.db_records.specs.depot_path.Bytes.{same}
use Rattle.depot_model.specs.declared.request.Caller.{Caller}
use Rattle.depot_model.specs.declared.command.FileArgument.{FileArgument}
use Rattle.depot_model.specs.declared.reply.Row.{Row}
use Rattle.depot_model.specs.declared.reply.Field.{Field}
use Rattle.depot_model.specs.declared.refusal.Refusal.{Refusal}
use Rattle.depot_model.specs.declared.refusal.Refusal.TheVariants.{NotOpen, Locked}
use Rattle.depot_model.specs.Deeds.{Deed, Open, Shut, Hold, Free, Opening}
use Rattle.depot_model.specs.Latest.{have}
use Rattle.depot_model.specs.Opened.{opened, holder, partner}
use Rattle.depot_model.specs.Arguments.{named, opened_by, paths_of, open_paths, over, over_all, within_files, is_in}
use Rattle.depot_model.specs.Rows.{row, path_field, number_field, text_field, action_word, change_word}
use Rattle.depot_model.specs.Step.{Step, nothing, tells, does, refuses, unless, refuse_if, all_of, both}
use Rattle.depot_model.specs.Steps.Opening.{right_refusal, openers, reopened_change_refusal, held}
use Rattle.depot_model.specs.Asking.{to_open, to_write, may_at}

-- the files that the caller has opened, in the change that `-c` selects, where it is given
abbrev pub is_selected : Option ℕ → Option Opening → Bool
is_selected change None = false
is_selected None (Some o) = true
is_selected (Some n) (Some o) = o.change == n

abbrev pub selected : List Deed → Caller → Option ℕ → FileArgument → List (List ℕ)
selected d caller change argument =
    filter (λ path. is_selected change (opened d caller.client path)) (named true d caller (opened_by d caller.client) argument)

abbrev pub not_open : FileArgument → Step
not_open argument = refuses (NotOpen argument.text)

-- a field of the have revision, where there is one
abbrev pub have_field : ℕ → List Field
have_field n = if n == 0 then [] else number_field (codes "haveRev") n ∷ []

abbrev pub shut : List Deed → Caller → List ℕ → Step
shut d caller path =
    does (Shut (held caller path)
    ∷ []) (row (path_field (codes "depotFile") path ∷ have_field (have d caller.client path)
    ++ text_field (codes "action") (codes "reverted") ∷ []))

-- the other end of a move, which goes along
abbrev pub other_end : List Deed → Caller → List ℕ → List (List ℕ)
other_end d caller path = elim (option_and_then (partner d) (opened d caller.client path)) [ None ↦ [] | Some o ↦ o.path ∷ [] ]

-- a file with its other end, where the caller may open it
abbrev pub both_ends : List Deed → Caller → List ℕ → List (List ℕ)
both_ends d caller path = path ∷ (if may_at d caller path to_open then other_end d caller path else [])

abbrev pub revert_file : List Deed → Caller → List ℕ → Step
revert_file d caller path = unless (right_refusal to_open d caller path ∷ []) (all_of (shut d caller) (both_ends d caller path))

-- files one after another, but those that were taken
abbrev pub revert_files : List Deed → Caller → List (List ℕ) → List (List ℕ) → Step
revert_files d caller taken [] = nothing
revert_files d caller taken (path ∷ paths) =
    both (if is_in taken path then nothing else revert_file d caller path) (revert_files d caller (both_ends d caller path ++ taken) paths)

abbrev pub revert_named : List Deed → Caller → List (List ℕ) → FileArgument → List (List ℕ) → Step
revert_named d caller taken argument [] = not_open argument
revert_named d caller taken argument (path ∷ paths) = revert_files d caller taken (path ∷ paths)

abbrev pub revert_over : List Deed → Caller → Option ℕ → List (List ℕ) → List FileArgument → Step
revert_over d caller change taken [] = nothing
revert_over d caller change taken (argument ∷ arguments) =
    let files = selected d caller change argument in
    both (revert_named d caller taken argument files) (revert_over d caller change (flat_map (both_ends d caller) files ++ taken) arguments)

abbrev pub revert : List Deed → Caller → Option ℕ → List FileArgument → Step
revert d caller change files = within_files (revert_over d caller change [] files)

-- an opening moved into another change, or with another type
abbrev pub moved : Option ℕ → Option (List ℕ) → Opening → Opening
moved change type o = record o { change = unwrap_or change o.change; file_type = unwrap_or type o.file_type }

abbrev pub reopen_row : Opening → Row
reopen_row o =
    row (path_field (codes "depotFile") o.path ∷ text_field (codes "change") (change_word o.change) ∷ text_field (codes "type") o.file_type
    ∷ [])

abbrev pub reopen_opening : List Deed → Caller → Opening → Step
reopen_opening d caller o = unless (right_refusal to_open d caller o.path ∷ []) (does (Open o ∷ []) (reopen_row o))

abbrev pub reopen_file : List Deed → Caller → Option ℕ → Option (List ℕ) → List ℕ → Step
reopen_file d caller change type path = elim (opened d caller.client path) [ None ↦ nothing | Some o ↦ reopen_opening d caller (moved change type o) ]

abbrev pub reopen : List Deed → Caller → Option ℕ → Option (List ℕ) → List FileArgument → Step
reopen d caller change type files = unless (reopened_change_refusal d caller change ∷ [])
    (within_files (over (selected d caller None) not_open (λ _. reopen_file d caller change type) [] files))

abbrev pub is_held_by : Caller → Option (List ℕ) → Bool
is_held_by caller None = false
is_held_by caller (Some client) = same client caller.client

abbrev pub lock_refusal : Caller → List ℕ → Option (List ℕ) → Option Refusal
lock_refusal caller path None = None
lock_refusal caller path (Some client) = refuse_if (not (same client caller.client)) (Locked path client)

abbrev pub lock_file : List Deed → Caller → List ℕ → Step
lock_file d caller path = unless (right_refusal to_write d caller path ∷ lock_refusal caller path (holder d path) ∷ [])
    (does (Hold (held caller path) ∷ []) (row (path_field (codes "depotFile") path ∷ text_field (codes "action") (codes "locked") ∷ [])))

abbrev pub lock : List Deed → Caller → Option ℕ → List FileArgument → Step
lock d caller change files = within_files (over (selected d caller change) not_open (λ _. lock_file d caller) [] files)

abbrev pub unlock_held : List Deed → Caller → List ℕ → Step
unlock_held d caller path = if is_held_by caller (holder d path)
    then does (Free (held caller path) ∷ []) (row (path_field (codes "depotFile") path ∷ text_field (codes "action") (codes "unlocked") ∷ []))
    else nothing

abbrev pub unlock_file : List Deed → Caller → List ℕ → Step
unlock_file d caller path = unless (right_refusal to_write d caller path ∷ []) (unlock_held d caller path)

abbrev pub unlock : List Deed → Caller → Option ℕ → List FileArgument → Step
unlock d caller change files = within_files (over (selected d caller change) not_open (λ _. unlock_file d caller) [] files)

-- opened: this client's files, or those of all clients
abbrev pub openers_shown : Bool → List Deed → Caller → List ℕ → List (List ℕ)
openers_shown all d caller path = if all then openers d path else filter (same caller.client) (openers d path)

abbrev pub opened_row : List Deed → Opening → Row
opened_row d o = row (
    path_field (codes "depotFile") o.path ∷ number_field (codes "rev") o.base ∷ text_field (codes "action") (action_word o.action)
    ∷ text_field (codes "change") (change_word o.change) ∷ text_field (codes "type") o.file_type ∷ text_field (codes "client") o.client
    ∷ number_field (codes "lock") (elim (holder d o.path) [ None ↦ 0 | Some client ↦ if same client o.client then 1 else 0 ]) ∷ [])

abbrev pub opened_files : Bool → List Deed → Caller → List (List ℕ)
opened_files all d caller = filter (λ path. nat_lt 0 (length (openers_shown all d caller path))) (paths_of open_paths d)

abbrev pub show_opened : Bool → List Deed → Caller → FileArgument → List ℕ → Step
show_opened all d caller argument path = tells (map (opened_row d) (filter_map (λ client. opened d client path) (openers_shown all d caller path)))

abbrev pub opened_step : List Deed → Caller → Bool → List FileArgument → Step
opened_step d caller all files = over_all (named true d caller (opened_files all d caller)) not_open (show_opened all d caller) files
