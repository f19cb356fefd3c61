-- `sync` (Command-Line Reference, "p4 sync"): opened files aren't changed, and get a resolve that is owed.
use Rattle.std.specs.Prelude.{ℕ, zero, suc, ◌==◌, ◌+◌, List, [], ◌∷◌, ◌++◌, length, nat_lt, nat_le, codes, if◌then◌else◌, Option, Some, None, option_map, option_and_then, is_some, Bool, true, false, not, ◌&&◌}
use Rattle.depot_model.specs.declared.request.Caller.{Caller}
use Rattle.depot_model.specs.declared.command.FileArgument.{FileArgument}
use Rattle.depot_model.specs.declared.reply.Row.{Row}
use Rattle.view_map.specs.Mapping.{path_in}
use Rattle.depot_model.specs.Deeds.{Deed, Got, Owe, Opening, Held}
use Rattle.depot_model.specs.Latest.{have}
use Rattle.depot_model.specs.Revisions.{revision, is_live_at}
use Rattle.depot_model.specs.Opened.{opened, owed}
use Rattle.depot_model.specs.Asking.{view, to_read}
use Rattle.depot_model.specs.Choice.{Choice, PassedOver, At, chosen, shown}
use Rattle.depot_model.specs.Arguments.{named, submitted, over_all, within_files, no_file}
use Rattle.depot_model.specs.Rows.{row, path_field, number_field, text_field, if_any}
use Rattle.depot_model.specs.Step.{Step, nothing, tells, does, unless}
use Rattle.depot_model.specs.Steps.Opening.{right_refusal, held}

-- the size of a revision, where it has content
abbrev pub size_of : List Deed → List ℕ → ℕ → Option ℕ
size_of d path n = option_and_then (λ r. option_map length r.entry.content) (revision d path n)

abbrev pub sync_row : List Deed → Caller → List ℕ → ℕ → List ℕ → Option ℕ → Row
sync_row d caller path rev action size = row (
    path_field (codes "depotFile") path ∷ if_any (path_field (codes "clientFile")) (path_in (view d caller.client) path)
    ++ number_field (codes "rev") rev ∷ text_field (codes "action") action ∷ if_any (number_field (codes "fileSize")) size)

-- the revision that the client is to have: the chosen one where the file is shown and live there, else 0
abbrev pub wanted_rev : List Deed → Caller → FileArgument → List ℕ → ℕ → ℕ
wanted_rev d caller argument path n = if is_some (shown d caller argument.spec.wanted path) && is_live_at d path n then n else 0

-- what becomes of the have revision, 0 for none
abbrev pub sync_word : Bool → ℕ → ℕ → Option (List ℕ)
sync_word again zero zero = None
sync_word again zero (suc wanted) = Some (codes "added")
sync_word again (suc had) zero = Some (codes "deleted")
sync_word again (suc had) (suc wanted) = if had == wanted then (if again then Some (codes "refreshed") else None) else Some (codes "updated")

abbrev pub changes_to : ℕ → ℕ → Held → List Deed
changes_to had wanted held = if had == wanted then [] else Got held wanted ∷ []

abbrev pub sync_have : Bool → List Deed → Caller → List ℕ → ℕ → Step
sync_have again d caller path wanted =
    let had = have d caller.client path in
    elim (sync_word again had wanted) [
      | None ↦ nothing
      | Some word ↦ does (changes_to had wanted (held caller path))
          (if wanted == 0 then sync_row d caller path had word None else sync_row d caller path wanted word (size_of d path wanted))
    ]

-- a resolve up to a revision or more is owed already
abbrev pub is_owed : List Deed → Caller → List ℕ → ℕ → Bool
is_owed d caller path n = elim (owed d caller.client path path) [ None ↦ false | Some r ↦ nat_le n r.owing.last ]

abbrev pub sync_opened : List Deed → Caller → Opening → List ℕ → ℕ → Step
sync_opened d caller o path n =
    if nat_lt o.base n && not (is_owed d caller path n)
    then does (Owe (record { client = caller.client; path = path; from = path; first = o.base + 1; last = n })
    ∷ []) (sync_row d caller path n (codes "owed") (size_of d path n))
    else nothing

abbrev pub sync_to : Bool → List Deed → Caller → FileArgument → List ℕ → Choice → Step
sync_to again d caller argument path PassedOver = nothing
sync_to again d caller argument path (At n) = elim (opened d caller.client path) [
  | Some o ↦ sync_opened d caller o path n
  | None ↦ sync_have again d caller path (wanted_rev d caller argument path n)
]

abbrev pub sync_file : Bool → List Deed → Caller → FileArgument → List ℕ → Step
sync_file again d caller argument path =
    unless (right_refusal to_read d caller path ∷ []) (sync_to again d caller argument path (chosen d caller path argument.spec.wanted))

-- with -n the rows are told and nothing changes
abbrev pub shows_alone : Bool → Step → Step
shows_alone true step = tells step.rows
shows_alone false step = step

abbrev pub sync : List Deed → Caller → Bool → Bool → List FileArgument → Step
sync d caller again shows arguments =
    within_files (shows_alone shows (over_all (named false d caller (submitted d)) no_file (sync_file again d caller) arguments))
