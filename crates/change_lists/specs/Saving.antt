-- How a change is saved: by what it is refused, in parts of their order, and what is done (Command-Line Reference, "p4 change", option -i).
use Rattle.std.specs.Prelude.{ℕ, ◌+◌, List, [], ◌∷◌, codes, filter_map, length, map, nat_lt, Option, Some, None, option_and_then, option_map, unwrap_or}
use Rattle.std.specs.Option.{option_to_list}
use Rattle.depot_rows.specs.depot_path.Path.{printed}
use Rattle.depot_rows.specs.db_records.declared.rows.WorkingRecord.{WorkingRecord}
use Rattle.depot_rows.specs.depot_model.declared.refusal.Limit.TheVariants.{Text, Change, Files}
use Rattle.depot_rows.specs.depot_model.declared.refusal.Refusal.{Refusal}
use Rattle.depot_rows.specs.depot_model.declared.refusal.Refusal.TheVariants.{NotOpen, OverLimit}
use Rattle.depot_rows.specs.depot_model.declared.reply.Row.{Row}
use Rattle.depot_rows.specs.depot_model.declared.request.Caller.{Caller}
use Rattle.depot_rows.specs.depot_model.declared.request.Request.{Request}
use Rattle.depot_rows.specs.depot_model.Deeds.{Deed, Opening, Pend}
use Rattle.depot_rows.specs.depot_model.Numbers.{top}
use Rattle.depot_rows.specs.depot_model.Opened.{opened}
use Rattle.depot_rows.specs.depot_model.Rows.{number_field, row, text_field}
use Rattle.depot_rows.specs.depot_model.Step.{Step, does, refuse_if, unless}
use Rattle.depot_rows.specs.depot_model.Steps.Changing.{moved_to, not_open}
use Rattle.depot_rows.specs.depot_model.Steps.Opening.{change_refusal}
use Rattle.depot_rows.specs.declared.deed.Opening.{Opening as DeedOpening}
use Rattle.depot_rows.specs.declared.deed.Pending.{Pending as DeedPending}
use Rattle.opening_reads.specs.Read.{opening_in_row}

-- the opening of a row, and of a file, in another change
abbrev pub moved_row : List ℕ → List ℕ → ℕ → WorkingRecord → DeedOpening
moved_row client path n r = opening_in_row client path r (Some n) None

abbrev pub in_other : ℕ → Opening → Opening
in_other n o = record o { change = n }

abbrev pub moved_in : List Deed → List ℕ → ℕ → List ℕ → List Opening
moved_in d client n path = option_to_list (option_map (in_other n) (opened d client path))

-- the change as it is pending
abbrev pub pending_deed : Request → List ℕ → ℕ → DeedPending
pending_deed request text n = record { change = n; user = request.caller.user; client = request.caller.client; moment = request.moment; text = text }

abbrev pub saved_row : ℕ → Row
saved_row n = row (number_field (codes "Change") n ∷ text_field (codes "action") (codes "saved") ∷ [])

-- a change with this text and these files
abbrev pub saved_by : List Deed → Request → List ℕ → ℕ → List (List ℕ) → Step
saved_by d request text n paths = does (
    Pend (record { change = n; user = request.caller.user; client = request.caller.client; moment = request.moment; text = text })
    ∷ filter_map (moved_to n d request.caller) paths)
    (saved_row n)

-- the limits of the text, of the number and of the files
abbrev pub limit_refusals : ℕ → ℕ → ℕ → List (Option Refusal)
limit_refusals text n files =
    refuse_if (nat_lt 65536 text) (OverLimit Text) ∷ refuse_if (nat_lt 2147483647 n) (OverLimit Change) ∷ refuse_if (nat_lt 10000 files) (OverLimit Files) ∷ []

-- the change that is named, and files that aren't opened
abbrev pub file_refusals : List Deed → Caller → Option ℕ → List (List ℕ) → List (Option Refusal)
file_refusals d caller number paths = option_and_then (change_refusal d caller) number ∷ map (not_open d caller) paths

abbrev pub not_open_in : List ℕ → Option WorkingRecord → Option Refusal
not_open_in path None = Some (NotOpen (printed path))
not_open_in path (Some r) = None

-- what is done where the change and the files aren't refused
abbrev pub with_limits : List Deed → Request → Option ℕ → List ℕ → List (List ℕ) → Step
with_limits d request number text paths =
    let n = unwrap_or number (top d + 1) in
    unless (limit_refusals (length text) n (length paths)) (saved_by d request text n paths)
