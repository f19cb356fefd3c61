-- What add, edit, delete and integrate share: the change that is named, exclusive types, and other clients' openings (Command-Line Reference,
-- "p4 add", "p4 edit", "File types" on `+l`).
use Rattle.std.specs.Prelude.{ℕ, ◌==◌, List, [], ◌∷◌, ◌++◌, filter, find, codes, if◌then◌else◌, Option, Some, None, option_map, unwrap_or, is_some, Bool, false, not, ◌&&◌, ◌||◌, option_and_then}
use Rattle.db_records.specs.depot_path.Bytes.{same, is_among}
use Rattle.db_records.specs.depot_path.Path.{printed}
use Rattle.depot_model.specs.declared.request.Caller.{Caller}
use Rattle.depot_model.specs.declared.reply.Row.{Row}
use Rattle.depot_model.specs.declared.refusal.Refusal.{Refusal}
use Rattle.depot_model.specs.declared.refusal.Refusal.TheVariants.{NoSuchChange, NotYours, ExclusiveOpen, Denied}
use Rattle.depot_model.specs.Deeds.{Deed, Open, Opening, Pending, Held}
use Rattle.depot_model.specs.Latest.{keys_of, when}
use Rattle.depot_model.specs.Opened.{opened}
use Rattle.depot_model.specs.Numbers.{pending}
use Rattle.depot_model.specs.Asking.{may_at}
use Rattle.depot_model.specs.Rows.{row, path_field, number_field, text_field, action_word, if_any}
use Rattle.depot_model.specs.Step.{refuse_if}
use Rattle.depot_model.specs.Types.{modifiers}

-- the refusals of `-c N`: the change is pending, of this user and client
abbrev pub is_of : Caller → Pending → Bool
is_of caller p = same p.user caller.user && same p.client caller.client

abbrev pub change_refusal : List Deed → Caller → ℕ → Option Refusal
change_refusal d caller n = elim (pending d n) [ None ↦ Some (NoSuchChange n) | Some p ↦ refuse_if (not (is_of caller p)) (NotYours n) ]

-- N of `-c`; no change has the number 0
abbrev pub named_change_refusal : List Deed → Caller → Option ℕ → Option Refusal
named_change_refusal d caller change = option_and_then (change_refusal d caller) change

-- N of `reopen -c`, where 0 is the default
abbrev pub reopened_change_refusal : List Deed → Caller → Option ℕ → Option Refusal
reopened_change_refusal d caller change = if unwrap_or change 0 == 0 then None else change_refusal d caller (unwrap_or change 0)

-- the modifier `l` of a type
abbrev pub is_exclusive : List ℕ → Bool
is_exclusive type = is_among (modifiers type) 0x6C

-- the clients that have a file opened, by name
abbrev pub opener_of : List ℕ → Deed → Option (List ℕ)
opener_of path (Open o) = when (same o.path path) o.client
opener_of path _ = None

abbrev pub openers : List Deed → List ℕ → List (List ℕ)
openers d path = filter (λ client. is_some (opened d client path)) (keys_of (opener_of path) d)

-- another client has it opened, where that opening's type or the new one is exclusive
abbrev pub bars : List Deed → List ℕ → List ℕ → List ℕ → List ℕ → Bool
bars d path client type other = not (same other client)
    && (is_exclusive type || elim (opened d other path) [ None ↦ false | Some o ↦ is_exclusive o.file_type ])

abbrev pub barred_by : List Deed → List ℕ → List ℕ → List ℕ → Option (List ℕ)
barred_by d path client type = find (bars d path client type) (openers d path)

abbrev pub exclusive_refusal : List Deed → List ℕ → List ℕ → List ℕ → Option Refusal
exclusive_refusal d path client type = option_map (ExclusiveOpen path) (barred_by d path client type)

abbrev pub right_refusal : ℕ → List Deed → Caller → List ℕ → Option Refusal
right_refusal need d caller path = refuse_if (not (may_at d caller path need)) (Denied (printed path) need)

-- a file of the caller's client
abbrev pub held : Caller → List ℕ → Held
held caller path = record { client = caller.client; path = path }

-- the row of a file that is opened
abbrev pub opening_row : Opening → Option (List ℕ) → Row
opening_row o place = row (path_field (codes "depotFile") o.path ∷ if_any (path_field (codes "clientFile")) place
    ++ number_field (codes "workRev") o.base ∷ text_field (codes "action") (action_word o.action) ∷ text_field (codes "type") o.file_type ∷ [])
