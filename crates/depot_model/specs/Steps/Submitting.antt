-- `submit` (Command-Line Reference, "p4 submit"): all files of the change land, or none does. The order of refusals is this project's own choice.
use Rattle.std.specs.Prelude.{ℕ, ◌==◌, ◌+◌, List, [], ◌∷◌, ◌++◌, length, nat_lt, map, filter, filter_map, flat_map, find, codes, if◌then◌else◌, Option, Some, None, option_map, option_and_then, is_none, Bool, false, not, ◌&&◌, ◌||◌}
use Rattle.std.specs.Option.{option_or, option_map_or}
use Rattle.std.specs.List.{list_any}
use Rattle.db_records.specs.depot_path.Bytes.{same}
use Rattle.view_map.specs.Mapping.{path_in}
use Rattle.depot_model.specs.declared.request.Caller.{Caller}
use Rattle.depot_model.specs.declared.request.Content.{Content}
use Rattle.depot_model.specs.declared.request.Request.{Request}
use Rattle.depot_model.specs.declared.reply.Row.{Row}
use Rattle.depot_model.specs.declared.refusal.Refusal.{Refusal}
use Rattle.depot_model.specs.declared.refusal.Refusal.TheVariants.{Locked, Stale, MustResolve, NoContent, EmptyChange, OverLimit, InMove}
use Rattle.depot_model.specs.declared.refusal.Limit.TheVariants.{Text, Change, Files}
use Rattle.depot_model.specs.Deeds.{Deed, Land, Drop, Got, Shut, Owe, Opening, Entry, Credit, Landing, Pending, Source, MoveAdd, MovedFrom}
use Rattle.depot_model.specs.Revisions.{Revision, revision, head, is_live_action}
use Rattle.depot_model.specs.Opened.{opened, owed, holder, Resolve, partner, is_moved_with}
use Rattle.depot_model.specs.Numbers.{pending, top}
use Rattle.depot_model.specs.Asking.{view, to_write}
use Rattle.depot_model.specs.Arguments.{opened_by, paths_of}
use Rattle.depot_model.specs.Rows.{row, path_field, number_field, text_field, action_word}
use Rattle.depot_model.specs.Step.{Step, unless, refuse_if}
use Rattle.depot_model.specs.Steps.Opening.{right_refusal, change_refusal}
use Rattle.depot_model.specs.Fixes.{closing, fixes_of}

-- what is submitted: the caller's openings of a change, in path order
abbrev pub openings_of : List Deed → Caller → ℕ → List Opening
openings_of d caller n = filter (λ (o : Opening). o.change == n) (filter_map (opened d caller.client) (opened_by d caller.client))

-- the files from which the client owes or paid resolves of a file, in path order
abbrev pub owed_from : List ℕ → List ℕ → Deed → List (List ℕ)
owed_from client path (Owe o) = if same o.client client && same o.path path then o.from ∷ [] else []
owed_from client path _ = []

abbrev pub resolves_of : List Deed → Opening → List Resolve
resolves_of d o = filter_map (owed d o.client o.path) (paths_of (owed_from o.client o.path) d)

abbrev pub is_unpaid : Resolve → Bool
is_unpaid r = is_none r.how

-- the credits of a file: its paid resolves from other files
abbrev pub credit_of : List ℕ → Resolve → Option Credit
credit_of path r =
    if same r.owing.from path then None else option_map (λ how. record { from = r.owing.from; first = r.owing.first; last = r.owing.last; how = how }) r.how

abbrev pub credits_of : List Deed → Opening → List Credit
credits_of d o = filter_map (credit_of o.path) (resolves_of d o)

-- the content of a revision, of the source, and of the session's block for the client path of a file
abbrev pub content_at : List Deed → List ℕ → ℕ → Option (List ℕ)
content_at d path n = option_and_then (λ (r : Revision). r.entry.content) (revision d path n)

abbrev pub block_at : List Content → List ℕ → Option (List ℕ)
block_at contents path = option_map (λ (c : Content). c.bytes) (find (λ (c : Content). same c.path path) contents)

abbrev pub source_content : List Deed → Opening → Option (List ℕ)
source_content d o = option_and_then (λ (s : Source). content_at d s.path s.rev) o.source

abbrev pub block_of : List Deed → Request → List ℕ → List ℕ → Option (List ℕ)
block_of d request client path = option_and_then (block_at request.contents) (path_in (view d client) path)

-- the source is a revision of the file itself, or of the file that it was moved from
abbrev pub has_source : List ℕ → Opening → Bool
has_source path o = option_map_or (λ (s : Source). same s.path path) o.source false

abbrev pub is_moved_in : Opening → Bool
is_moved_in o = elim o.action [ MoveAdd ↦ not (has_source o.path o) | _ ↦ false ]

-- of a file that was moved: the block of its path, else that of the path it was moved from, else the source's content
abbrev pub moved_content : List Deed → Request → Opening → Option (List ℕ)
moved_content d request o =
    option_or (block_of d request o.client o.path) (option_or (option_and_then (block_of d request o.client) o.moved) (source_content d o))

-- of another: the source's content, else the block, else the base revision's content
abbrev pub own_content : List Deed → Request → Opening → Option (List ℕ)
own_content d request o = option_or (source_content d o) (option_or (block_of d request o.client o.path) (content_at d o.path o.base))

abbrev pub live_content : List Deed → Request → Opening → Option (List ℕ)
live_content d request o = if is_moved_in o then moved_content d request o else own_content d request o

abbrev pub content_of : List Deed → Request → Opening → Option (List ℕ)
content_of d request o = if is_live_action o.action then live_content d request o else None

abbrev pub lacks_content : List Deed → Request → Opening → Bool
lacks_content d request o = is_live_action o.action && is_none (content_of d request o)

-- why a file can't be submitted
abbrev pub lock_refusal : List Deed → Opening → Option Refusal
lock_refusal d o = elim (holder d o.path) [ None ↦ None | Some client ↦ refuse_if (not (same client o.client)) (Locked o.path client) ]

-- the other end of a move has to be opened in the same change, and to name the file back
abbrev pub is_in_change : ℕ → Option Opening → Bool
is_in_change n o = option_map_or (λ (p : Opening). p.change == n) o false

abbrev pub move_refusal : List Deed → Opening → Option Refusal
move_refusal d o = elim o.moved [ None ↦ None | Some other ↦ refuse_if (not (is_in_change o.change (partner d o))) (InMove o.path other) ]

abbrev pub file_refusals : List Deed → Request → Opening → List (Option Refusal)
file_refusals d request o =
    right_refusal to_write d request.caller o.path
    ∷ lock_refusal d o
    ∷ refuse_if (not (o.base == head d o.path)) (Stale o.path o.base (head d o.path))
    ∷ refuse_if (list_any is_unpaid (resolves_of d o)) (MustResolve o.path)
    ∷ move_refusal d o
    ∷ refuse_if (lacks_content d request o) (NoContent o.path)
    ∷ []

-- the number under which change N lands, 0 for the default
abbrev pub landing_number : List Deed → ℕ → ℕ
landing_number d n = if not (n == 0) && (n == top d) then n else top d + 1

-- a file that was moved takes in the revision of the path that it was moved from
abbrev pub move_credit : Opening → Source → Option Credit
move_credit o s = if is_moved_with s.path o then Some (record { from = s.path; first = s.rev; last = s.rev; how = MovedFrom }) else None

abbrev pub move_credits : Opening → List Credit
move_credits o = elim o.action [ MoveAdd ↦ elim (option_and_then (move_credit o) o.source) [ None ↦ [] | Some c ↦ c ∷ [] ] | _ ↦ [] ]

abbrev pub entry_of : List Deed → Request → Opening → Entry
entry_of d request o = record {
  path = o.path;
  action = o.action;
  file_type = o.file_type;
  content = content_of d request o;
  credits = credits_of d o ++ move_credits o;
  moved = o.moved;
}

abbrev pub landing_of : List Deed → Request → ℕ → List ℕ → List Opening → Landing
landing_of d request n text openings = record {
  change = landing_number d n;
  user = request.caller.user;
  client = request.caller.client;
  moment = request.moment;
  text = text;
  entries = map (entry_of d request) openings;
}

abbrev pub new_have : List Deed → Opening → ℕ
new_have d o = if is_live_action o.action then head d o.path + 1 else 0

abbrev pub got_and_shut : List Deed → Opening → List Deed
got_and_shut d o = Got (record { client = o.client; path = o.path }) (new_have d o) ∷ Shut (record { client = o.client; path = o.path }) ∷ []

abbrev pub dropped : List Deed → ℕ → List Deed
dropped d n = if (n == 0) || (n == landing_number d n) then [] else Drop n ∷ []

abbrev pub file_row : List Deed → Opening → Row
file_row d o =
    row (path_field (codes "depotFile") o.path ∷ number_field (codes "rev") (head d o.path + 1)
    ∷ text_field (codes "action") (action_word o.action) ∷ [])

abbrev pub landed : List Deed → Request → ℕ → List ℕ → List Opening → Step
landed d request n text openings = record {
  deeds =
      Land (landing_of d request n text openings) ∷ dropped d n ++ flat_map (got_and_shut d) openings
      ++ flat_map (closing d n (landing_number d n)) (fixes_of d n);
  rows = map (file_row d) openings ++ row (number_field (codes "submittedChange") (landing_number d n) ∷ []) ∷ [];
}

abbrev pub submit : List Deed → Request → ℕ → List ℕ → Step
submit d request n text =
    let openings = openings_of d request.caller n in
    unless (
    refuse_if (length openings == 0) (EmptyChange n)
    ∷ refuse_if (nat_lt 65536 (length text)) (OverLimit Text)
    ∷ flat_map (file_refusals d request) openings
    ++ refuse_if (nat_lt 2147483647 (landing_number d n)) (OverLimit Change)
    ∷ refuse_if (nat_lt 10000 (length openings)) (OverLimit Files)
    ∷ [])
    (landed d request n text openings)

abbrev pub submit_default : List Deed → Request → List ℕ → Step
submit_default d request text = submit d request 0 text

abbrev pub submit_change : List Deed → Request → ℕ → Step
submit_change d request n =
    unless (change_refusal d request.caller n ∷ []) (submit d request n (option_map_or (λ (p : Pending). p.text) (pending d n) []))
