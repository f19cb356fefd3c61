-- Opened files, owed resolves, and who holds a file's lock (Command-Line Reference, "p4 opened", "p4 resolve", "p4 lock").
use Rattle.std.specs.Prelude.{ℕ, Bool, false, ◌&&◌, List, [], ◌∷◌, if◌then◌else◌, Option, Some, None, option_map, option_and_then, is_some}
use Rattle.std.specs.Option.{option_flatten, option_map_or}
use Rattle.db_records.specs.depot_path.Bytes.{same}
use Rattle.depot_model.specs.Deeds.{Deed, Open, Shut, Hold, Free, Owe, Paid, Opening, Owing, How}
use Rattle.depot_model.specs.Latest.{latest, when, is_held}

-- the opening, unless the file was shut since
abbrev pub opening_said : List ℕ → List ℕ → Deed → Option (Option Opening)
opening_said client path (Open o) = when (same o.client client && same o.path path) (Some o)
opening_said client path (Shut held) = when (is_held client path held) None
opening_said client path _ = None

abbrev pub opened : List Deed → List ℕ → List ℕ → Option Opening
opened d client path = option_flatten (latest (opening_said client path) d)

-- a resolve, and how it was paid, where it was
pub record Resolve : Type 0 where
  pub owing : Owing
  pub how : Option How

abbrev pub paid_by : How → Resolve → Resolve
paid_by how r = record r { how = Some how }

-- the resolve, unless the file was shut since; a payment since then is the last one's
abbrev pub owed : List Deed → List ℕ → List ℕ → List ℕ → Option Resolve
owed [] client path from = None
owed (Owe o ∷ d) client path from =
    if same o.client client && same o.path path && same o.from from then Some (record { owing = o; how = None }) else owed d client path from
owed (Paid held f how ∷ d) client path from =
    if is_held client path held && same f from then option_map (paid_by how) (owed d client path from) else owed d client path from
owed (Shut held ∷ d) client path from = if is_held client path held then None else owed d client path from
owed (_ ∷ d) client path from = owed d client path from

-- the last client that held the lock of a path which it had opened, where it neither freed nor shut it since
abbrev pub keeps : List ℕ → Option (List ℕ) → Option (List ℕ)
keeps client None = None
keeps client (Some holder) = if same holder client then None else Some holder

abbrev pub holder : List Deed → List ℕ → Option (List ℕ)
holder [] path = None
holder (Hold held ∷ d) path =
    if same held.path path then (if is_some (opened d held.client path) then Some held.client else None) else holder d path
holder (Free held ∷ d) path = if same held.path path then keeps held.client (holder d path) else holder d path
holder (Shut held ∷ d) path = if same held.path path then keeps held.client (holder d path) else holder d path
holder (_ ∷ d) path = holder d path

-- an opening that names a path as its other end
abbrev pub is_moved_with : List ℕ → Opening → Bool
is_moved_with path o = option_map_or (same path) o.moved false

-- the file at the other end of a move, where the client has it opened and it names the file back
abbrev pub named_back : List Deed → List ℕ → List ℕ → List ℕ → Option Opening
named_back d client path other = elim (opened d client other) [ None ↦ None | Some o ↦ when (is_moved_with path o) o ]

abbrev pub partner : List Deed → Opening → Option Opening
partner d o = option_and_then (named_back d o.client o.path) o.moved
