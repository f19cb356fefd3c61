-- The revisions of a file: its entries over the landed changes, the first being revision 1 (Command-Line Reference, "p4 filelog", and
-- "File specifications" on revisions). Which revisions are credited to a file is told by `p4 integrated`.
use Rattle.std.specs.Prelude.{ℕ, max, zero, suc, ◌+◌, Bool, true, false, ◌&&◌, ◌||◌, nat_le, List, [], ◌∷◌, ◌++◌, length, map, filter, slice_get, if◌then◌else◌, Option, None}
use Rattle.std.specs.List.{list_any}
use Rattle.std.specs.Option.{option_map_or}
use Rattle.db_records.specs.depot_path.Bytes.{same}
use Rattle.depot_model.specs.Deeds.{Deed, Land, Landing, Entry, Credit, Action, Delete, MoveDelete}

-- an entry with the change that made it
pub record Revision : Type 0 where
  pub landing : Landing
  pub entry : Entry

abbrev pub entries_at : List ℕ → Landing → List Revision
entries_at path landing = map (λ e. record { landing = landing; entry = e }) (filter (λ (e : Entry). same e.path path) landing.entries)

-- the revisions of a path, in the order of their numbers
abbrev pub revisions : List Deed → List ℕ → List Revision
revisions [] path = []
revisions (Land landing ∷ d) path = revisions d path ++ entries_at path landing
revisions (_ ∷ d) path = revisions d path

abbrev pub revision_in : List Revision → ℕ → Option Revision
revision_in revs zero = None
revision_in revs (suc n) = slice_get revs n

abbrev pub revision : List Deed → List ℕ → ℕ → Option Revision
revision d path n = revision_in (revisions d path) n

abbrev pub head : List Deed → List ℕ → ℕ
head d path = length (revisions d path)

abbrev pub is_live_action : Action → Bool
is_live_action Delete = false
is_live_action MoveDelete = false
is_live_action _ = true

abbrev pub is_live : Revision → Bool
is_live r = is_live_action r.entry.action

abbrev pub is_live_at : List Deed → List ℕ → ℕ → Bool
is_live_at d path n = option_map_or is_live (revision d path n) false

abbrev pub is_live_head : List Deed → List ℕ → Bool
is_live_head d path = is_live_at d path (head d path)

-- the greatest number of a revision that passes a test, 0 where none does; the first has the number n
abbrev pub last_passing : (Revision → Bool) → ℕ → List Revision → ℕ
last_passing test n [] = 0
last_passing test n (r ∷ revs) = max (if test r then n else 0) (last_passing test (n + 1) revs)

-- a credit from a path with the revision between its ends
abbrev pub credits_from : List ℕ → ℕ → Credit → Bool
credits_from path n credit = same credit.from path && nat_le credit.first n && nat_le n credit.last

abbrev pub has_credit : (Credit → Bool) → Revision → Bool
has_credit test r = list_any test r.entry.credits

-- revision n of s is credited to t
abbrev pub credited : List Deed → List ℕ → List ℕ → ℕ → Bool
credited d s t n = list_any (has_credit (credits_from s n)) (revisions d t)
    || option_map_or (has_credit (λ credit. same credit.from t)) (revision d s n) false
