-- Where rows stand in an order: by their marks, where the order goes by them, and then by their keys. Which orders there are is this
-- project's own choice.
use Rattle.std.specs.Prelude.{◌≡◌, ℕ, ◌+◌, ◌<◌, ◌≤◌, Bool, not, List, [], ◌∷◌, ◌++◌, length, take, drop, Option, Some, None, slice_index_or}
use Rattle.std.specs.List.{filter, find}
use Rattle.std.specs.Option.{option_cmp}
use Rattle.std.specs.Ordering.{nat_cmp, ordering_then, is_lt, is_eq, is_gt}
use Rattle.std.specs.Cmp.Lexicographic.{slice_cmp}
use Rattle.std.specs.declared.cmp.Ordering.{Ordering}
use Rattle.std.specs.declared.cmp.Ordering.TheVariants.{Less, Equal, Greater}
use Rattle.db_records.specs.declared.key.Key.{Key}
use Rattle.db_records.specs.declared.record.Record.{Record}
use Rattle.db_records.specs.declared.change.Op.{Op}
use Rattle.db_records.specs.declared.change.Op.TheVariants.{Put, Replace, Remove}
use Rattle.db_records.specs.Key.{key_cmp}
use Rattle.db_records.specs.Record.{key_of}

-- what a row is sought by beside its key: a changelist by its number, a client or a user by the name, and for a fix a changelist by its digits
pub data Mark : Type 0 where
  OfChange : ℕ → Mark
  OfClient : List ℕ → Mark
  OfUser : List ℕ → Mark
  OfFix : List ℕ → Mark

-- marks stand by their kinds, then by their numbers or by the bytes of their names or digits
abbrev pub mark_text : Mark → List ℕ
mark_text (OfChange change) = 0 ∷ change ∷ []
mark_text (OfClient client) = 1 ∷ client
mark_text (OfUser user) = 2 ∷ user
mark_text (OfFix change) = 3 ∷ change

abbrev pub mark_cmp : Mark → Mark → Ordering
mark_cmp a b = slice_cmp nat_cmp (mark_text a) (mark_text b)

-- a place in an order of rows; one without a key is before all with its mark
pub record Place : Type 0 where
  pub mark : Option Mark
  pub key : Option Key

abbrev pub place_cmp : Place → Place → Ordering
place_cmp a b = ordering_then (option_cmp mark_cmp a.mark b.mark) (option_cmp key_cmp a.key b.key)

-- the place of a key, and of a row, in the order of keys
abbrev pub at_key : Key → Place
at_key key = record { mark = None; key = Some key }

abbrev pub by_key : Record → Place
by_key row = record { mark = None; key = Some (key_of row) }

-- the row that a change leaves at its key
abbrev pub left_by : Op → Record → List Record
left_by Put row = row ∷ []
left_by Replace row = row ∷ []
left_by Remove row = []

-- the row is the first of the rows
abbrev pub IsFirst : Record → List Record → Type 0
IsFirst first [] = ⊥
IsFirst first (row ∷ rows) = first ≡ row

-- rows in an order
module _ (place : Record → Place) where
  -- where a row stands by a place
  abbrev pub stands_below : Place → Record → Bool
  stands_below at row = is_lt (place_cmp (place row) at)

  abbrev pub stands_at : Place → Record → Bool
  stands_at at row = is_eq (place_cmp (place row) at)

  abbrev pub stands_above : Place → Record → Bool
  stands_above at row = is_gt (place_cmp (place row) at)

  abbrev pub AllStandBelow : Place → List Record → Type 0
  AllStandBelow at [] = Unit {0}
  AllStandBelow at (row ∷ rows) = (place_cmp (place row) at ≡ Less) × AllStandBelow at rows

  abbrev pub AllStandAbove : Place → List Record → Type 0
  AllStandAbove at [] = Unit {0}
  AllStandAbove at (row ∷ rows) = (place_cmp (place row) at ≡ Greater) × AllStandAbove at rows

  -- the places rise
  abbrev pub StandsRising : List Record → Type 0
  StandsRising [] = Unit {0}
  StandsRising (row ∷ rows) = AllStandAbove (place row) rows × StandsRising rows

  -- the row that stands at the place
  abbrev pub standing_at : Place → List Record → Option Record
  standing_at at rows = find (stands_at at) rows

  -- the rows from the first at or above the place
  abbrev pub standing_from : Place → List Record → List Record
  standing_from at rows = filter (λ row. not (stands_below at row)) rows

  -- the rows after a change of the row at the place of one: those below, what it leaves there, and those above
  abbrev pub placed_once : List Record → Op → Record → List Record
  placed_once rows op row = filter (stands_below (place row)) rows ++ (left_by op row ++ filter (stands_above (place row)) rows)

  -- ---- pages

  pub record IsPage (rows : List Record) : Type 0 where
    pub filled : 0 < length rows
    pub short : length rows ≤ 64
    pub rising : StandsRising rows

  -- the order of the first row's place and the place
  abbrev pub first_order : List Record → Place → Ordering
  first_order [] at = Less
  first_order (row ∷ rows) at = place_cmp (place row) at

  -- the row at index i stands at the place
  pub record IsAt (at : Place) (rows : List Record) (i : ℕ) : Type 0 where
    pub in_range : i < length rows
    pub below : AllStandBelow at (take i rows)
    pub same : (d : Record) → place_cmp (place (slice_index_or rows i d)) at ≡ Equal
    pub above : AllStandAbove at (drop (i + 1) rows)

  -- a row of the place would go to index i
  pub record IsGap (at : Place) (rows : List Record) (i : ℕ) : Type 0 where
    pub in_range : i ≤ length rows
    pub below : AllStandBelow at (take i rows)
    pub above : AllStandAbove at (drop i rows)

  -- the first `before` rows are those below the place, and those from index `after` on are above it
  pub record IsCut (at : Place) (rows : List Record) (before after : ℕ) : Type 0 where
    pub in_order : before ≤ after
    pub in_range : after ≤ length rows
    pub below : filter (stands_below at) rows ≡ take before rows
    pub above : filter (stands_above at) rows ≡ drop after rows
