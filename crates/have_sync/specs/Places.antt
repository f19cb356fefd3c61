-- A place in a table, between rows, from which look-ups go on. This project's own choice.
use Rattle.std.specs.Prelude.{◌≡◌, Bool, true, false, not, List, [], ◌∷◌, ◌++◌, if◌then◌else◌, Option, Some, None}
use Rattle.std.specs.Option.{option_copied, option_to_list}
use Rattle.depot_rows.specs.db_records.declared.key.Key.{Key}
use Rattle.depot_rows.specs.db_records.declared.record.Record.{Record}
use Rattle.depot_rows.specs.table_store.Rows.{AllBelow, is_above, is_at, is_below}
use Rattle.have_sync.specs.declared.place.Place.{Place}

-- the rows behind it
abbrev pub left : Place → List Record
left place = option_to_list (option_copied place.next) ++ place.rest

-- the last row before it, where one is known
abbrev pub EndsWith : List Record → Option Record → Type 0
EndsWith front None = Unit {0}
EndsWith front (Some row) = (before : List Record) × (front ≡ before ++ row ∷ [])

-- these are the rows before it
pub record HasFront (front : List Record) (place : Place) : Type 0 where
  pub joined : front ++ left place ≡ place.version.now.rows
  pub ends : EndsWith front (option_copied place.passed)
  pub all : option_copied place.next ≡ None → place.rest ≡ []

pub record IsPlace (place : Place) : Type 0 where
  pub front : List Record
  pub fits : HasFront front place

-- and they are all below a key
pub record StandsBy (key : Key) (place : Place) : Type 0 where
  pub front : List Record
  pub fits : HasFront front place
  pub below : AllBelow key front

-- the rows about a place tell that all before it are below a key: the next one isn't above it, or the passed one is below it
abbrev pub has_passed : Key → Option Record → Option Record → Bool
has_passed key passed None = false
has_passed key None (Some next) = not (is_above key next)
has_passed key (Some row) (Some next) = if is_above key next then is_below key row else true

abbrev pub is_next_below : Key → Option Record → Bool
is_next_below key None = false
is_next_below key (Some row) = is_below key row

-- the row, where it has the key
abbrev pub at_key : Key → Option Record → Option Record
at_key key None = None
at_key key (Some row) = if is_at key row then Some row else None
