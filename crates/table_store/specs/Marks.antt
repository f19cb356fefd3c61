-- What rows are sought by beside their keys: a revision by its changelist, an opening by its client, a user of a group by the user, a fix by the
-- digits of its changelist. Rows stand a second time in the order of these marks and then of their keys. Which marks there are is this project's
-- own choice.
use Rattle.std.specs.Prelude.{ℕ, Bool, false, ◌==◌, ◌&&◌, if◌then◌else◌, codes, drop, List, [], ◌∷◌, ◌++◌, Option, Some, None, IsSome}
use Rattle.db_records.specs.depot_path.Bytes.{same}
use Rattle.db_records.specs.declared.key.Key.{Key}
use Rattle.db_records.specs.declared.record.Record.{Record}
use Rattle.db_records.specs.declared.record.Record.TheVariants as rows
use Rattle.db_records.specs.declared.rows.DomainRecord.{DomainRecord}
use Rattle.db_records.specs.Record.{key_of}
use Rattle.table_store.specs.Places.{Mark, OfChange, OfClient, OfUser, OfFix, Place, standing_at}
use Rattle.table_store.specs.Rows.{row_at, rows_from}

-- a fix is a form; the digits of its changelist stand behind the name of the job, which has nine bytes, and a space
abbrev pub is_fix : DomainRecord → Bool
is_fix row = same (codes "fix") row.kind

abbrev pub fixing : DomainRecord → List ℕ
fixing row = drop 10 row.name

-- the mark of a row, where it has one
abbrev pub mark_of : Record → Option Mark
mark_of (rows.Rev row) = Some (OfChange row.change)
mark_of (rows.Working row) = Some (OfClient row.client)
mark_of (rows.Group row) = Some (OfUser row.user)
mark_of (rows.Domain row) = if is_fix row then Some (OfFix (fixing row)) else None
mark_of _ = None

-- a row that has the mark
abbrev pub is_of : Mark → Record → Bool
is_of (OfChange change) (rows.Rev row) = row.change == change
is_of (OfClient client) (rows.Working row) = same row.client client
is_of (OfUser user) (rows.Group row) = same row.user user
is_of (OfFix change) (rows.Domain row) = is_fix row && same (fixing row) change
is_of _ _ = false

-- a revision that a changelist made
abbrev pub is_of_change : ℕ → Record → Bool
is_of_change change row = is_of (OfChange change) row

-- an opening of a client
abbrev pub is_of_client : List ℕ → Record → Bool
is_of_client client row = is_of (OfClient client) row

-- a user's place in a group
abbrev pub is_of_user : List ℕ → Record → Bool
is_of_user user row = is_of (OfUser user) row

-- a fix by a changelist, which is given by its digits
abbrev pub is_fix_of : List ℕ → Record → Bool
is_fix_of change row = is_of (OfFix change) row

-- where a row stands in the order of marks
abbrev pub by_mark : Record → Place
by_mark row = record { mark = mark_of row; key = Some (key_of row) }

-- a row with a mark stands among the marked ones, by its place
abbrev pub HasPlace : List Record → Record → Type 0
HasPlace marked row = IsSome (mark_of row) → IsSome (standing_at by_mark (by_mark row) marked)

-- so do all rows; among the marked ones there may be others too, that are gone or have another mark now
abbrev pub AllHavePlaces : List Record → List Record → Type 0
AllHavePlaces marked [] = Unit {0}
AllHavePlaces marked (row ∷ rows) = HasPlace marked row × AllHavePlaces marked rows

-- the first rows, as long as they pass the test
abbrev pub leading : (Record → Bool) → List Record → List Record
leading test [] = []
leading test (row ∷ rows) = if test row then row ∷ leading test rows else []

-- what stands at the keys of marked rows now, where it passes the test
abbrev pub if_passed : (Record → Bool) → Option Record → List Record
if_passed test None = []
if_passed test (Some row) = if test row then row ∷ [] else []

abbrev pub rows_now : (Record → Bool) → List Record → List Record → List Record
rows_now test rows [] = []
rows_now test rows (row ∷ marked) = if_passed test (row_at (key_of row) rows) ++ rows_now test rows marked

-- the rows from a key on, or all
abbrev pub from_start : Option Key → List Record → List Record
from_start None rows = rows
from_start (Some key) rows = rows_from key rows
