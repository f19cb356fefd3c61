-- The change that makes one row of another, where a difference of nothing but the place of a content is none. This project's own choice.
use Rattle.std.specs.Prelude.{◌≡◌, ◌≢◌, List, [], ◌∷◌, ◌++◌, Option, Some, None}
use Rattle.depot_rows.specs.db_records.declared.change.Change.{Change}
use Rattle.depot_rows.specs.db_records.declared.change.Op.TheVariants.{Put, Replace, Remove}
use Rattle.depot_rows.specs.db_records.declared.key.Key.{Key}
use Rattle.depot_rows.specs.db_records.declared.record.Record.{Record}
use Rattle.depot_rows.specs.depot_model.Records.{unplaced}
use Rattle.depot_rows.specs.depot_model.Rules.{Rows}
use Rattle.row_changes.specs.Overlay.{Entries}

-- the change from a row of a key to the row after it: none exactly where they agree apart from the place; a new row is put, one that differs is
-- replaced, and one that is gone is removed as it stood
abbrev pub IsDifference : Option Record → Option Record → Option Change → Type 0
IsDifference None None change = change ≡ None
IsDifference None (Some new) change = change ≡ Some (record { op = Put; row = new })
IsDifference (Some old) None change = change ≡ Some (record { op = Remove; row = old })
IsDifference (Some old) (Some new) None = unplaced old ≡ unplaced new
IsDifference (Some old) (Some new) (Some change) = (unplaced old ≢ unplaced new) × (change ≡ record { op = Replace; row = new })

abbrev pub listed : Option Change → List Change
listed None = []
listed (Some change) = change ∷ []

-- the change of one key is added, where there is one
abbrev pub Adds : Rows → Key → Option Record → List Change → List Change → Type 0
Adds rows key after old new = (change : Option Change) × IsDifference (rows key) after change × (new ≡ old ++ listed change)

-- the changes are those that the entries make of the rows, in the entries' order
unfoldable pub AreMade : Rows → Entries → List Change → Type 0
AreMade rows [] changes = changes ≡ []
AreMade rows (entry ∷ entries) changes =
    (first : Option Change) × (rest : List Change) × IsDifference (rows entry.0) entry.1 first × (changes ≡ listed first ++ rest) × AreMade rows entries rest
