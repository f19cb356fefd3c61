-- The changes of a depot, by the generations of its journal. That each group is one, and so is the beginning of each generation but the first, is this project's
-- own choice.
use Rattle.std.specs.Prelude.{ℕ, List, [], ◌∷◌, ◌++◌, map}
use Rattle.depot_rows.specs.db_records.declared.change.Change.{Change}
use Rattle.depot_rows.specs.table_changes.Changed.{AllRows, changed_by, no_rows}
use Rattle.journal_groups.specs.Groups.{groups_text}
pub use Rattle.recovery.specs.Chronicle.{Chronicle, generations_of}
use Rattle.recovery.specs.Holding.{joined}
use Rattle.replica_pull.specs.Prefix.{changes_from}

-- its changes
abbrev pub changes_of : Chronicle → List (List Change)
changes_of c = changes_from 0 (generations_of c)

-- the rows that they make
abbrev pub rows_made : Chronicle → AllRows
rows_made c = changed_by no_rows (joined (changes_of c))

-- the texts of the generations
abbrev pub texts_of : Chronicle → List (List ℕ)
texts_of c = map (groups_text 1) (generations_of c)

-- one group more
abbrev pub with_changes : Chronicle → List Change → Chronicle
with_changes c changes = record { closed = c.closed; newest = c.newest ++ changes ∷ [] }

-- the newest generation is closed, and the next one begins
abbrev pub with_beginning : Chronicle → Chronicle
with_beginning c = record { closed = generations_of c; newest = [] }
