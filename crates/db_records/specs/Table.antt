-- The tables and their numbers. The tables are those of the Helix Core database schema reference that a depot of this server
-- has; their numbers and their order are this project's own choice.
use Rattle.std.specs.Prelude.{ℕ, List, [], ◌∷◌}
use Rattle.db_records.specs.declared.table.TableId.{TableId}
use Rattle.db_records.specs.declared.table.TableId.TheVariants.{Counter, Group, Protect, Domain, Have, Label, Integed, Resolve, Working, Change, Rev}

abbrev pub table_number : TableId → ℕ
table_number Counter = 0
table_number Group = 1
table_number Protect = 2
table_number Domain = 3
table_number Have = 4
table_number Label = 5
table_number Integed = 6
table_number Resolve = 7
table_number Working = 8
table_number Change = 9
table_number Rev = 10

-- the tables, in the order of their numbers
abbrev pub all_tables : List TableId
all_tables = Counter ∷ Group ∷ Protect ∷ Domain ∷ Have ∷ Label ∷ Integed ∷ Resolve ∷ Working ∷ Change ∷ Rev ∷ []
