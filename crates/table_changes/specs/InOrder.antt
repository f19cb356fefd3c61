-- Drafts of all tables in the order of the tables' numbers. That they stand so is this project's own choice.
use Rattle.std.specs.Prelude.{ℕ, List, [], map, slice_index_or}
use Rattle.table_store.specs.db_records.Table.{table_number, all_tables}
use Rattle.table_store.specs.db_records.declared.table.TableId.{TableId}
use Rattle.table_store.specs.Rows.{TableRows}

abbrev pub all_numbers : List ℕ
all_numbers = map table_number all_tables

-- the numbers of the drafts' tables
abbrev pub numbers_of : List TableRows → List ℕ
numbers_of drafts = map (λ draft. table_number draft.table) drafts

-- the draft of a table
abbrev pub draft_at : List TableRows → TableId → TableRows
draft_at drafts table = slice_index_or drafts (table_number table) (record { table = table; rows = [] })
