-- The text of a checkpoint: a journal's record that puts it for each row (System Administrator Guide, "Checkpoint files"). That it is one group, whose
-- number is that of its generation, is this project's own choice.
use Rattle.std.specs.Prelude.{◌≡◌, ℕ, List, map, flat_map}
use Rattle.depot_rows.specs.db_records.Table.{all_tables}
use Rattle.depot_rows.specs.db_records.declared.change.Change.{Change}
use Rattle.depot_rows.specs.db_records.declared.change.Op.TheVariants.{Put}
use Rattle.depot_rows.specs.db_records.declared.record.Record.{Record}
use Rattle.depot_rows.specs.db_records.declared.table.TableId.{TableId}
use Rattle.journal_groups.specs.Groups.{IsGroup, group_text}
use Rattle.depot_rows.specs.table_changes.Changed.{AllRows}
use Rattle.checkpoint_file.specs.Tables.{AreTables}

abbrev pub put : Record → Change
put row = record { op = Put; row = row }

-- the puts of some rows
abbrev pub puts : List Record → List Change
puts rows = map put rows

-- the puts of the rows of these tables
abbrev pub puts_in : AllRows → List TableId → List Change
puts_in rows tables = flat_map (λ table. puts (rows table)) tables

-- the puts of all rows, tables and keys rising
abbrev pub puts_of : AllRows → List Change
puts_of rows = puts_in rows all_tables

abbrev pub checkpoint_text : ℕ → AllRows → List ℕ
checkpoint_text generation rows = group_text generation (puts_of rows)

-- The text is that of the checkpoint of a generation with these rows of tables, each of which has a text.
pub record IsCheckpointOf (generation : ℕ) (rows : AllRows) (text : List ℕ) : Type 0 where
  pub are_tables : AreTables rows
  pub is_group : IsGroup (puts_of rows)
  pub text_is : text ≡ checkpoint_text generation rows
