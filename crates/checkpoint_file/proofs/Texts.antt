-- Rows that have a text: those that files hold, and those after changes that have one.
use Rattle.std.proofs.Common.{Bool, true, false, List, [], ◌∷◌, ◌++◌, sym, subst}
use Rattle.std.specs.Prelude.{◌==◌, filter, if◌then◌else◌}
use Rattle.std.specs.List.{AllByRecursion}
use Rattle.depot_rows.specs.db_records.Record.{key_of, table_of}
use Rattle.depot_rows.specs.db_records.Table.{all_tables, table_number}
use Rattle.depot_rows.specs.db_records.declared.change.Change.{Change}
use Rattle.depot_rows.specs.db_records.declared.change.Op.{Op}
use Rattle.depot_rows.specs.db_records.declared.change.Op.TheVariants.{Put, Replace, Remove}
use Rattle.depot_rows.specs.db_records.declared.record.Record.{Record}
use Rattle.depot_rows.specs.db_records.declared.table.TableId.{TableId}
use Rattle.disk_journal.specs.Images.{Committed}
use Rattle.journal_groups.specs.Groups.{AreRecords, IsGroup}
use Rattle.record_text.specs.Grammar.{IsRecord}
use Rattle.recovery.specs.Holding.{HasAllRows, joined}
use Rattle.depot_rows.specs.table_changes.Changed.{AllRows, changed_by, changed_in, no_rows}
use Rattle.depot_rows.specs.table_store.Rows.{changed_once, is_above, is_below, left_by}
use Rattle.checkpoint_file.specs.Checkpoint.{puts, puts_in, puts_of}

abbrev HaveTexts : List Record → Type 0
HaveTexts rows = AllByRecursion IsRecord rows

-- each row of each table has a text
abbrev pub AllHaveTexts : AllRows → Type 0
AllHaveTexts rows = (table : TableId) → HaveTexts (rows table)

texts_joined : (xs ys : List Record) → HaveTexts xs → HaveTexts ys → HaveTexts (xs ++ ys)
texts_joined [] ys first second = second
texts_joined (x ∷ xs) ys first second = (first.0, texts_joined xs ys first.1 second)

texts_filtered : (test : Record → Bool) (rows : List Record) → HaveTexts rows → HaveTexts (filter test rows)
texts_filtered test [] have = tt
texts_filtered test (row ∷ rows) have = pick (test row) (texts_filtered test rows have.1)
  where
    pick : (b : Bool) → HaveTexts (filter test rows) → HaveTexts (if b then row ∷ filter test rows else filter test rows)
    pick true rest = (have.0, rest)
    pick false rest = rest

left_text : (op : Op) (row : Record) → IsRecord row → HaveTexts (left_by op row)
left_text Put row is = (is, tt)
left_text Replace row is = (is, tt)
left_text Remove row is = tt

once_texts : (rows : List Record) (change : Change) → HaveTexts rows → IsRecord change.row → HaveTexts (changed_once rows change)
once_texts rows change have is =
    texts_joined (filter (is_below (key_of change.row)) rows) _ (texts_filtered (is_below (key_of change.row)) rows have)
    (texts_joined (left_by change.op change.row) _ (left_text change.op change.row is) (texts_filtered (is_above (key_of change.row)) rows have))

pub changed_texts : (rows : AllRows) (changes : List Change) → AllHaveTexts rows → AreRecords changes → AllHaveTexts (changed_by rows changes)
changed_texts rows [] have are = have
changed_texts rows (change ∷ changes) have are = changed_texts (changed_in rows change) changes once are.1
  where
    once : AllHaveTexts (changed_in rows change)
    once table = pick (table_number table == table_number (table_of change.row))
      where
        pick : (b : Bool) → HaveTexts (if b then changed_once (rows table) change else rows table)
        pick true = once_texts (rows table) change (have table) are.0
        pick false = have table

records_joined : (xs ys : List Change) → AreRecords xs → AreRecords ys → AreRecords (xs ++ ys)
records_joined [] ys first second = second
records_joined (x ∷ xs) ys first second = (first.0, records_joined xs ys first.1 second)

joined_records : (groups : List (List Change)) → AllByRecursion IsGroup groups → AreRecords (joined groups)
joined_records [] are = tt
joined_records (g ∷ groups) are = records_joined g (joined groups) are.0.0 (joined_records groups are.1)

-- the rows that files hold
pub held_texts : (was : Committed) (rows : AllRows) → HasAllRows was rows → AllHaveTexts rows
held_texts was rows has table =
    subst HaveTexts (sym (has.rows_are table))
    (changed_texts no_rows (has.puts ++ joined has.groups) (λ table. tt) (records_joined has.puts (joined has.groups) has.are.are_groups.0.0 (joined_records has.groups has.are.are_groups.1)) table)

puts_records : (rows : List Record) → HaveTexts rows → AreRecords (puts rows)
puts_records [] have = tt
puts_records (row ∷ rows) have = (have.0, puts_records rows have.1)

in_tables : (rows : AllRows) (tables : List TableId) → AllHaveTexts rows → AreRecords (puts_in rows tables)
in_tables rows [] have = tt
in_tables rows (t ∷ tables) have = records_joined (puts (rows t)) (puts_in rows tables) (puts_records (rows t) (have t)) (in_tables rows tables have)

pub all_records : (rows : AllRows) → AllHaveTexts rows → AreRecords (puts_of rows)
all_records rows have = in_tables rows all_tables have

-- What is committed has rows with a text, and so have those after changes that have one.
pub next_records : (was : Committed) (rows : AllRows) (changes : List Change) → HasAllRows was rows → AreRecords changes → AreRecords (puts_of (changed_by rows changes))
next_records was rows changes has are = all_records (changed_by rows changes) (changed_texts rows changes (held_texts was rows has) are)
