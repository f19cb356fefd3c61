-- The rows of a table after the entries that touch its lane.
use Rattle.std.proofs.Common.{◌≡◌, ◌≤◌, ◌==◌, ℕ, zero, suc, Bool, true, false, List, [], ◌∷◌, ◌++◌, length, if◌then◌else◌, refl, sym, ap, ◌∙◌, subst, arith}
use mathlib.Core.List.{IsPrefix}
use Rattle.std.specs.List.{AllByRecursion}
use Rattle.depot_model.specs.db_records.Table.{table_number}
use Rattle.depot_model.specs.db_records.Record.{table_of}
use Rattle.depot_model.specs.db_records.declared.change.Change.{Change}
use Rattle.depot_model.specs.db_records.declared.record.Record.{Record}
use Rattle.depot_model.specs.db_records.declared.table.TableId.{TableId}
use Rattle.order_words.specs.Lanes.{has_lane, last_touch, last_with_first}
use Rattle.order_words.proofs.Touches.{last_touch_within}
use Rattle.table_changes.specs.table_store.Rows.{changed_once}
use Rattle.table_changes.specs.Changed.{AllRows, changed_in, changed_by}
use Rattle.locked_tables.specs.Known.{KnowsLane}
use Rattle.locked_tables.specs.Taken.{TouchesItsTables, changes_of, lanes_of, rows_after, rows_behind}
use Rattle.locked_tables.specs.declared.taken.Taken.{Taken}

pub none_behind : (b : Bool) (n : ℕ) → last_with_first b n ≡ 0 → (b ≡ false) × (n ≡ 0)
none_behind true zero e = absurd (omega arith)
none_behind true (suc n) e = absurd (omega arith)
none_behind false zero e = (refl, refl)
none_behind false (suc n) e = absurd (omega arith)

within_behind : (b : Bool) (n m : ℕ) → last_with_first b n ≤ suc m → n ≤ m
within_behind true zero m h = omega arith
within_behind false zero m h = omega arith
within_behind true (suc n) m h = omega arith
within_behind false (suc n) m h = omega arith

-- no entry of the rest touches the lane, where none behind the first list does
pub none_past : (lane : ℕ) (xs rest : List Taken) → last_touch lanes_of lane (xs ++ rest) ≤ length xs → last_touch lanes_of lane rest ≡ 0
none_past lane [] rest h = omega arith
none_past lane (x ∷ xs) rest h = none_past lane xs rest (within_behind (has_lane x.lanes lane) (last_touch lanes_of lane (xs ++ rest)) (length xs) h)

-- nor does one of the rest, where the lane's last place is known
pub past_known : (lane : ℕ) (known order : List Taken) → (knows : KnowsLane lane known order) → last_touch lanes_of lane knows.begins.0 ≡ 0
past_known lane known order knows =
    let short = last_touch_within lanes_of lane known in
    let last = knows.last in
    none_past lane known knows.begins.0 (subst (λ (l : List Taken). last_touch lanes_of lane l ≤ length known) (sym knows.begins.1) (omega arith))

changed_append : (xs ys : List Change) (rows : AllRows) → changed_by rows (xs ++ ys) ≡ changed_by (changed_by rows xs) ys
changed_append [] ys rows = refl
changed_append (x ∷ xs) ys rows = changed_append xs ys (changed_in rows x)

module _ (table : TableId) where
  -- what changes leave in a table depends on its rows alone
  pub changed_alike : (changes : List Change) (rows other : AllRows) → rows table ≡ other table → changed_by rows changes table ≡ changed_by other changes table
  changed_alike [] rows other e = e
  changed_alike (change ∷ changes) rows other e = changed_alike changes (changed_in rows change) (changed_in other change)
      (ap (λ (r : List Record). if table_number table == table_number (table_of change.row) then changed_once r change else r) e)

  behind_alike : (taken : Taken) (rows other : AllRows) → rows table ≡ other table → rows_behind rows taken table ≡ rows_behind other taken table
  behind_alike taken rows other e = λ i. if has_lane taken.lanes (table_number table) then changed_alike taken.changes rows other e i else e i

  after_alike : (order : List Taken) (rows other : AllRows) → rows table ≡ other table → rows_after rows order table ≡ rows_after other order table
  after_alike [] rows other e = e
  after_alike (taken ∷ order) rows other e = after_alike order (rows_behind rows taken) (rows_behind other taken) (behind_alike taken rows other e)

  pub after_append : (xs ys : List Taken) (rows : AllRows) → rows_after rows (xs ++ ys) ≡ rows_after (rows_after rows xs) ys
  after_append [] ys rows = refl
  after_append (x ∷ xs) ys rows = after_append xs ys (rows_behind rows x)

  untouched : (order : List Taken) (rows : AllRows) → last_touch lanes_of (table_number table) order ≡ 0 → rows_after rows order table ≡ rows table
  untouched [] rows e = refl
  untouched (taken ∷ order) rows e =
      let h = none_behind (has_lane taken.lanes (table_number table)) (last_touch lanes_of (table_number table) order) e in
      untouched order (rows_behind rows taken) h.1 ∙ ap (λ (b : Bool). if b then changed_by rows taken.changes table else rows table) h.0

  -- places behind some of which none touches the table leave the same rows
  rows_past : (rows : AllRows) (xs ys : List Taken) → (p : IsPrefix xs ys) → last_touch lanes_of (table_number table) p.0 ≡ 0 → rows_after rows ys table ≡ rows_after rows xs table
  rows_past rows xs ys p e = ap (λ (l : List Taken). rows_after rows l table) (sym p.1) ∙ (ap (λ (r : AllRows). r table) (after_append xs p.0 rows) ∙ untouched p.0 (rows_after rows xs) e)

  -- two beginnings with the same last touching place leave the same rows
  pub rows_kept : (rows : AllRows) (xs ys : List Taken) → IsPrefix xs ys → last_touch lanes_of (table_number table) ys ≡ last_touch lanes_of (table_number table) xs → rows_after rows ys table ≡ rows_after rows xs table
  rows_kept rows xs ys p e = rows_past rows xs ys p (past_known (table_number table) xs ys (record { begins = p; last = e }))

  -- so does a beginning behind which is no touching place
  pub rows_within : (rows : AllRows) (xs ys : List Taken) → IsPrefix xs ys → last_touch lanes_of (table_number table) ys ≤ length xs → rows_after rows ys table ≡ rows_after rows xs table
  rows_within rows xs ys p low = rows_past rows xs ys p (none_past (table_number table) xs p.0 (subst (λ (l : List Taken). last_touch lanes_of (table_number table) l ≤ length xs) (sym p.1) low))

  -- one more entry that touches the table leaves what its changes do
  pub rows_placed : (rows : AllRows) (xs : List Taken) (taken : Taken) → has_lane taken.lanes (table_number table) ≡ true → rows_after rows (xs ++ taken ∷ []) table ≡ changed_by (rows_after rows xs) taken.changes table
  rows_placed rows xs taken is =
      ap (λ (r : AllRows). r table) (after_append xs (taken ∷ []) rows) ∙ ap (λ (b : Bool). if b then changed_by (rows_after rows xs) taken.changes table else rows_after rows xs table) is

  -- so does one that touches a table of which all places are known that touch it
  pub rows_next : (rows : AllRows) (known order : List Taken) (taken : Taken) → IsPrefix known order → last_touch lanes_of (table_number table) order ≡ last_touch lanes_of (table_number table) known
      → has_lane taken.lanes (table_number table) ≡ true → rows_after rows (order ++ taken ∷ []) table ≡ changed_by (rows_after rows known) taken.changes table
  rows_next rows known order taken begins same is =
      rows_placed rows order taken is ∙ changed_alike taken.changes (rows_after rows order) (rows_after rows known) (rows_kept rows known order begins same)

  behind_changed : (b : Bool) (taken : Taken) (rows : AllRows) → has_lane taken.lanes (table_number table) ≡ b → TouchesItsTables taken → rows_behind rows taken table ≡ changed_by rows taken.changes table
  behind_changed true taken rows e only = ap (λ (c : Bool). if c then changed_by rows taken.changes table else rows table) e
  behind_changed false taken rows e only = ap (λ (c : Bool). if c then changed_by rows taken.changes table else rows table) e ∙ sym (only table e rows)

  -- one more entry that touches the tables that it changes leaves what its changes do
  pub rows_behind_all : (rows : AllRows) (xs : List Taken) (taken : Taken) → TouchesItsTables taken → rows_after rows (xs ++ taken ∷ []) table ≡ changed_by (rows_after rows xs) taken.changes table
  rows_behind_all rows xs taken only =
      ap (λ (r : AllRows). r table) (after_append xs (taken ∷ []) rows) ∙ behind_changed (has_lane taken.lanes (table_number table)) taken (rows_after rows xs) refl only

  -- the rows after entries that touch the tables that they change are those after all changes
  pub rows_changed : (order : List Taken) (rows : AllRows) → AllByRecursion TouchesItsTables order → rows_after rows order table ≡ changed_by rows (changes_of order) table
  rows_changed [] rows all = refl
  rows_changed (taken ∷ order) rows all =
      after_alike order (rows_behind rows taken) (changed_by rows taken.changes) (behind_changed (has_lane taken.lanes (table_number table)) taken rows refl all.0)
      ∙ rows_changed order (changed_by rows taken.changes) all.1
      ∙ sym (ap (λ (r : AllRows). r table) (changed_append taken.changes (changes_of order) rows))
