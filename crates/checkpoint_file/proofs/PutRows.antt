-- What the puts of rows leave where there are none: these rows.
use Rattle.std.proofs.Common.{◌≡◌, ◌≢◌, ◌⊎◌, ℕ, suc, ◌<◌, ◌≤◌, Bool, true, false, List, [], ◌∷◌, ◌++◌, inl, inr, refl, sym, ap, subst, ◌∙◌, append_assoc, arith}
use Rattle.std.proofs.lemmas.Bool.Decides.{nat_tests}
use Rattle.std.proofs.lemmas.List.{append-nil}
use Rattle.std.specs.Prelude.{◌==◌, if◌then◌else◌}
use Rattle.std.specs.List.{AllByRecursion, flat_map}
use Rattle.depot_rows.specs.db_records.Record.{table_of}
use Rattle.depot_rows.specs.db_records.Table.{all_tables, table_number}
use Rattle.depot_rows.specs.db_records.declared.change.Change.{Change}
use Rattle.depot_rows.specs.db_records.declared.change.Op.TheVariants.{Put}
use Rattle.depot_rows.specs.db_records.declared.record.Record.{Record}
use Rattle.depot_rows.specs.db_records.declared.table.TableId.{TableId}
use Rattle.depot_rows.specs.db_records.declared.table.TableId.TheVariants as ids
use Rattle.recovery.proofs.Fits.{changed_joined}
use Rattle.recovery.proofs.OnePut.{rows_joined}
use Rattle.recovery.specs.Holding.{rows_put}
use Rattle.depot_rows.specs.table_changes.Changed.{AllRows, changed_by, changed_in, no_rows}
use Rattle.depot_rows.specs.table_store.Rows.{AllOfTable, IsRising, changed_once}
use Rattle.row_order.proofs.Order.{IsRising-left, before_row, row_behind}
use Rattle.checkpoint_file.specs.Checkpoint.{put, puts, puts_in, puts_of}
use Rattle.checkpoint_file.specs.Tables.{AreTables}
use Rattle.checkpoint_file.proofs.OneAfterOther.{RiseFrom, all_rise}

abbrev same_table : TableId → TableId → Bool
same_table a b = table_number a == table_number b

is_same : (a b : TableId) → b ≡ a → same_table a b ≡ true
is_same a b e = subst (λ (t : TableId). same_table a t ≡ true) (sym e) (itself (table_number a))
  where
    itself : (n : ℕ) → (n == n) ≡ true
    itself n = grind (arith, nat_tests)

is_other : (a b c : TableId) → b ≡ c → table_number a ≢ table_number c → same_table a b ≡ false
is_other a b c e other = subst (λ (t : TableId). same_table a t ≡ false) (sym e) (differs (table_number a) (table_number c) other)
  where
    differs : (m n : ℕ) → m ≢ n → (m == n) ≡ false
    differs m n other = grind (arith, nat_tests)

-- ---- the rows of one table

changed_here : (base : AllRows) (table : TableId) (row : Record) → table_of row ≡ table → IsRising (base table ++ row ∷ []) → changed_in base (put row) table ≡ base table ++ row ∷ []
changed_here base table row of_table up =
    ap (λ (b : Bool). if b then changed_once (base table) (put row) else base table) (is_same table (table_of row) of_table)
    ∙ row_behind (base table) (put row) (before_row (base table) row [] up) refl

changed_elsewhere : (base : AllRows) (table other : TableId) (row : Record) → table_of row ≡ other → table_number table ≢ table_number other → changed_in base (put row) table ≡ base table
changed_elsewhere base table other row of_table apart =
    ap (λ (b : Bool). if b then changed_once (base table) (put row) else base table) (is_other table (table_of row) other of_table apart)

front_rises : (xs : List Record) (row : Record) (ys : List Record) → IsRising (xs ++ row ∷ ys) → IsRising (xs ++ row ∷ [])
front_rises xs row ys up = IsRising-left (xs ++ row ∷ []) ys (subst IsRising (sym (append_assoc xs (row ∷ []) ys)) up)

put_rows : (table : TableId) (xs : List Record) (base : AllRows) → AllOfTable table xs → IsRising (base table ++ xs) → changed_by base (puts xs) table ≡ base table ++ xs
put_rows table [] base of_table up = sym (append-nil (base table))
put_rows table (row ∷ xs) base of_table up =
    let once = changed_here base table row of_table.0 (front_rises (base table) row xs up) in
    let joined : changed_in base (put row) table ++ xs ≡ base table ++ row ∷ xs = ap (λ (l : List Record). l ++ xs) once ∙ append_assoc (base table) (row ∷ []) xs in
    put_rows table xs (changed_in base (put row)) of_table.1 (subst IsRising (sym joined) up) ∙ joined

put_others : (table other : TableId) (xs : List Record) (base : AllRows) → AllOfTable other xs → table_number table ≢ table_number other → changed_by base (puts xs) table ≡ base table
put_others table other [] base of_table apart = refl
put_others table other (row ∷ xs) base of_table apart =
    put_others table other xs (changed_in base (put row)) of_table.1 apart ∙ changed_elsewhere base table other row of_table.0 apart

-- ---- the rows of all tables

abbrev IsIn : TableId → List TableId → Type 0
IsIn table [] = ⊥
IsIn table (t ∷ tables) = (t ≡ table) ⊎ IsIn table tables

all_in : (table : TableId) → IsIn table all_tables
all_in ids.Counter = inl refl
all_in ids.Group = inr (inl refl)
all_in ids.Protect = inr (inr (inl refl))
all_in ids.Domain = inr (inr (inr (inl refl)))
all_in ids.Have = inr (inr (inr (inr (inl refl))))
all_in ids.Label = inr (inr (inr (inr (inr (inl refl)))))
all_in ids.Integed = inr (inr (inr (inr (inr (inr (inl refl))))))
all_in ids.Resolve = inr (inr (inr (inr (inr (inr (inr (inl refl)))))))
all_in ids.Working = inr (inr (inr (inr (inr (inr (inr (inr (inl refl))))))))
all_in ids.Change = inr (inr (inr (inr (inr (inr (inr (inr (inr (inl refl)))))))))
all_in ids.Rev = inr (inr (inr (inr (inr (inr (inr (inr (inr (inr (inl refl))))))))))

number_in : (n : ℕ) (tables : List TableId) (table : TableId) → RiseFrom n tables → IsIn table tables → n ≤ table_number table
number_in n [] table rise none = absurd none
number_in n (t ∷ tables) table rise (inl here) = subst (λ (u : TableId). n ≤ table_number u) here rise.0
number_in n (t ∷ tables) table rise (inr later) =
    let from = rise.0 in
    let more = number_in (suc (table_number t)) tables table rise.1 later in
    omega (arith, from, more)

module _ (rows : AllRows) (are : AreTables rows) (table : TableId) where
  absent : (n : ℕ) (tables : List TableId) (base : AllRows) → RiseFrom n tables → table_number table < n → changed_by base (puts_in rows tables) table ≡ base table
  absent n [] base rise less = refl
  absent n (t ∷ tables) base rise less =
      let from = rise.0 in
      let rest = changed_by base (puts (rows t)) in
      ap (λ (r : AllRows). r table) (changed_joined base (puts (rows t)) (puts_in rows tables))
      ∙ absent (suc (table_number t)) tables rest rise.1 (omega (arith, from, less))
      ∙ put_others table t (rows t) base (are t).of_table (omega (arith, from, less))

  present : (n : ℕ) (tables : List TableId) (base : AllRows) → RiseFrom n tables → IsIn table tables → base table ≡ [] → changed_by base (puts_in rows tables) table ≡ rows table
  present n [] base rise nowhere none = absurd nowhere
  present n (t ∷ tables) base rise (inl here) none =
      let rest = changed_by base (puts (rows t)) in
      let own : changed_by base (puts (rows t)) t ≡ rows t =
      let empty : base t ≡ [] = ap base here ∙ none in
      put_rows t (rows t) base (are t).of_table (subst (λ (l : List Record). IsRising (l ++ rows t)) (sym empty) (are t).rising) ∙ ap (λ (l : List Record). l ++ rows t) empty in
      ap (λ (r : AllRows). r table) (changed_joined base (puts (rows t)) (puts_in rows tables))
      ∙ absent (suc (table_number t)) tables rest rise.1 (subst (λ (u : TableId). table_number u < suc (table_number t)) here (omega arith))
      ∙ subst (λ (u : TableId). changed_by base (puts (rows t)) u ≡ rows u) here own
  present n (t ∷ tables) base rise (inr later) none =
      let rest = changed_by base (puts (rows t)) in
      let above = number_in (suc (table_number t)) tables table rise.1 later in
      ap (λ (r : AllRows). r table) (changed_joined base (puts (rows t)) (puts_in rows tables))
      ∙ present (suc (table_number t)) tables rest rise.1 later (put_others table t (rows t) base (are t).of_table (omega (arith, above)) ∙ none)

pub put_all : (rows : AllRows) → AreTables rows → (table : TableId) → changed_by no_rows (puts_of rows) table ≡ rows table
put_all rows are table = present rows are table 0 all_tables no_rows all_rise (all_in table) refl

-- ---- the rows that are put

rows_of_puts : (xs : List Record) → rows_put (puts xs) ≡ xs
rows_of_puts [] = refl
rows_of_puts (x ∷ xs) = ap (λ (l : List Record). x ∷ l) (rows_of_puts xs)

pub rows_in_puts : (rows : AllRows) (tables : List TableId) → rows_put (puts_in rows tables) ≡ flat_map rows tables
rows_in_puts rows [] = refl
rows_in_puts rows (t ∷ tables) =
    rows_joined (puts (rows t)) (puts_in rows tables)
    ∙ ap (λ (l : List Record). l ++ rows_put (puts_in rows tables)) (rows_of_puts (rows t))
    ∙ ap (λ (l : List Record). rows t ++ l) (rows_in_puts rows tables)

put_joined : (xs ys : List Change) → AllByRecursion (λ (c : Change). c.op ≡ Put) xs → AllByRecursion (λ (c : Change). c.op ≡ Put) ys → AllByRecursion (λ (c : Change). c.op ≡ Put) (xs ++ ys)
put_joined [] ys first second = second
put_joined (x ∷ xs) ys first second = (first.0, put_joined xs ys first.1 second)

all_of_one : (xs : List Record) → AllByRecursion (λ (c : Change). c.op ≡ Put) (puts xs)
all_of_one [] = tt
all_of_one (x ∷ xs) = (refl, all_of_one xs)

pub all_put : (rows : AllRows) (tables : List TableId) → AllByRecursion (λ (c : Change). c.op ≡ Put) (puts_in rows tables)
all_put rows [] = tt
all_put rows (t ∷ tables) = put_joined (puts (rows t)) (puts_in rows tables) (all_of_one (rows t)) (all_put rows tables)
