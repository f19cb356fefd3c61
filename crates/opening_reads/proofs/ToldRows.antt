-- The rows of a table that pass a test are those that a depot has.
use Rattle.std.proofs.Common.{◌≡◌, Bool, true, false, cond, List, [], ◌∷◌, Some, inl, inr, refl, sym, ap, ◌∙◌}
use Rattle.std.specs.Prelude.{filter}
use Rattle.std.specs.Ordering.{ordering_reverse, is_eq}
use Rattle.std.specs.declared.cmp.Ordering.{Ordering}
use Rattle.std.specs.declared.cmp.Ordering.TheVariants.{Less, Equal, Greater}
use Rattle.depot_rows.specs.db_records.Key.{key_cmp, key_table}
use Rattle.depot_rows.specs.db_records.KeyLaws.{keys_total}
use Rattle.depot_rows.specs.db_records.Record.{key_of, table_of}
use Rattle.depot_rows.specs.db_records.declared.key.Key.{Key}
use Rattle.depot_rows.specs.db_records.declared.record.Record.{Record}
use Rattle.depot_rows.specs.db_records.declared.table.TableId.{TableId}
use Rattle.depot_rows.specs.db_records.declared.table.TableId.TheVariants as tables
use Rattle.depot_rows.proofs.db_records.Order.{keys_equal}
use Rattle.depot_rows.specs.table_store.Rows.{is_at, AllAbove, AllOfTable, IsRising, row_at}
use Rattle.depot_rows.specs.depot_model.Deeds.{Deed}
use Rattle.depot_rows.specs.depot_model.Records.{record_of}
use Rattle.depot_rows.specs.Standing.{unplaced_at}
use Rattle.depot_rows.proofs.Entries.{In}
use Rattle.row_reads.proofs.Alike.{unplaced_row}
use Rattle.row_reads.proofs.GroupsListed.{kept_rise}
use Rattle.depot_facts.proofs.Listed.{in_filter, found_in, filter_in}

-- ---- two rising lists of the same rows are one

above_in : (key : Key) (rows : List Record) → AllAbove key rows → (r : Record) → In rows r → key_cmp (key_of r) key ≡ Greater
above_in key [] all r h = absurd h
above_in key (x ∷ rows) all r (inl e) = ap (λ (z : Record). key_cmp (key_of z) key) (sym e) ∙ all.0
above_in key (x ∷ rows) all r (inr h) = above_in key rows all.1 r h

not_above_itself : (r : Record) → key_cmp (key_of r) (key_of r) ≡ Greater → ⊥
not_above_itself r e = absurd (let one : Greater ≡ Equal = sym e ∙ (keys_equal (key_of r) (key_of r)).1 refl in cc)

not_both : (a b : Key) → key_cmp a b ≡ Greater → key_cmp b a ≡ Greater → ⊥
not_both a b e f = absurd (let one : Greater ≡ ordering_reverse Greater = sym e ∙ keys_total.antisymm a b ∙ ap ordering_reverse f in cc)

one_list : (xs ys : List Record) → IsRising xs → IsRising ys → ((r : Record) → In xs r → In ys r) → ((r : Record) → In ys r → In xs r) → xs ≡ ys
one_list [] [] a b there back = refl
one_list [] (y ∷ ys) a b there back = absurd (back y (inl refl))
one_list (x ∷ xs) [] a b there back = absurd (there x (inl refl))
one_list (x ∷ xs) (y ∷ ys) a b there back = go (there x (inl refl)) (back y (inl refl)) (one_list xs ys a.1 b.1)
  where
    same_head : y ≡ x → (((r : Record) → In xs r → In ys r) → ((r : Record) → In ys r → In xs r) → xs ≡ ys) → x ∷ xs ≡ y ∷ ys
    same_head e later = λ i. sym e i ∷ later next before i
      where
        next : (r : Record) → In xs r → In ys r
        next r h = by (there r (inr h))
          where
            by : In (y ∷ ys) r → In ys r
            by (inl f) = absurd (not_above_itself r (ap (λ (z : Record). key_cmp (key_of r) (key_of z)) (sym f ∙ e) ∙ above_in (key_of x) xs a.0 r h))
            by (inr k) = k

        before : (r : Record) → In ys r → In xs r
        before r h = by (back r (inr h))
          where
            by : In (x ∷ xs) r → In xs r
            by (inl f) = absurd (not_above_itself r (ap (λ (z : Record). key_cmp (key_of r) (key_of z)) (sym f ∙ sym e) ∙ above_in (key_of y) ys b.0 r h))
            by (inr k) = k

    go : In (y ∷ ys) x → In (x ∷ xs) y → (((r : Record) → In xs r → In ys r) → ((r : Record) → In ys r → In xs r) → xs ≡ ys) → x ∷ xs ≡ y ∷ ys
    go (inl e) k later = same_head e later
    go (inr h) (inl e) later = same_head (sym e) later
    go (inr h) (inr k) later = absurd (not_both (key_of x) (key_of y) (above_in (key_of y) ys b.0 x h) (above_in (key_of x) xs a.0 y k))

-- ---- rows of a rising list

at_own : (r : Record) → is_eq (key_cmp (key_of r) (key_of r)) ≡ true
at_own r = ap is_eq ((keys_equal (key_of r) (key_of r)).1 refl)

in_at : (rows : List Record) → IsRising rows → (r : Record) → In rows r → row_at (key_of r) rows ≡ Some r
in_at [] up r h = absurd h
in_at (x ∷ rows) up r (inl e) =
    ap (λ (z : Record). row_at (key_of z) (x ∷ rows)) (sym e) ∙ ap (λ (b : Bool). cond b (Some x) (row_at (key_of x) rows)) (at_own x) ∙ ap (λ (z : Record). Some z) e
in_at (x ∷ rows) up r (inr h) =
    ap (λ (b : Bool). cond b (Some x) (row_at (key_of r) rows)) (apart (key_cmp (key_of x) (key_of r)) refl) ∙ in_at rows up.1 r h
  where
    apart : (o : Ordering) → key_cmp (key_of x) (key_of r) ≡ o → is_eq (key_cmp (key_of x) (key_of r)) ≡ false
    apart Less e = ap is_eq e
    apart Greater e = ap is_eq e
    apart Equal e = absurd (
        let one : key_of x ≡ key_of r = (keys_equal (key_of x) (key_of r)).0 e in
        not_above_itself r (ap (λ (k : Key). key_cmp (key_of r) k) (sym one) ∙ above_in (key_of x) rows up.0 r h))

table_in : (t : TableId) (rows : List Record) → AllOfTable t rows → (r : Record) → In rows r → table_of r ≡ t
table_in t [] of r h = absurd h
table_in t (x ∷ rows) of r (inl e) = ap table_of (sym e) ∙ of.0
table_in t (x ∷ rows) of r (inr h) = table_in t rows of.1 r h

-- ---- and those of a depot

-- a row of the table that passes, as the depot has it
pub record IsTold (t : TableId) (test : Record → Bool) (d : List Deed) (row : Record) : Type 0 where
  pub table : table_of row ≡ t
  pub passes : test row ≡ true
  pub stands : record_of d (key_of row) ≡ Some row

-- rising rows that are all of those that are told are the table's that pass
pub rows_told : (t : TableId) (test : Record → Bool) (d : List Deed) (rows told : List Record) → (t ≡ tables.Rev → ⊥) → IsRising rows → AllOfTable t rows
    → ((key : Key) → key_table key ≡ t → unplaced_at rows key ≡ record_of d key) → IsRising told
    → ((row : Record) → In told row → IsTold t test d row) → ((row : Record) → IsTold t test d row → In told row) → filter test rows ≡ told
rows_told t test d rows told placed up of has rises each all =
    one_list (filter test rows) told (kept_rise test rows up) rises
    (λ row h.
    let kept = in_filter test rows row h in
    let table = table_in t rows of row kept.0 in
    all row (record { table = table; passes = kept.1; stands = sym (at (key_of row) table) ∙ in_at rows up row kept.0 }))
    (λ row h.
    let is = each row h in
    filter_in test rows row (found_in (is_at (key_of row)) rows row (at (key_of row) is.table ∙ is.stands)).0 is.passes)
  where
    at : (key : Key) → key_table key ≡ t → row_at key rows ≡ record_of d key
    at key of_table = sym (unplaced_row t placed rows of key) ∙ has key of_table
