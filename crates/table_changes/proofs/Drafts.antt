-- Drafts in the order of the tables' numbers: the draft of each table stands at its number.
use Rattle.std.proofs.Common.{◌≡◌, ◌≢◌, ℕ, ◌+◌, ◌<◌, Bool, true, false, List, [], ◌∷◌, ◌++◌, map, length, take, get_or, set, eqb, cond, Result, Ok, Err, OnOk, OnErr, refl, sym, ap, subst, ◌∙◌, zero-add, arith}
use Rattle.std.proofs.Math.Path.{fun_ext}
use Rattle.std.proofs.Math.Seq.{map-set_same}
use Rattle.std.proofs.lemmas.Bool.Decides.{Decides-eqb}
use Rattle.std.proofs.lemmas.List.{get_or-map, get_or_at, get_or_read, get_or-set_other, get_or-set_same, length-map, length-append, map-append, take_more}
use Rattle.std.proofs.lemmas.List.FromFn.{get_or-range_with_len}
use Rattle.table_store.specs.db_records.Record.{table_of}
use Rattle.table_store.specs.db_records.Table.{table_number, all_tables}
use Rattle.table_store.specs.db_records.declared.change.Change.{Change}
use Rattle.table_store.specs.db_records.declared.table.TableId.{TableId}
use Rattle.table_store.specs.db_records.declared.table.TableId.TheVariants.{Counter, Group, Protect, Domain, Have, Label, Integed, Resolve, Working, Change as ChangeTable, Rev}
use Rattle.table_store.specs.Rows.{Fits, TableRows, changed_once, with_rows}
use Rattle.table_store.specs.Tables.{version_of}
use Rattle.table_store.specs.declared.tables.Tables.{Tables}
use Rattle.table_changes.specs.Changed.{AllRows, FitsIn, changed_in, rows_of}
use Rattle.table_changes.specs.InOrder.{all_numbers, draft_at, numbers_of}

of_number : ℕ → TableId
of_number n = get_or all_tables n Rev

of_number-number : (table : TableId) → of_number (table_number table) ≡ table
unfolding of_number
of_number-number Counter = refl
of_number-number Group = refl
of_number-number Protect = refl
of_number-number Domain = refl
of_number-number Have = refl
of_number-number Label = refl
of_number-number Integed = refl
of_number-number Resolve = refl
of_number-number Working = refl
of_number-number ChangeTable = refl
of_number-number Rev = refl

-- tables with one number are one
same_number : (a b : TableId) → table_number a ≡ table_number b → a ≡ b
same_number a b e = sym (of_number-number a) ∙ (ap of_number e ∙ of_number-number b)

small : (table : TableId) → table_number table < 11
small Counter = omega arith
small Group = omega arith
small Protect = omega arith
small Domain = omega arith
small Have = omega arith
small Label = omega arith
small Integed = omega arith
small Resolve = omega arith
small Working = omega arith
small ChangeTable = omega arith
small Rev = omega arith

false_is_not_true : false ≡ true → ⊥
false_is_not_true e = cc

abbrev number : TableRows → ℕ
number draft = table_number draft.table

abbrev pub rows_at : List TableRows → AllRows
rows_at drafts table = (draft_at drafts table).rows

module _ (drafts : List TableRows) (in_order : numbers_of drafts ≡ all_numbers) where
  count_is : length drafts ≡ 11
  count_is = sym (length-map drafts number) ∙ ap length in_order

  pub within : (table : TableId) → table_number table < length drafts
  within table = let few = small table in let count = count_is in omega arith

  -- the draft at a place is of the table that has this number
  at_place : (i : ℕ) (d : TableRows) → i < 11 → number (get_or drafts i d) ≡ i
  at_place i d h =
      let count = count_is in
      let lt : i < length drafts = omega arith in
      sym (get_or-map number drafts i d 0 lt) ∙ (ap (λ (ns : List ℕ). get_or ns i 0) in_order ∙ get_or-range_with_len 0 11 i 0 h ∙ zero-add i)

  pub own_at : (table : TableId) → (draft_at drafts table).table ≡ table
  own_at table = same_number (draft_at drafts table).table table (at_place (table_number table) (record { table = table; rows = [] }) (small table))

  -- what stands at the number of a table is its draft
  pub read_at : (table : TableId) (draft : TableRows) → draft ≡ get_or drafts (table_number table) draft → draft ≡ draft_at drafts table
  read_at table draft is = get_or_read drafts (table_number table) draft (within table) is (record { table = table; rows = [] })

  -- ---- a change of the draft of one table

  module _ (this : TableId) (draft : TableRows) where
    abbrev changed : List TableRows
    changed = set drafts (table_number this) draft

    order_kept : draft.table ≡ this → numbers_of changed ≡ all_numbers
    order_kept own = map-set_same number drafts (table_number this) draft (record { table = this; rows = [] }) (ap table_number (own ∙ sym (own_at this))) ∙ in_order

    rows_in : (change : Change) → draft.rows ≡ changed_once (rows_at drafts this) change → (table : TableId) → (b : Bool) → eqb (table_number table) (table_number this) ≡ b
        → rows_at changed table ≡ cond b (changed_once (rows_at drafts table) change) (rows_at drafts table)
    rows_in change made table true e =
        let is : table ≡ this = same_number table this ((Decides-eqb (table_number table) (table_number this)).0 e) in
        ap (rows_at changed) is
        ∙ (ap (λ (d : TableRows). d.rows) (get_or-set_same drafts (table_number this) draft (record { table = this; rows = [] }) (within this))
        ∙ (made ∙ ap (λ (t : TableId). changed_once (rows_at drafts t) change) (sym is)))
    rows_in change made table false e =
        let apart : table_number table ≢ table_number this = λ same. false_is_not_true (sym e ∙ (Decides-eqb (table_number table) (table_number this)).1 same) in
        ap (λ (d : TableRows). d.rows) (get_or-set_other drafts (table_number this) (table_number table) draft (record { table = table; rows = [] }) apart)

  module _ (change : Change) (old : TableRows) (is : old ≡ get_or drafts (table_number (table_of change.row)) old) where
    -- a change fits the draft of its table where it fits the rows of all
    pub fits_at : FitsIn (rows_at drafts) change → Fits old change
    fits_at fits =
        let this = table_of change.row in
        let P : TableRows → Type 0 = λ version. Fits version change in
        subst P (sym (read_at this old is ∙ ap (λ (t : TableId). record { table = t; rows = rows_at drafts this }) (own_at this))) fits

    old_table : old.table ≡ table_of change.row
    old_table = ap (λ (d : TableRows). d.table) (read_at (table_of change.row) old is) ∙ own_at (table_of change.row)

    pub order_after : {A E : Type 0} (new : TableRows) (r : Result A E) → OnOk r (new ≡ with_rows old (changed_once old.rows change)) → OnErr r (new ≡ old) → numbers_of (set drafts (table_number (table_of change.row)) new) ≡ all_numbers
    order_after new (Ok a) made left = order_kept (table_of change.row) new (ap (λ (d : TableRows). d.table) made ∙ old_table)
    order_after new (Err e) made left = order_kept (table_of change.row) new (ap (λ (d : TableRows). d.table) left ∙ old_table)

    pub rows_after : {A E : Type 0} (new : TableRows) (r : Result A E) → OnOk r (new ≡ with_rows old (changed_once old.rows change)) → OnOk r (rows_at (set drafts (table_number (table_of change.row)) new) ≡ changed_in (rows_at drafts) change)
    rows_after new (Ok a) made =
        let this = table_of change.row in
        fun_ext (λ table. rows_in this new change (ap (λ (d : TableRows). d.rows) made ∙ ap (λ (d : TableRows). changed_once d.rows change) (read_at this old is)) table (eqb (table_number table) (table_number this)) refl)
    rows_after new (Err e) made = tt

  -- ---- all tables are put, one after another

  -- the tables below a number are put
  abbrev pub AllPut : Tables → ℕ → Type 0
  AllPut tables n = (table : TableId) → table_number table < n → version_of tables table ≡ draft_at drafts table

  pub none_put : (tables : Tables) → AllPut tables 0
  none_put tables = λ table below. absurd (omega arith)

  module _ (front rest : List TableRows) (draft : TableRows) (parts : front ++ draft ∷ rest ≡ drafts) where
    place_is : get_or drafts (length front) draft ≡ draft
    place_is = ap (λ (ds : List TableRows). get_or ds (length front) draft) (sym parts) ∙ get_or_at front draft rest draft (length front) refl

    place_within : length front < 11
    place_within = let count = count_is in let parted = ap length parts in let longer = length-append front (draft ∷ rest) in omega arith

    number_is : number draft ≡ length front
    number_is = ap number (sym place_is) ∙ at_place (length front) draft place_within

    draft_is : draft ≡ draft_at drafts draft.table
    draft_is = read_at draft.table draft (sym place_is ∙ ap (λ (i : ℕ). get_or drafts i draft) (sym number_is))

    pub next_put : (old new : Tables) (version : TableRows) → version ≡ draft → version_of new version.table ≡ version
        → ((table : TableId) → table ≢ version.table → version_of new table ≡ version_of old table) → AllPut old (length front) → AllPut new (length (front ++ draft ∷ []))
    next_put old new version is here others so_far = λ table below. go table below (eqb (table_number table) (length front)) refl
      where
        go : (table : TableId) → table_number table < length (front ++ draft ∷ []) → (b : Bool) → eqb (table_number table) (length front) ≡ b → version_of new table ≡ draft_at drafts table
        go table below true e =
            let this : table ≡ draft.table = same_number table draft.table ((Decides-eqb (table_number table) (length front)).0 e ∙ sym number_is) in
            ap (version_of new) (this ∙ ap (λ (v : TableRows). v.table) (sym is)) ∙ (here ∙ (is ∙ (draft_is ∙ ap (draft_at drafts) (sym this))))
        go table below false e =
            let apart : table_number table ≢ length front = λ same. false_is_not_true (sym e ∙ (Decides-eqb (table_number table) (length front)).1 same) in
            let longer = length-append front (draft ∷ []) in
            others table (λ same. apart (ap table_number (same ∙ ap (λ (v : TableRows). v.table) is) ∙ number_is)) ∙ so_far table (omega (arith, apart))

  -- all tables are put
  pub all_put : (tables : Tables) → AllPut tables (length drafts) → rows_of tables ≡ rows_at drafts
  all_put tables h = fun_ext (λ table. ap (λ (v : TableRows). v.rows) (h table (within table)))

pub same_versions : (old new : Tables) → ((table : TableId) → version_of new table ≡ version_of old table) → rows_of new ≡ rows_of old
same_versions old new same = fun_ext (λ table. ap (λ (v : TableRows). v.rows) (same table))

-- one more draft
pub drafts_more : (version : TableId → TableRows) (drafts : List TableRows) (i : ℕ) (draft : TableRows) → i < length all_tables → drafts ≡ map version (take i all_tables) → draft ≡ version (get_or all_tables i Counter) → drafts ++ draft ∷ [] ≡ map version (take (i + 1) all_tables)
drafts_more version drafts i draft less so_far is =
    ap (λ (l : List TableRows). l ++ draft ∷ []) so_far
    ∙ ap (λ (d : TableRows). map version (take i all_tables) ++ d ∷ []) is
    ∙ sym (map-append version (take i all_tables) (get_or all_tables i Counter ∷ []))
    ∙ ap (map version) (sym (take_more all_tables i Counter less))

pub numbers_more : (drafts : List TableRows) (i : ℕ) (draft : TableRows) → i < length all_tables → numbers_of drafts ≡ take i all_numbers → draft.table ≡ get_or all_tables i Counter → numbers_of (drafts ++ draft ∷ []) ≡ take (i + 1) all_numbers
numbers_more drafts i draft less so_far own =
    map-append (λ (d : TableRows). table_number d.table) drafts (draft ∷ [])
    ∙ ap (λ (l : List ℕ). l ++ table_number draft.table ∷ []) so_far
    ∙ ap (λ (n : ℕ). take i all_numbers ++ n ∷ []) (ap table_number own ∙ sym (get_or-map table_number all_tables i Counter 0 less))
    ∙ sym (take_more all_numbers i 0 less)
