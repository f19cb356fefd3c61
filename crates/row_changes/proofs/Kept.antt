-- What the rows of all tables have at a key after changes.
use Rattle.std.proofs.Common.{◌≡◌, ℕ, Bool, true, false, cond, List, [], ◌∷◌, ◌++◌, Option, Some, None, refl, sym, ap, ◌∙◌, subst, arith}
use Rattle.std.specs.Prelude.{◌==◌, find, map, option_map}
use Rattle.std.specs.List.{filter, AllByRecursion}
use Rattle.std.specs.List.Sorted.{IsStrictlySortedBy}
use Rattle.std.specs.Option.{option_or}
use Rattle.std.specs.Ordering.{is_eq, is_lt, is_gt, ordering_reverse}
use Rattle.std.specs.declared.cmp.Ordering.{Ordering}
use Rattle.std.specs.declared.cmp.Ordering.TheVariants.{Less, Equal, Greater}
use Rattle.std.proofs.lemmas.List.Folds.{find-append}
use Rattle.std.proofs.lemmas.Grind.{common_steps}
use Rattle.depot_rows.specs.db_records.declared.key.Key.{Key}
use Rattle.depot_rows.specs.db_records.declared.record.Record.{Record}
use Rattle.depot_rows.specs.db_records.declared.change.Change.{Change}
use Rattle.depot_rows.specs.db_records.declared.change.Op.{Op}
use Rattle.depot_rows.specs.db_records.declared.change.Op.TheVariants.{Put, Replace, Remove}
use Rattle.depot_rows.specs.db_records.Key.{key_cmp, key_table}
use Rattle.depot_rows.specs.db_records.Record.{key_of, table_of}
use Rattle.depot_rows.specs.db_records.Table.{table_number}
use Rattle.depot_rows.specs.db_records.KeyLaws.{keys_total}
use Rattle.depot_rows.proofs.db_records.Order.{keys_equal}
use Rattle.depot_rows.specs.table_store.Rows.{is_below, is_at, is_above, row_at, left_by, changed_once, FitsAt}
use Rattle.row_order.proofs.Order.{turned_less}
use Rattle.depot_rows.specs.table_changes.Changed.{AllRows, changed_in, changed_by, AllFitIn}
use Rattle.depot_rows.specs.depot_model.Records.{unplaced, is_at as at}
use Rattle.depot_rows.specs.depot_model.Rules.{Rows}
use Rattle.depot_rows.specs.Standing.{row_in}
use Rattle.row_changes.specs.Stored.{HasKey}
use Rattle.row_changes.specs.Overlay.{Entries}
use Rattle.row_changes.specs.Difference.{IsDifference, listed, AreMade}
use Rattle.row_changes.specs.Differences.{changed_key, change_at}
use Rattle.row_changes.proofs.Made.{AreKeyed, changed-key, change_at-none, equal-keys}

-- ---- a search in a part of a list

module _ {X : Type 0} (p r : X → Bool) where
  -- what is sought stays
  find-kept : ((x : X) → p x ≡ true → r x ≡ true) → (xs : List X) → find p (filter r xs) ≡ find p xs
  find-kept stays [] = refl
  find-kept stays (x ∷ xs) = pick (find-kept stays xs) (p x) (r x) refl refl
    where
      pick : find p (filter r xs) ≡ find p xs → (b c : Bool) → p x ≡ b → r x ≡ c → find p (cond (r x) (x ∷ filter r xs) (filter r xs)) ≡ cond (p x) (Some x) (find p xs)
      pick rest true true is in' = rw in' (rw is refl)
      pick rest true false is out = absurd (let one : true ≡ false = sym (stays x is) ∙ out in cc)
      pick rest false true is in' = rw in' (rw is rest)
      pick rest false false is out = rw out (rw is rest)

  -- what is sought is left out
  find-out : ((x : X) → p x ≡ true → r x ≡ false) → (xs : List X) → find p (filter r xs) ≡ None
  find-out leaves [] = refl
  find-out leaves (x ∷ xs) = pick (find-out leaves xs) (p x) (r x) refl refl
    where
      pick : find p (filter r xs) ≡ None → (b c : Bool) → p x ≡ b → r x ≡ c → find p (cond (r x) (x ∷ filter r xs) (filter r xs)) ≡ None
      pick rest true true is in' = absurd (let one : true ≡ false = sym in' ∙ leaves x is in cc)
      pick rest true false is out = rw out rest
      pick rest false true is in' = rw in' (rw is rest)
      pick rest false false is out = rw out rest

-- ---- keys

equal : (o : Ordering) → is_eq o ≡ true → o ≡ Equal
equal Less h = absurd cc
equal Equal h = refl
equal Greater h = absurd cc

-- a row that stands at a key has it
pub key-at : (key : Key) (row : Record) → is_at key row ≡ true → key_of row ≡ key
key-at key row h = (keys_equal (key_of row) key).0 (equal (key_cmp (key_of row) key) h)

-- the row that a change leaves at its key
abbrev pub row_left : Op → Record → Option Record
row_left Put row = Some row
row_left Replace row = Some row
row_left Remove row = None

-- at its own key a change leaves what it says
row_at-left : (key : Key) (op : Op) (row : Record) (rows : List Record) → is_at key row ≡ true → row_at key rows ≡ None → row_at key (left_by op row ++ rows) ≡ row_left op row
row_at-left key Put row rows here none = rw here refl
row_at-left key Replace row rows here none = rw here refl
row_at-left key Remove row rows here none = none

-- at another key what a change leaves is not sought
row_at-left_other : (key : Key) (op : Op) (row : Record) (rows : List Record) → is_at key row ≡ false → row_at key (left_by op row ++ rows) ≡ row_at key rows
row_at-left_other key Put row rows apart = rw apart refl
row_at-left_other key Replace row rows apart = rw apart refl
row_at-left_other key Remove row rows apart = refl

-- where a row at a key stands by another key
below-by : (key other : Key) (row : Record) → is_at key row ≡ true → is_below other row ≡ is_lt (key_cmp key other)
below-by key other row here = ap (λ (k : Key). is_lt (key_cmp k other)) (key-at key row here)

above-by : (key other : Key) (row : Record) → is_at key row ≡ true → is_above other row ≡ is_gt (key_cmp key other)
above-by key other row here = ap (λ (k : Key). is_gt (key_cmp k other)) (key-at key row here)

module _ (key : Key) (op : Op) (row : Record) (rows : List Record) where
  abbrev parts : List Record
  parts = filter (is_below (key_of row)) rows ++ (left_by op row ++ filter (is_above (key_of row)) rows)

  -- the row at a key is the last that is sought
  after-below : row_at key (filter (is_below (key_of row)) rows) ≡ None → row_at key parts ≡ row_at key (left_by op row ++ filter (is_above (key_of row)) rows)
  after-below none = find-append (is_at key) (filter (is_below (key_of row)) rows) (left_by op row ++ filter (is_above (key_of row)) rows) ∙ ap (λ o. option_or o (row_at key (left_by op row ++ filter (is_above (key_of row)) rows))) none

  pub row_at-changed_here : is_at key row ≡ true → row_at key parts ≡ row_left op row
  row_at-changed_here here =
      let same : key_cmp key (key_of row) ≡ Equal = (keys_equal key (key_of row)).1 (sym (key-at key row here)) in
      after-below (find-out (is_at key) (is_below (key_of row)) (λ x h. below-by key (key_of row) x h ∙ ap is_lt same) rows)
      ∙ row_at-left key op row (filter (is_above (key_of row)) rows) here (find-out (is_at key) (is_above (key_of row)) (λ x h. above-by key (key_of row) x h ∙ ap is_gt same) rows)

  or-none : (o : Option Record) → option_or o None ≡ o
  or-none None = refl
  or-none (Some x) = refl

  pub row_at-changed_other : is_at key row ≡ false → row_at key parts ≡ row_at key rows
  row_at-changed_other apart = pick (key_cmp key (key_of row)) refl
    where
      pick : (o : Ordering) → key_cmp key (key_of row) ≡ o → row_at key parts ≡ row_at key rows
      pick Less is =
          find-append (is_at key) (filter (is_below (key_of row)) rows) (left_by op row ++ filter (is_above (key_of row)) rows)
          ∙ (λ i. option_or (find-kept (is_at key) (is_below (key_of row)) (λ x h. below-by key (key_of row) x h ∙ ap is_lt is) rows i)
          ((row_at-left_other key op row (filter (is_above (key_of row)) rows) apart ∙ find-out (is_at key) (is_above (key_of row)) (λ x h. above-by key (key_of row) x h ∙ ap is_gt is) rows) i))
          ∙ or-none (row_at key rows)
      pick Equal is = absurd (let one : is_at key row ≡ true = ap is_eq ((keys_equal (key_of row) key).1 (sym ((keys_equal key (key_of row)).0 is))) in let two : true ≡ false = sym one ∙ apart in cc)
      pick Greater is =
          after-below (find-out (is_at key) (is_below (key_of row)) (λ x h. below-by key (key_of row) x h ∙ ap is_lt is) rows)
          ∙ row_at-left_other key op row (filter (is_above (key_of row)) rows) apart
          ∙ find-kept (is_at key) (is_above (key_of row)) (λ x h. above-by key (key_of row) x h ∙ ap is_gt is) rows

-- ---- the tables

turned : (key : Key) (row : Record) → is_at key row ≡ at key (key_of row)
turned key row = ap is_eq (keys_total.antisymm (key_of row) key) ∙ go (key_cmp key (key_of row))
  where
    go : (o : Ordering) → is_eq (ordering_reverse o) ≡ is_eq o
    go Less = refl
    go Equal = refl
    go Greater = refl

number-self : (n : ℕ) → (n == n) ≡ true
number-self n = grind (arith, common_steps)

-- the row that a key has after a change of the table of its row
pub stored-changed : (all : AllRows) (c : Change) (key : Key) → row_in (changed_in all c) key ≡ cond (at key (changed_key c)) (row_left c.op c.row) (row_in all key)
stored-changed all c key = go (is_at key c.row) refl
  where
    same-table : is_at key c.row ≡ true → (table_number (key_table key) == table_number (table_of c.row)) ≡ true
    same-table h = ap (λ (k : Key). table_number (key_table k) == table_number (table_of c.row)) (sym (key-at key c.row h)) ∙ number-self (table_number (table_of c.row))

    apart : is_at key c.row ≡ false → (b : Bool) → row_at key (cond b (changed_once (all (key_table key)) c) (all (key_table key))) ≡ row_in all key
    apart h true = row_at-changed_other key c.op c.row (all (key_table key)) h
    apart h false = refl

    go : (b : Bool) → is_at key c.row ≡ b → row_in (changed_in all c) key ≡ cond (at key (changed_key c)) (row_left c.op c.row) (row_in all key)
    go true h =
        ap (λ (b : Bool). row_at key (cond b (changed_once (all (key_table key)) c) (all (key_table key)))) (same-table h)
        ∙ row_at-changed_here key c.op c.row (all (key_table key)) h
        ∙ ap (λ (b : Bool). cond b (row_left c.op c.row) (row_in all key)) (sym h ∙ turned key c.row)
    go false h =
        apart h (table_number (key_table key) == table_number (table_of c.row))
        ∙ ap (λ (b : Bool). cond b (row_left c.op c.row) (row_in all key)) (sym h ∙ turned key c.row)

-- ---- changes whose keys rise

-- the row that a key has after its change, if there is one
abbrev pub row_after : Option Change → Option Record → Option Record
row_after None before = before
row_after (Some c) before = row_left c.op c.row

pub stored-after : (all : AllRows) (cs : List Change) → IsStrictlySortedBy key_cmp (map changed_key cs) → (key : Key) → row_in (changed_by all cs) key ≡ row_after (change_at cs key) (row_in all key)
unfolding IsStrictlySortedBy
stored-after all [] s key = refl
stored-after all (c ∷ cs) s key = stored-after (changed_in all c) cs s.1 key ∙ ap (row_after (change_at cs key)) (stored-changed all c key) ∙ go (at key (changed_key c)) refl
  where
    go : (b : Bool) → at key (changed_key c) ≡ b → row_after (change_at cs key) (cond (at key (changed_key c)) (row_left c.op c.row) (row_in all key))
        ≡ row_after (cond (at key (changed_key c)) (Some c) (change_at cs key)) (row_in all key)
    go true h =
        let here : changed_key c ≡ key = sym (equal-keys key (changed_key c) h) in
        let none : change_at cs key ≡ None = change_at-none key cs (subst (λ (k : Key). AllByRecursion (λ y. key_cmp k y ≡ Less) (map changed_key cs)) here s.0) in
        ap (λ (o : Option Change). row_after o (cond (at key (changed_key c)) (row_left c.op c.row) (row_in all key))) none
        ∙ ap (λ (b : Bool). cond b (row_left c.op c.row) (row_in all key)) h
        ∙ ap (λ (b : Bool). row_after (cond b (Some c) (change_at cs key)) (row_in all key)) (sym h)
    go false h =
        ap (λ (b : Bool). row_after (change_at cs key) (cond b (row_left c.op c.row) (row_in all key))) h
        ∙ ap (λ (b : Bool). row_after (cond b (Some c) (change_at cs key)) (row_in all key)) (sym h)

-- a change fits the row that its key has
abbrev pub FitsRow : Rows → Change → Type 0
FitsRow rows c = FitsAt c.op c.row (rows (changed_key c))

still-fit : (all : AllRows) (c : Change) (cs : List Change) → AllByRecursion (λ y. key_cmp (changed_key c) y ≡ Less) (map changed_key cs) → AllByRecursion (FitsRow (row_in all)) cs → AllByRecursion (FitsRow (row_in (changed_in all c))) cs
still-fit all c [] above fit = tt
still-fit all c (x ∷ xs) above fit =
    let apart : at (changed_key x) (changed_key c) ≡ false = ap is_eq (turned_less (changed_key c) (changed_key x) above.0) in
    (subst (FitsAt x.op x.row) (sym (stored-changed all c (changed_key x) ∙ ap (λ (b : Bool). cond b (row_left c.op c.row) (row_in all (changed_key x))) apart)) fit.0, still-fit all c xs above.1 fit.1)

pub all-fit : (all : AllRows) (cs : List Change) → IsStrictlySortedBy key_cmp (map changed_key cs) → AllByRecursion (FitsRow (row_in all)) cs → AllFitIn all cs
unfolding IsStrictlySortedBy
all-fit all [] s fit = tt
all-fit all (c ∷ cs) s fit = (record { of_table = refl; at_key = fit.0 }, all-fit (changed_in all c) cs s.1 (still-fit all c cs s.0 fit.1))

-- ---- differences

fits-at : (before after : Option Record) (c : Change) → IsDifference before after (Some c) → FitsAt c.op c.row before
fits-at None None c d = absurd cc
fits-at None (Some new) c d = let one : record { op = Put; row = new } ≡ c = cc in subst (λ (x : Change). FitsAt x.op x.row None) one refl
fits-at (Some old) None c d = let one : record { op = Remove; row = old } ≡ c = cc in subst (λ (x : Change). FitsAt x.op x.row (Some old)) one refl
fits-at (Some old) (Some new) c d = subst (λ (x : Change). FitsAt x.op x.row (Some old)) (sym d.1) refl

pub made-fit : (rows : Rows) (es : Entries) (cs : List Change) → ((q : Key) → HasKey (rows q) q) → AreKeyed es → AreMade rows es cs → AllByRecursion (FitsRow rows) cs
unfolding AreMade
made-fit rows [] cs k j m = subst (AllByRecursion (FitsRow rows)) (sym m) tt
made-fit rows (e ∷ es) cs k j m = subst (AllByRecursion (FitsRow rows)) (sym m.3) (go m.0 m.2 (made-fit rows es m.1 k j.1 m.4))
  where
    go : (first : Option Change) → IsDifference (rows e.0) e.1 first → AllByRecursion (FitsRow rows) m.1 → AllByRecursion (FitsRow rows) (listed first ++ m.1)
    go None d rest = rest
    go (Some c) d rest =
        let is : changed_key c ≡ e.0 = changed-key e.0 (rows e.0) e.1 c (k e.0) j.0 d in
        (fits-at (rows (changed_key c)) e.1 c (subst (λ (x : Key). IsDifference (rows x) e.1 (Some c)) (sym is) d), rest)

-- the row after a difference is the one that was to be, apart from the place of its content
pub difference-leaves : (before after : Option Record) (c : Option Change) → IsDifference before after c → option_map unplaced (row_after c before) ≡ option_map unplaced after
difference-leaves None None None d = refl
difference-leaves None None (Some c) d = absurd cc
difference-leaves None (Some new) None d = absurd cc
difference-leaves None (Some new) (Some c) d = let one : c ≡ record { op = Put; row = new } = cc in ap (λ (x : Change). option_map unplaced (row_left x.op x.row)) one
difference-leaves (Some old) None None d = absurd cc
difference-leaves (Some old) None (Some c) d = let one : c ≡ record { op = Remove; row = old } = cc in ap (λ (x : Change). option_map unplaced (row_left x.op x.row)) one
difference-leaves (Some old) (Some new) None d = ap Some d
difference-leaves (Some old) (Some new) (Some c) d = ap (λ (x : Change). option_map unplaced (row_left x.op x.row)) d.1
