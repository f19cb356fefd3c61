-- A place in a table: what is passed, and what is found at a key.
use Rattle.std.proofs.Common.{◌≡◌, Bool, true, false, cond, not, List, [], ◌∷◌, ◌++◌, Option, Some, None, refl, sym, ap, subst, ◌∙◌, append_assoc, append-nil, arith}
use Rattle.std.specs.Prelude.{if◌then◌else◌}
use Rattle.std.specs.Option.{option_to_list}
use Rattle.std.specs.Ordering.{is_eq, is_gt, is_lt}
use Rattle.std.specs.declared.cmp.Ordering.{Ordering}
use Rattle.std.specs.declared.cmp.Ordering.TheVariants.{Less, Equal, Greater}
use Rattle.std.proofs.lemmas.Bool.{false≢true, true≢false}
use Rattle.depot_rows.specs.db_records.Key.{key_cmp}
use Rattle.depot_rows.specs.db_records.Record.{key_of}
use Rattle.depot_rows.specs.db_records.declared.key.Key.{Key}
use Rattle.depot_rows.specs.db_records.declared.record.Record.{Record}
use Rattle.depot_rows.specs.table_store.Rows.{AllAbove, AllBelow, IsRising, is_below, row_at, rows_from}
use Rattle.row_order.proofs.Order.{AllAbove-lower, AllAbove-tied, AllBelow-append, AllBelow-higher, AllBelow-tied, IsRising-left, IsRising-right, before_row, below_by_last, row_at-below, row_at-gap, row_at-here, rows_from-above}
use Rattle.have_sync.specs.Places.{EndsWith, at_key, has_passed, is_next_below}

-- a row more is passed
pub passed_on : (key : Key) (front rest rows : List Record) (r : Record) → front ++ r ∷ rest ≡ rows → (front ++ r ∷ []) ++ rest ≡ rows
passed_on key front rest rows r joined = append_assoc front (r ∷ []) rest ∙ joined

less_is : (o : Ordering) → is_lt o ≡ true → o ≡ Less
less_is Less e = refl
less_is Equal e = absurd (false≢true e)
less_is Greater e = absurd (false≢true e)

pub below_on : (key : Key) (front : List Record) (r : Record) → AllBelow key front → is_below key r ≡ true → AllBelow key (front ++ r ∷ [])
below_on key front r low e = AllBelow-append key front (r ∷ []) low (less_is (key_cmp (key_of r) key) e, tt)

module _ (key : Key) (front rest : List Record) where
  -- the rows about a place tell that all before it are below the key
  pub all_below : (passed : Option Record) (next : Option Record) → EndsWith front passed → IsRising (front ++ (option_to_list next ++ rest)) → has_passed key passed next ≡ true → AllBelow key front
  all_below None None ends up e = absurd (false≢true e)
  all_below (Some p) None ends up e = absurd (false≢true e)
  all_below None (Some r) ends up e = by_next r (before_row front r rest up) (key_cmp (key_of r) key) refl e
    where
      by_next : (r : Record) → AllBelow (key_of r) front → (o : Ordering) → key_cmp (key_of r) key ≡ o → not (is_gt o) ≡ true → AllBelow key front
      by_next r low Less o e = AllBelow-higher (key_of r) key front o low
      by_next r low Equal o e = AllBelow-tied (key_of r) key front o low
      by_next r low Greater o e = absurd (false≢true e)
  all_below (Some p) (Some r) ends up e = go (key_cmp (key_of r) key) refl e
    where
      last : is_below key p ≡ true → AllBelow key front
      last f =
          let P : List Record → Type 0 = λ l. AllBelow key l in
          let Q : List Record → Type 0 = λ l. IsRising l in
          subst P (sym ends.1) (below_by_last key ends.0 (p ∷ []) (omega arith) (subst Q ends.1 (IsRising-left front (r ∷ rest) up)) (less_is (key_cmp (key_of p) key) f, tt))

      go : (o : Ordering) → key_cmp (key_of r) key ≡ o → (if is_gt o then is_below key p else true) ≡ true → AllBelow key front
      go Less o e = AllBelow-higher (key_of r) key front o (before_row front r rest up)
      go Equal o e = AllBelow-tied (key_of r) key front o (before_row front r rest up)
      go Greater o e = last e

  -- what is found at the key
  pub found_here : (next : Option Record) → (next ≡ None → rest ≡ []) → IsRising (front ++ (option_to_list next ++ rest)) → AllBelow key front → is_next_below key next ≡ false
      → at_key key next ≡ row_at key (front ++ (option_to_list next ++ rest))
  found_here None none up low e =
      sym (row_at-below key front low) ∙ ap (row_at key) (sym (append-nil front)) ∙ ap (λ (l : List Record). row_at key (front ++ l)) (sym (none refl))
  found_here (Some r) none up low e = go (key_cmp (key_of r) key) refl e
    where
      above : AllAbove (key_of r) rest
      above = (IsRising-right front (r ∷ rest) up).0

      go : (o : Ordering) → key_cmp (key_of r) key ≡ o → is_lt o ≡ false → (if is_eq o then Some r else None) ≡ row_at key (front ++ r ∷ rest)
      go Less o e = absurd (true≢false e)
      go Equal o e = sym (row_at-here key front rest low (AllAbove-tied (key_of r) key rest o above) r o)
      go Greater o e = sym (row_at-gap key front (r ∷ rest) low (o, AllAbove-lower (key_of r) key rest o above))

-- ---- a search

pub record Parted (key : Key) (rows : List Record) : Type 0 where
  pub front : List Record
  pub joined : front ++ rows_from key rows ≡ rows
  pub below : AllBelow key front

pub parted : (key : Key) (rows : List Record) → IsRising rows → Parted key rows
parted key [] up = record { front = []; joined = refl; below = tt }
parted key (x ∷ xs) up = go (key_cmp (key_of x) key) refl (parted key xs up.1)
  where
    go : (o : Ordering) → key_cmp (key_of x) key ≡ o → Parted key xs → Parted key (x ∷ xs)
    go Less o more = record {
      front = x ∷ more.front;
      joined = ap (λ (b : Bool). (x ∷ more.front) ++ cond (not b) (x ∷ rows_from key xs) (rows_from key xs)) (ap is_lt o) ∙ ap (λ (l : List Record). x ∷ l) more.joined;
      below = (o, more.below);
    }
    go Equal o more = record {
      front = [];
      joined = ap (λ (b : Bool). cond (not b) (x ∷ rows_from key xs) (rows_from key xs)) (ap is_lt o)
          ∙ ap (λ (l : List Record). x ∷ l) (rows_from-above key xs (AllAbove-tied (key_of x) key xs o up.0));
      below = tt;
    }
    go Greater o more = record {
      front = [];
      joined = ap (λ (b : Bool). cond (not b) (x ∷ rows_from key xs) (rows_from key xs)) (ap is_lt o)
          ∙ ap (λ (l : List Record). x ∷ l) (rows_from-above key xs (AllAbove-lower (key_of x) key xs o up.0));
      below = tt;
    }

-- the first of the rows that a search finds isn't below the key
pub first_from : (key : Key) (rows rest : List Record) (next : Option Record) → rows_from key rows ≡ option_to_list next ++ rest → is_next_below key next ≡ false
first_from key rows rest None e = refl
first_from key [] rest (Some r) e = absurd cc
first_from key (x ∷ xs) rest (Some r) e = go (is_below key x) refl e (λ f. first_from key xs rest (Some r) f)
  where
    go : (b : Bool) → is_below key x ≡ b → cond (not b) (x ∷ rows_from key xs) (rows_from key xs) ≡ r ∷ rest → (rows_from key xs ≡ r ∷ rest → is_below key r ≡ false) → is_below key r ≡ false
    go true is f more = more f
    go false is f more = let one : x ≡ r = cc in ap (is_below key) (sym one) ∙ is

-- ---- places

-- what is left is known by the next row and the rest
pub left_behind : (key : Key) (front rest rows : List Record) (next : Option Record) (more : List Record) (after : Option Record) → front ++ (option_to_list next ++ rest) ≡ rows
    → is_next_below key next ≡ true → rest ≡ option_to_list after ++ more → AllBelow key front
    → (now : List Record) × (now ++ (option_to_list after ++ more) ≡ rows) × EndsWith now next × AllBelow key now
left_behind key front rest rows None more after joined e is low = absurd (false≢true e)
left_behind key front rest rows (Some r) more after joined e is low =
    (front ++ r ∷ [], ap (λ (l : List Record). (front ++ r ∷ []) ++ l) (sym is) ∙ passed_on key front rest rows r joined, (front, refl), below_on key front r low e)
