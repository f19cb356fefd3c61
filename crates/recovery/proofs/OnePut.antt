-- One put more.
use Rattle.std.proofs.Common.{◌≡◌, ◌↔◌, ℕ, zero, suc, ◌-◌, ◌<◌, Bool, IsTrue, List, [], ◌∷◌, ◌++◌, length, Some, get_or, refl, sym, ap, ◌∙◌, subst, arith, length-append}
use Rattle.std.specs.List.{AllByRecursion}
use Rattle.std.specs.Ordering.{is_lt}
use Rattle.depot_rows.specs.db_records.declared.change.Change.{Change}
use Rattle.depot_rows.specs.db_records.declared.change.Op.TheVariants.{Put}
use Rattle.depot_rows.specs.db_records.declared.record.Record.{Record}
use Rattle.depot_rows.specs.db_records.Key.{key_cmp}
use Rattle.depot_rows.specs.db_records.Record.{key_of}
use Rattle.depot_rows.specs.table_store.Rows.{AllBelow, IsRising}
use Rattle.row_order.proofs.Order.{turned_less, AllAbove-append, before_row, IsRising-left, below_where_last_is}
use Rattle.recovery.specs.Holding.{ArePuts, rows_put}
use Rattle.recovery.specs.Reading.{IsLastOf}

rising_more : (rows : List Record) (row : Record) → IsRising rows → AllBelow (key_of row) rows → IsRising (rows ++ row ∷ [])
rising_more [] row up below = (tt, tt)
rising_more (r ∷ rows) row up below = (AllAbove-append (key_of r) rows (row ∷ []) up.0 (turned_less (key_of r) (key_of row) below.0, tt), rising_more rows row up.1 below.1)

put_more : (changes : List Change) (change : Change) → AllByRecursion (λ (c : Change). c.op ≡ Put) changes → change.op ≡ Put → AllByRecursion (λ (c : Change). c.op ≡ Put) (changes ++ change ∷ [])
put_more [] change all put = (put, tt)
put_more (c ∷ changes) change all put = (all.0, put_more changes change all.1 put)

last_put : (changes : List Change) (change : Change) → AllByRecursion (λ (c : Change). c.op ≡ Put) (changes ++ change ∷ []) → change.op ≡ Put
last_put [] change all = all.0
last_put (c ∷ changes) change all = last_put changes change all.1

rows_more : (changes : List Change) (change : Change) → rows_put (changes ++ change ∷ []) ≡ rows_put changes ++ change.row ∷ []
rows_more [] change = refl
rows_more (c ∷ changes) change = ap (λ (l : List Record). c.row ∷ l) (rows_more changes change)

pub puts_more : (changes : List Change) (change : Change) → ArePuts changes → change.op ≡ Put → AllBelow (key_of change.row) (rows_put changes) → ArePuts (changes ++ change ∷ [])
puts_more changes change are put below = record {
  all_put = put_more changes change are.all_put put;
  rising = subst IsRising (sym (rows_more changes change)) (rising_more (rows_put changes) change.row are.rising below);
}

pub puts_last : (changes : List Change) (change : Change) → ArePuts (changes ++ change ∷ []) → (change.op ≡ Put) × AllBelow (key_of change.row) (rows_put changes)
puts_last changes change are = (last_put changes change are.all_put, before_row (rows_put changes) change.row [] (subst IsRising (rows_more changes change) are.rising))

length_rows : (changes : List Change) → length (rows_put changes) ≡ length changes
length_rows [] = refl
length_rows (c ∷ changes) = ap suc (length_rows changes)

row_of : (changes : List Change) (i : ℕ) (last : Change) → get_or (rows_put changes) i last.row ≡ (get_or changes i last).row
row_of [] i last = refl
row_of (c ∷ changes) zero last = refl
row_of (c ∷ changes) (suc i) last = row_of changes i last

-- the last row is below a key just where all are
pub below_last : (changes : List Change) (last change : Change) → 0 < length changes → last ≡ get_or changes (length changes - 1) last → ArePuts changes → IsTrue (is_lt (key_cmp (key_of last.row) (key_of change.row))) ↔ AllBelow (key_of change.row) (rows_put changes)
below_last changes last change some is are =
    below_where_last_is (key_of change.row) (rows_put changes) last.row (omega (arith, some, length_rows changes))
    (ap (λ (c : Change). c.row) is ∙ sym (row_of changes (length changes - 1) last) ∙ ap (λ (n : ℕ). get_or (rows_put changes) (n - 1) last.row) (sym (length_rows changes))) are.rising

pub follows_last : (changes : List Change) (last change : Change) (r : Bool) → 0 < length changes → last ≡ get_or changes (length changes - 1) last → ArePuts changes → change.op ≡ Put → r ≡ is_lt (key_cmp (key_of last.row) (key_of change.row))
    → (IsTrue r → ArePuts (changes ++ change ∷ [])) × (ArePuts (changes ++ change ∷ []) → IsTrue r)
follows_last changes last change r some is are put test =
    let both = below_last changes last change some is are in
    (λ true_is. puts_more changes change are put (both.0 (sym test ∙ true_is)), λ more. test ∙ both.1 (puts_last changes change more).1)

puts_left : (xs ys : List Change) → AllByRecursion (λ (c : Change). c.op ≡ Put) (xs ++ ys) → AllByRecursion (λ (c : Change). c.op ≡ Put) xs
puts_left [] ys all = tt
puts_left (x ∷ xs) ys all = (all.0, puts_left xs ys all.1)

pub rows_joined : (xs ys : List Change) → rows_put (xs ++ ys) ≡ rows_put xs ++ rows_put ys
rows_joined [] ys = refl
rows_joined (x ∷ xs) ys = ap (λ (l : List Record). x.row ∷ l) (rows_joined xs ys)

-- the first of some puts are puts
pub puts_first : (xs ys : List Change) → ArePuts (xs ++ ys) → ArePuts xs
puts_first xs ys are = record { all_put = puts_left xs ys are.all_put; rising = IsRising-left (rows_put xs) (rows_put ys) (subst IsRising (rows_joined xs ys) are.rising) }

at_end : (front : List Change) (last other : Change) → get_or (front ++ last ∷ []) (length front) other ≡ last
at_end [] last other = refl
at_end (c ∷ front) last other = at_end front last other

-- whether a change puts a row above the last of some puts
pub follows_some : (puts : List Change) (last change : Change) (r : Bool) → ArePuts puts → IsLastOf puts (Some last) → change.op ≡ Put → r ≡ is_lt (key_cmp (key_of last.row) (key_of change.row)) → IsTrue r ↔ ArePuts (puts ++ change ∷ [])
follows_some puts last change r are last_is put test =
    let front = last_is.0 in
    let all : puts ≡ front ++ last ∷ [] = last_is.1 in
    let n : length puts - 1 ≡ length front = omega (arith, ap length all, length-append front (last ∷ [])) in
    let at : last ≡ get_or puts (length puts - 1) last = sym (ap (λ (l : List Change). get_or l (length puts - 1) last) all ∙ ap (λ (k : ℕ). get_or (front ++ last ∷ []) k last) n ∙ at_end front last last) in
    follows_last puts last change r (omega (arith, ap length all, length-append front (last ∷ []))) at are put test
