-- The numbers from the newest change down.
use Rattle.std.proofs.Common.{◌≡◌, ℕ, zero, suc, ◌-◌, ◌≤◌, Bool, true, false, cond, List, [], ◌∷◌, Option, Some, None, refl, sym, ap, ◌∙◌, arith}
use Rattle.std.specs.Prelude.{◌==◌, SomeIff, nat_lt, not}
use Rattle.std.specs.Ordering.{is_lt, ordering_then}
use Rattle.std.specs.declared.cmp.Ordering.TheVariants.{Less, Equal, Greater}
use Rattle.std.proofs.lemmas.Bool.{false≢true}
use Rattle.std.proofs.lemmas.Bool.Decides.{nat_tests}
use Rattle.depot_rows.specs.db_records.Key.{key_cmp}
use Rattle.depot_rows.specs.db_records.Record.{key_of}
use Rattle.depot_rows.specs.db_records.declared.key.Key.{Key}
use Rattle.depot_rows.specs.db_records.declared.key.Key.TheVariants as keys
use Rattle.depot_rows.specs.db_records.declared.record.Record.{Record}
use Rattle.depot_rows.specs.table_store.Rows.{is_at, is_below, row_at, rows_from}
use Rattle.depot_rows.proofs.Keys.{at-is}
use Rattle.change_lists.proofs.Falling.{down}

-- from one on down, where there is one
abbrev pub down_from : Option ℕ → List ℕ
down_from None = []
down_from (Some n) = down (suc n)

abbrev pub left_of : Option ℕ → ℕ
left_of None = 0
left_of (Some n) = suc n

-- what is at or above a key isn't below it
not_less : (m n : ℕ) → m ≤ n → nat_lt n m ≡ false
not_less m n h = grind (arith, nat_tests)

not_below : (m n : ℕ) → m ≤ n → is_lt (key_cmp (keys.Change n) (keys.Change m)) ≡ false
not_below m n h = go (nat_lt n m) (n == m) ∙ not_less m n h
  where
    go : (a b : Bool) → is_lt (ordering_then (cond a Less (cond b Equal Greater)) Equal) ≡ a
    go true b = refl
    go false true = refl
    go false false = refl

pub none_from : (m n : ℕ) → m ≤ n → (rows : List Record) → rows_from (keys.Change m) rows ≡ [] → row_at (keys.Change n) rows ≡ None
none_from m n h [] e = refl
none_from m n h (r ∷ rs) e = go (is_below (keys.Change m) r) refl (is_at (keys.Change n) r) refl e (λ f. none_from m n h rs f)
  where
    go : (b : Bool) → is_below (keys.Change m) r ≡ b → (a : Bool) → is_at (keys.Change n) r ≡ a
        → cond (not b) (r ∷ rows_from (keys.Change m) rs) (rows_from (keys.Change m) rs) ≡ []
        → (rows_from (keys.Change m) rs ≡ [] → row_at (keys.Change n) rs ≡ None) → cond a (Some r) (row_at (keys.Change n) rs) ≡ None
    go false low a at f more = absurd cc
    go true low false at f more = more f
    go true low true at f more =
        absurd (false≢true (sym (not_below m n h) ∙ ap (λ (k : Key). is_lt (key_cmp k (keys.Change m))) (sym (at-is (key_of r) (keys.Change n) at)) ∙ low))

-- one below a number is what stands below it
pub down_on : (n : ℕ) (next : Option ℕ) → SomeIff next (1 ≤ n) (n - 1) → down_from next ≡ down n
down_on zero None h = refl
down_on (suc n) None h = absurd (h (omega arith))
down_on n (Some m) h = let one : suc m ≡ n = omega (arith, h.0, h.1) in ap down one
