-- Tables, their numbers, and lists of them.
use Rattle.std.proofs.Common.{◌≡◌, ◌≢◌, ℕ, ◌<◌, Bool, true, false, List, [], ◌∷◌, map, get_or, take, refl, sym, ap, subst, ◌∙◌, zero-add}
use Rattle.std.specs.Prelude.{◌==◌, ◌||◌, ◌&&◌, filter}
use Rattle.std.specs.List.{list_any}
use Rattle.std.proofs.lemmas.Bool.{eq-eqb, eqb-true, true≢false}
use Rattle.std.proofs.lemmas.Map.Views.{any-filter_same}
use Rattle.std.proofs.lemmas.List.{get_or-map}
use Rattle.std.proofs.lemmas.List.FromFn.{get_or-range_with_len}
use Rattle.depot_model.specs.db_records.Table.{table_number, all_tables}
use Rattle.depot_model.specs.db_records.declared.table.TableId.{TableId}
use Rattle.depot_model.specs.db_records.declared.table.TableId.TheVariants.{Counter, Group, Protect, Domain, Have, Label, Integed, Resolve, Working, Change, Rev}

of_number : ℕ → TableId
of_number n = get_or all_tables n Rev

of_number-number : (table : TableId) → of_number (table_number table) ≡ table
unfolding of_number
of_number-number Counter = refl
of_number-number Group = refl
of_number-number Protect = refl
of_number-number Domain = refl
of_number-number Have = refl
of_number-number Label = refl
of_number-number Integed = refl
of_number-number Resolve = refl
of_number-number Working = refl
of_number-number Change = refl
of_number-number Rev = refl

-- tables with one number are one
pub same_number : (a b : TableId) → table_number a ≡ table_number b → a ≡ b
same_number a b e = sym (of_number-number a) ∙ (ap of_number e ∙ of_number-number b)

pub apart_number : (a b : TableId) → (table_number a == table_number b) ≡ false → a ≢ b
apart_number a b e same = absurd (true≢false (sym (eq-eqb (table_number a) (table_number b) (ap table_number same)) ∙ e))

-- the number of the table at a place
pub number_at : (i : ℕ) (d : TableId) → i < 11 → table_number (get_or all_tables i d) ≡ i
number_at i d h =
    sym (get_or-map table_number all_tables i d 0 h) ∙ (get_or-range_with_len 0 11 i 0 h ∙ zero-add i)

abbrev pub is_table : TableId → TableId → Bool
is_table table other = table_number other == table_number table

-- each table is among all
pub in_all : (table : TableId) → list_any (is_table table) all_tables ≡ true
in_all Counter = refl
in_all Group = refl
in_all Protect = refl
in_all Domain = refl
in_all Have = refl
in_all Label = refl
in_all Integed = refl
in_all Resolve = refl
in_all Working = refl
in_all Change = refl
in_all Rev = refl

-- none is among those before it
first : (table : TableId) → list_any (is_table table) (take (table_number table) all_tables) ≡ false
first Counter = refl
first Group = refl
first Protect = refl
first Domain = refl
first Have = refl
first Label = refl
first Integed = refl
first Resolve = refl
first Working = refl
first Change = refl
first Rev = refl

pub first_at : (i : ℕ) (d : TableId) → i < 11 → list_any (is_table (get_or all_tables i d)) (take i all_tables) ≡ false
first_at i d h = subst (λ (n : ℕ). list_any (is_table (get_or all_tables i d)) (take n all_tables) ≡ false) (number_at i d h) (first (get_or all_tables i d))

-- a table is among those that pass a test where it passes, and is among all of them
pub among_passing : (p : TableId → Bool) (table : TableId) (tables : List TableId) → list_any (is_table table) (filter p tables) ≡ (p table && list_any (is_table table) tables)
among_passing p table tables = any-filter_same (is_table table) p (p table) (λ x is. ap p (same_number x table (eqb-true (table_number x) (table_number table) is))) tables

pub any-map : {X Y : Type 0} (test : Y → Bool) (f : X → Y) (xs : List X) → list_any test (map f xs) ≡ list_any (λ x. test (f x)) xs
any-map test f [] = refl
any-map test f (x ∷ xs) = ap (λ b. test (f x) || b) (any-map test f xs)
