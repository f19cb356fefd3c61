-- Rows that stand for names, one for each of some names that rise.
use Rattle.std.proofs.Common.{◌≡◌, ℕ, Bool, true, false, cond, ◌⊎◌, inl, inr, List, [], ◌∷◌, ◌++◌, Option, Some, None, refl, sym, ap, ◌∙◌, subst}
use Rattle.std.specs.Prelude.{filter, filter_map, flat_map, if◌then◌else◌, option_and_then}
use Rattle.std.specs.List.{list_any, cons_option}
use Rattle.std.specs.Ordering.{nat_cmp, is_eq, is_lt, ordering_reverse, ordering_then}
use Rattle.std.specs.Cmp.Lexicographic.{slice_cmp}
use Rattle.std.specs.declared.cmp.Ordering.{Ordering}
use Rattle.std.specs.declared.cmp.Ordering.TheVariants.{Less, Equal, Greater}
use Rattle.std.proofs.lemmas.Cmp.{nat_list_cmp_total, tied_itself}
use Rattle.std.proofs.lemmas.Map.Text.{is_eq-slice_cmp}
use Rattle.std.proofs.lemmas.Bool.{or_from, or_parts}
use Rattle.depot_rows.specs.depot_path.Bytes.{same}
use Rattle.depot_rows.specs.db_records.Key.{key_cmp, key_table}
use Rattle.depot_rows.specs.db_records.Record.{key_of}
use Rattle.depot_rows.specs.db_records.declared.key.Key.{Key}
use Rattle.depot_rows.specs.db_records.declared.record.Record.{Record}
use Rattle.depot_rows.specs.db_records.declared.table.TableId.{TableId}
use Rattle.depot_rows.specs.table_store.Rows.{AllAbove, AllOfTable, IsRising, row_at}
use Rattle.row_order.proofs.Order.{AllAbove-tied}
use Rattle.depot_rows.specs.depot_model.Sorted.{inserted}
use Rattle.row_reads.proofs.Alike.{rows_alike, above_all, here, behind}
use Rattle.row_reads.proofs.GroupsListed.{kept_rise, kept_of, kept_at, pass, same_text, same_self}

-- ---- names that rise

turned : (a b : List ℕ) → slice_cmp nat_cmp a b ≡ Less → slice_cmp nat_cmp b a ≡ Greater
turned a b h = nat_list_cmp_total.antisymm b a ∙ ap ordering_reverse h

turned_back : (a b : List ℕ) → slice_cmp nat_cmp a b ≡ Greater → slice_cmp nat_cmp b a ≡ Less
turned_back a b h = nat_list_cmp_total.antisymm b a ∙ ap ordering_reverse h

higher : (a b c : List ℕ) → slice_cmp nat_cmp a b ≡ Greater → slice_cmp nat_cmp b c ≡ Greater → slice_cmp nat_cmp a c ≡ Greater
higher a b c p q = turned c a (nat_list_cmp_total.trans c b a (turned_back b c q) (turned_back a b p))

abbrev pub AllHigher : List ℕ → List (List ℕ) → Type 0
AllHigher x [] = Unit {0}
AllHigher x (y ∷ ys) = (slice_cmp nat_cmp y x ≡ Greater) × AllHigher x ys

abbrev pub AreRising : List (List ℕ) → Type 0
AreRising [] = Unit {0}
AreRising (x ∷ xs) = AllHigher x xs × AreRising xs

all_higher : (k j : List ℕ) (xs : List (List ℕ)) → slice_cmp nat_cmp k j ≡ Greater → AllHigher k xs → AllHigher j xs
all_higher k j [] h all = tt
all_higher k j (x ∷ xs) h all = (higher x k j all.0 h, all_higher k j xs h all.1)

-- a name in its place
abbrev placed : List ℕ → List ℕ → List (List ℕ) → Bool → Bool → List (List ℕ)
placed x y ys is_there is_lower = if is_there then y ∷ ys else (if is_lower then x ∷ y ∷ ys else y ∷ inserted x ys)

placed_higher : (k x y : List ℕ) (ys : List (List ℕ)) (b c : Bool) → AllHigher k (y ∷ ys) → slice_cmp nat_cmp x k ≡ Greater
    → AllHigher k (inserted x ys) → AllHigher k (placed x y ys b c)
placed_higher k x y ys true c all high more = all
placed_higher k x y ys false true all high more = (high, all)
placed_higher k x y ys false false all high more = (all.0, more)

inserted_higher : (k x : List ℕ) (ys : List (List ℕ)) → AllHigher k ys → slice_cmp nat_cmp x k ≡ Greater → AllHigher k (inserted x ys)
inserted_higher k x [] all high = (high, tt)
inserted_higher k x (y ∷ ys) all high =
    placed_higher k x y ys (same x y) (is_lt (slice_cmp nat_cmp x y)) all high (inserted_higher k x ys all.1 high)

placed_rise : (x y : List ℕ) (ys : List (List ℕ)) (b : Bool) (o : Ordering) → same x y ≡ b → slice_cmp nat_cmp x y ≡ o → AreRising (y ∷ ys)
    → AreRising (inserted x ys) → AreRising (placed x y ys b (is_lt o))
placed_rise x y ys true o e k up more = up
placed_rise x y ys false Less e k up more = ((turned x y k, all_higher y x ys (turned x y k) up.0), up)
placed_rise x y ys false Greater e k up more = (inserted_higher y x ys up.0 k, more)
placed_rise x y ys false Equal e k up more =
    let tied : is_eq (slice_cmp nat_cmp x y) ≡ true = ap is_eq k in
    absurd (let h : true ≡ false = sym tied ∙ is_eq-slice_cmp x y ∙ e in cc)

pub inserted_rise : (x : List ℕ) (ys : List (List ℕ)) → AreRising ys → AreRising (inserted x ys)
inserted_rise x [] up = (tt, tt)
inserted_rise x (y ∷ ys) up = placed_rise x y ys (same x y) (slice_cmp nat_cmp x y) refl refl up (inserted_rise x ys up.1)

-- what is in them

module _ (P : List ℕ → Type 0) where
  abbrev pub AllAre : List (List ℕ) → Type 0
  AllAre [] = Unit {0}
  AllAre (x ∷ xs) = P x × AllAre xs

  placed_are : (x y : List ℕ) (ys : List (List ℕ)) (b c : Bool) → P x → AllAre (y ∷ ys) → AllAre (inserted x ys) → AllAre (placed x y ys b c)
  placed_are x y ys true c is all more = all
  placed_are x y ys false true is all more = (is, all)
  placed_are x y ys false false is all more = (all.0, more)

  pub inserted_are : (x : List ℕ) (ys : List (List ℕ)) → P x → AllAre ys → AllAre (inserted x ys)
  inserted_are x [] is all = (is, tt)
  inserted_are x (y ∷ ys) is all = placed_are x y ys (same x y) (is_lt (slice_cmp nat_cmp x y)) is all (inserted_are x ys is all.1)

pub all_are : (P Q : List ℕ → Type 0) → ((x : List ℕ) → P x → Q x) → (xs : List (List ℕ)) → AllAre P xs → AllAre Q xs
all_are P Q more [] all = tt
all_are P Q more (x ∷ xs) all = (more x all.0, all_are P Q more xs all.1)

-- a name that isn't among others with one more isn't the one, and isn't among the others
placed_lacks : (g x y : List ℕ) (ys : List (List ℕ)) (b c : Bool) → same x y ≡ b → list_any (same g) (placed x y ys b c) ≡ false
    → (list_any (same g) (inserted x ys) ≡ false → (same g x ≡ false) × (list_any (same g) ys ≡ false))
    → (same g x ≡ false) × (list_any (same g) (y ∷ ys) ≡ false)
placed_lacks g x y ys true c e lacks more =
    let P : List ℕ → Type 0 = λ z. same g z ≡ false in
    (subst P (sym (same_text x y e)) (or_parts (same g y) (list_any (same g) ys) lacks).0, lacks)
placed_lacks g x y ys false true e lacks more = or_parts (same g x) (list_any (same g) (y ∷ ys)) lacks
placed_lacks g x y ys false false e lacks more =
    let h = or_parts (same g y) (list_any (same g) (inserted x ys)) lacks in
    let k = more h.1 in
    (k.0, or_from (same g y) (list_any (same g) ys) h.0 k.1)

pub inserted_lacks : (g x : List ℕ) (ys : List (List ℕ)) → list_any (same g) (inserted x ys) ≡ false → (same g x ≡ false) × (list_any (same g) ys ≡ false)
inserted_lacks g x [] lacks = or_parts (same g x) false lacks
inserted_lacks g x (y ∷ ys) lacks = placed_lacks g x y ys (same x y) (is_lt (slice_cmp nat_cmp x y)) refl lacks (inserted_lacks g x ys)

other_way : (x y : List ℕ) (b : Bool) → same x y ≡ b → same y x ≡ false → same x y ≡ false
other_way x y true e n = absurd (let P : List ℕ → Type 0 = λ z. same z x ≡ false in let h : true ≡ false = sym (same_self x) ∙ subst P (sym (same_text x y e)) n in cc)
other_way x y false e n = e

-- ---- their rows

pub then_equal : (o : Ordering) → ordering_then o Equal ≡ o
then_equal Less = refl
then_equal Equal = refl
then_equal Greater = refl

-- keys whose first texts are the same are as their second ones
pub tied_then : (text a b : List ℕ) → ordering_then (slice_cmp nat_cmp text text) (ordering_then (slice_cmp nat_cmp a b) Equal) ≡ slice_cmp nat_cmp a b
tied_then text a b = ap (λ o. ordering_then o (ordering_then (slice_cmp nat_cmp a b) Equal)) (tied_itself nat_list_cmp_total text) ∙ then_equal (slice_cmp nat_cmp a b)

-- a name has one key, and at most one row, which has its key
module _ (key : List ℕ → Key) (compared : (a b : List ℕ) → key_cmp (key a) (key b) ≡ slice_cmp nat_cmp a b) (said : List ℕ → Option Record)
    (own : (x : List ℕ) (r : Record) → said x ≡ Some r → key_of r ≡ key x) where
  abbrev pub rows_for : List (List ℕ) → List Record
  rows_for names = filter_map said names

  cons_above : (k x : List ℕ) (rows : List Record) (found : Option Record) → said x ≡ found → slice_cmp nat_cmp x k ≡ Greater → AllAbove (key k) rows
      → AllAbove (key k) (cons_option found rows)
  cons_above k x rows None e h above = above
  cons_above k x rows (Some r) e h above =
      let P : Key → Type 0 = λ q. key_cmp q (key k) ≡ Greater in
      (subst P (sym (own x r e)) (compared x k ∙ h), above)

  for_above : (k : List ℕ) (names : List (List ℕ)) → AllHigher k names → AllAbove (key k) (rows_for names)
  for_above k [] all = tt
  for_above k (x ∷ names) all = cons_above k x (rows_for names) (said x) refl all.0 (for_above k names all.1)

  cons_rise : (x : List ℕ) (rows : List Record) (found : Option Record) → said x ≡ found → AllAbove (key x) rows → IsRising rows → IsRising (cons_option found rows)
  cons_rise x rows None e above up = up
  cons_rise x rows (Some r) e above up =
      let P : Key → Type 0 = λ q. AllAbove q rows in
      (subst P (sym (own x r e)) above, up)

  pub for_rise : (names : List (List ℕ)) → AreRising names → IsRising (rows_for names)
  for_rise [] up = tt
  for_rise (x ∷ names) up = cons_rise x (rows_for names) (said x) refl (for_above x names up.0) (for_rise names up.1)

  -- the row of a name, where a name that isn't among them has none
  abbrev IsWhole : List ℕ → List (List ℕ) → Type 0
  IsWhole x names = list_any (same x) names ≡ false → said x ≡ None

  tied_name : (x y : List ℕ) → slice_cmp nat_cmp y x ≡ Equal → y ≡ x
  tied_name x y e = same_text y x (sym (is_eq-slice_cmp y x) ∙ ap is_eq e)

  behind_whole : (x y : List ℕ) (ys : List (List ℕ)) → same y x ≡ false → IsWhole x (y ∷ ys) → IsWhole x ys
  behind_whole x y ys n whole lacks = whole (or_from (same x y) (list_any (same x) ys) (other_way x y (same x y) refl n) lacks)

  untied : (x y : List ℕ) (o : Ordering) → slice_cmp nat_cmp y x ≡ o → is_eq o ≡ false → same y x ≡ false
  untied x y o e n = sym (is_eq-slice_cmp y x) ∙ ap is_eq e ∙ n

  cons_at : (x y : List ℕ) (rows : List Record) (found : Option Record) (o : Ordering) → said y ≡ found → slice_cmp nat_cmp y x ≡ o → is_eq o ≡ false
      → row_at (key x) (cons_option found rows) ≡ row_at (key x) rows
  cons_at x y rows None o e k n = refl
  cons_at x y rows (Some r) o e k n =
      let P : Key → Type 0 = λ q. key_cmp q (key x) ≡ o in
      behind (key x) r rows o (subst P (sym (own y r e)) (compared y x ∙ k)) n

  first_at : (x y : List ℕ) (ys : List (List ℕ)) (found : Option Record) (o : Ordering) → said y ≡ found → slice_cmp nat_cmp y x ≡ o → AllHigher y ys
      → IsWhole x (y ∷ ys) → (IsWhole x ys → row_at (key x) (rows_for ys) ≡ said x) → row_at (key x) (cons_option found (rows_for ys)) ≡ said x
  first_at x y ys None Equal e k above whole more =
      above_all (key x) (rows_for ys) (AllAbove-tied (key y) (key x) (rows_for ys) (compared y x ∙ k) (for_above y ys above)) ∙ sym e ∙ ap said (tied_name x y k)
  first_at x y ys (Some r) Equal e k above whole more =
      let P : Key → Type 0 = λ q. key_cmp q (key x) ≡ Equal in
      here (key x) r (rows_for ys) (subst P (sym (own y r e)) (compared y x ∙ k)) ∙ sym e ∙ ap said (tied_name x y k)
  first_at x y ys found Less e k above whole more =
      cons_at x y (rows_for ys) found Less e k refl ∙ more (behind_whole x y ys (untied x y Less k refl) whole)
  first_at x y ys found Greater e k above whole more =
      cons_at x y (rows_for ys) found Greater e k refl ∙ more (behind_whole x y ys (untied x y Greater k refl) whole)

  for_at : (x : List ℕ) (names : List (List ℕ)) → AreRising names → IsWhole x names → row_at (key x) (rows_for names) ≡ said x
  for_at x [] up whole = sym (whole refl)
  for_at x (y ∷ ys) up whole = first_at x y ys (said y) (slice_cmp nat_cmp y x) refl refl up.0 whole (for_at x ys up.1)

  -- what is read of the rows of names that all have one
  cons_read : (read : Record → List (List ℕ)) → ((x : List ℕ) (r : Record) → said x ≡ Some r → read r ≡ x ∷ []) → (x : List ℕ) (names : List (List ℕ)) (found : Option Record)
      → said x ≡ found → ((r : Record) × (said x ≡ Some r)) → flat_map read (rows_for names) ≡ names → flat_map read (cons_option found (rows_for names)) ≡ x ∷ names
  cons_read read one x names None e is more = absurd (let h : None ≡ Some is.0 = sym e ∙ is.1 in cc)
  cons_read read one x names (Some r) e is more =
      ap (λ (l : List (List ℕ)). l ++ flat_map read (rows_for names)) (one x r e) ∙ ap (λ (l : List (List ℕ)). x ∷ l) more

  pub names_read : (read : Record → List (List ℕ)) → ((x : List ℕ) (r : Record) → said x ≡ Some r → read r ≡ x ∷ []) → (names : List (List ℕ))
      → AllAre (λ x. (r : Record) × (said x ≡ Some r)) names → flat_map read (rows_for names) ≡ names
  names_read read one [] all = refl
  names_read read one (x ∷ names) all = cons_read read one x names (said x) refl all.0 (names_read read one names all.1)

  -- the rows of a range are those of names, where the keys of the range are those of names
  module _ (t : TableId) (of_key : (x : List ℕ) → key_table (key x) ≡ t) (test : Record → Bool) (passes : (x : List ℕ) (r : Record) → said x ≡ Some r → test r ≡ true)
      (known : (q : Key) → key_table q ≡ t → ((x : List ℕ) × (q ≡ key x)) ⊎ ((r : Record) → test r ≡ true → key_cmp (key_of r) q ≡ Equal → ⊥)) where
    abbrev AllPass : List Record → Type 0
    AllPass [] = Unit {0}
    AllPass (r ∷ rows) = (test r ≡ true) × AllPass rows

    cond_pass : (r : Record) (rows : List Record) (b : Bool) → test r ≡ b → AllPass rows → AllPass (cond b (r ∷ rows) rows)
    cond_pass r rows true e all = (e, all)
    cond_pass r rows false e all = all

    kept_pass : (rows : List Record) → AllPass (filter test rows)
    kept_pass [] = tt
    kept_pass (r ∷ rows) = cond_pass r (filter test rows) (test r) refl (kept_pass rows)

    cons_pass : (x : List ℕ) (rows : List Record) (found : Option Record) → said x ≡ found → AllPass rows → AllPass (cons_option found rows)
    cons_pass x rows None e all = all
    cons_pass x rows (Some r) e all = (passes x r e, all)

    for_pass : (names : List (List ℕ)) → AllPass (rows_for names)
    for_pass [] = tt
    for_pass (x ∷ names) = cons_pass x (rows_for names) (said x) refl (for_pass names)

    cons_of : (x : List ℕ) (rows : List Record) (found : Option Record) → said x ≡ found → AllOfTable t rows → AllOfTable t (cons_option found rows)
    cons_of x rows None e of = of
    cons_of x rows (Some r) e of = let P : Key → Type 0 = λ q. key_table q ≡ t in (subst P (sym (own x r e)) (of_key x), of)

    for_of : (names : List (List ℕ)) → AllOfTable t (rows_for names)
    for_of [] = tt
    for_of (x ∷ names) = cons_of x (rows_for names) (said x) refl (for_of names)

    -- no row at another key
    first_none : (q : Key) (r : Record) (rows : List Record) (o : Ordering) → key_cmp (key_of r) q ≡ o → (key_cmp (key_of r) q ≡ Equal → ⊥) → row_at q rows ≡ None
        → row_at q (r ∷ rows) ≡ None
    first_none q r rows Equal e never more = absurd (never e)
    first_none q r rows Less e never more = behind q r rows Less e refl ∙ more
    first_none q r rows Greater e never more = behind q r rows Greater e refl ∙ more

    none_at : (q : Key) (rows : List Record) → AllPass rows → ((r : Record) → test r ≡ true → key_cmp (key_of r) q ≡ Equal → ⊥) → row_at q rows ≡ None
    none_at q [] all never = refl
    none_at q (r ∷ rows) all never = first_none q r rows (key_cmp (key_of r) q) refl (never r all.0) (none_at q rows all.1 never)

    passed : (x : List ℕ) (found : Option Record) → said x ≡ found → option_and_then (λ r. pass test (test r) r) found ≡ found
    passed x None e = refl
    passed x (Some r) e = ap (λ b. pass test b r) (passes x r e)

    pub rows_are : (rows : List Record) → IsRising rows → AllOfTable t rows → (names : List (List ℕ)) → AreRising names
        → ((x : List ℕ) → list_any (same x) names ≡ false → said x ≡ None) → ((x : List ℕ) → row_at (key x) rows ≡ said x) → filter test rows ≡ rows_for names
    rows_are rows up of names rising whole has =
        rows_alike t (filter test rows) (rows_for names) (kept_rise test rows up) (for_rise names rising) (kept_of test t rows of) (for_of names) each
      where
        at_name : (x : List ℕ) → row_at (key x) (filter test rows) ≡ row_at (key x) (rows_for names)
        at_name x =
            kept_at test (key x) rows up ∙ ap (λ found. option_and_then (λ r. pass test (test r) r) found) (has x) ∙ passed x (said x) refl ∙ sym (for_at x names rising (whole x))

        each : (q : Key) → key_table q ≡ t → row_at q (filter test rows) ≡ row_at q (rows_for names)
        each q k = elim (known q k) [
          | inl is ↦ let P : Key → Type 0 = λ z. row_at z (filter test rows) ≡ row_at z (rows_for names) in subst P (sym is.1) (at_name is.0)
          | inr never ↦ none_at q (filter test rows) (kept_pass rows) never ∙ sym (none_at q (rows_for names) (for_pass names) never)
        ]
