-- Rows in the order of their marks, beside the same rows in the order of their keys.
use Rattle.std.proofs.Common.{◌≡◌, ℕ, Bool, true, false, not, cond, List, [], ◌∷◌, ◌++◌, drop, get_or, Option, Some, None, IsSome, Result, Ok, Err, OnOk, OnErr, refl, sym, ap, ◌∙◌, subst, ◌⊎◌, inl, inr, arith}
use Rattle.std.specs.Prelude.{◌&&◌, if◌then◌else◌}
use Rattle.std.specs.List.{filter, find}
use Rattle.std.specs.Option.{is_some, option_cmp}
use Rattle.std.specs.Cmp.{IsTotalOrder}
use Rattle.std.specs.Cmp.Lexicographic.{on_texts, options_total, slice_cmp}
use Rattle.std.specs.Ordering.{nat_cmp, is_lt, is_eq, is_gt, ordering_reverse, ordering_then}
use Rattle.std.specs.declared.cmp.Ordering.{Ordering}
use Rattle.std.specs.declared.cmp.Ordering.TheVariants.{Less, Equal, Greater}
use Rattle.std.proofs.lemmas.Bool.{false≢true, true≢false}
use Rattle.std.proofs.lemmas.Bool.Decides.{Decides-eqb}
use Rattle.std.proofs.lemmas.Map.Text.{is_eq-slice_cmp}
use Rattle.std.proofs.lemmas.Slice.Eq.{bytes_eq-Decides}
use Rattle.db_records.specs.declared.change.Op.{Op}
use Rattle.db_records.specs.declared.change.Op.TheVariants.{Put, Replace, Remove}
use Rattle.db_records.specs.declared.key.Key.{Key}
use Rattle.db_records.specs.declared.record.Record.{Record}
use Rattle.db_records.specs.declared.record.Record.TheVariants as rows
use Rattle.db_records.specs.Key.{key_cmp}
use Rattle.db_records.specs.KeyLaws.{keys_total}
use Rattle.db_records.specs.Record.{key_of}
use Rattle.db_records.proofs.Order.{keys_equal}
use Rattle.db_records.specs.depot_path.Bytes.{same}
use Rattle.table_store.specs.Places.{Mark, OfChange, OfClient, OfUser, OfFix, mark_text, mark_cmp, Place, place_cmp, at_key, by_key, left_by, stands_below, stands_at, stands_above, AllStandAbove, StandsRising, standing_from, placed_once}
use Rattle.table_store.specs.Rows.{is_below, is_above, AllAbove, IsRising, row_at, changed_once}
use Rattle.table_store.specs.Marks.{is_fix, fixing, mark_of, is_of, by_mark, HasPlace, AllHavePlaces, leading, if_passed, rows_now, from_start}
use Rattle.table_store.proofs.Order.{places_total, below_turned, StandsRising-filter}

-- ---- rows of a list

abbrev pub In : Record → List Record → Type 0
In r [] = ⊥
In r (x ∷ xs) = (r ≡ x) ⊎ In r xs

some-in : (test : Record → Bool) (xs : List Record) → IsSome (find test xs) → ((e : Record) × (In e xs) × (test e ≡ true))
some-in test [] some = cc
some-in test (x ∷ xs) some = go (test x) refl (some-in test xs) some
  where
    go : (b : Bool) → test x ≡ b → (IsSome (find test xs) → ((e : Record) × (In e xs) × (test e ≡ true))) → IsSome (cond b (Some x) (find test xs)) → ((e : Record) × (In e (x ∷ xs)) × (test e ≡ true))
    go true is more some = (x, inl refl, is)
    go false is more some = let found = more some in (found.0, inr found.1, found.2)

in-some : (test : Record → Bool) (xs : List Record) (e : Record) → In e xs → test e ≡ true → IsSome (find test xs)
in-some test [] e is passes = elim is [ ]
in-some test (x ∷ xs) e is passes = go (test x) refl is (λ more. in-some test xs e more passes)
  where
    go : (b : Bool) → test x ≡ b → In e (x ∷ xs) → (In e xs → IsSome (find test xs)) → IsSome (cond b (Some x) (find test xs))
    go true at there more = refl
    go false at (inl same) more = absurd (false≢true (sym at ∙ (ap test (sym same) ∙ passes)))
    go false at (inr rest) more = more rest

in-front : (e : Record) (xs ys : List Record) → In e xs → In e (xs ++ ys)
in-front e [] ys is = elim is [ ]
in-front e (x ∷ xs) ys (inl same) = inl same
in-front e (x ∷ xs) ys (inr is) = inr (in-front e xs ys is)

in-back : (e : Record) (xs ys : List Record) → In e ys → In e (xs ++ ys)
in-back e [] ys is = is
in-back e (x ∷ xs) ys is = inr (in-back e xs ys is)

of-append : (e : Record) (xs ys : List Record) → In e (xs ++ ys) → In e xs ⊎ In e ys
of-append e [] ys is = inr is
of-append e (x ∷ xs) ys (inl same) = inl (inl same)
of-append e (x ∷ xs) ys (inr is) = elim (of-append e xs ys is) [ inl front ↦ inl (inr front) | inr back ↦ inr back ]

in-filter : (p : Record → Bool) (e : Record) (xs : List Record) → In e xs → p e ≡ true → In e (filter p xs)
in-filter p e [] is passes = elim is [ ]
in-filter p e (x ∷ xs) is passes = go (p x) refl is (λ rest. in-filter p e xs rest passes)
  where
    go : (b : Bool) → p x ≡ b → In e (x ∷ xs) → (In e xs → In e (filter p xs)) → In e (cond b (x ∷ filter p xs) (filter p xs))
    go true at (inl same) more = inl same
    go true at (inr rest) more = inr (more rest)
    go false at (inl same) more = absurd (false≢true (sym at ∙ (ap p (sym same) ∙ passes)))
    go false at (inr rest) more = more rest

of-filter : (p : Record → Bool) (e : Record) (xs : List Record) → In e (filter p xs) → In e xs × (p e ≡ true)
of-filter p e [] is = elim is [ ]
of-filter p e (x ∷ xs) is = go (p x) refl is (of-filter p e xs)
  where
    go : (b : Bool) → p x ≡ b → In e (cond b (x ∷ filter p xs) (filter p xs)) → (In e (filter p xs) → In e xs × (p e ≡ true)) → In e (x ∷ xs) × (p e ≡ true)
    go true at (inl same) more = (inl same, ap p same ∙ at)
    go true at (inr rest) more = let found = more rest in (inr found.0, found.1)
    go false at rest more = let found = more rest in (inr found.0, found.1)

found-in : (test : Record → Bool) (xs : List Record) (r : Record) → find test xs ≡ Some r → In r xs × (test r ≡ true)
found-in test [] r e = absurd (false≢true (ap is_some e))
found-in test (x ∷ xs) r e = go (test x) refl e (found-in test xs r)
  where
    go : (b : Bool) → test x ≡ b → cond b (Some x) (find test xs) ≡ Some r → (find test xs ≡ Some r → In r xs × (test r ≡ true)) → In r (x ∷ xs) × (test r ≡ true)
    go true at same more = let is : x ≡ r = some-is x r same in (inl (sym is), ap test (sym is) ∙ at)
      where
        some-is : (a b : Record) → Some a ≡ Some b → a ≡ b
        some-is a b p = ap (λ (o : Option Record). elim o as (λ _. Record) [ None ↦ a | Some c ↦ c ]) p
    go false at same more = let found = more same in (inr found.0, found.1)

-- ---- rows that rise are told by which they are

equal-is : (o : Ordering) → is_eq o ≡ true → o ≡ Equal
equal-is Less is = absurd (false≢true is)
equal-is Equal is = refl
equal-is Greater is = absurd (false≢true is)

not-both : (o : Ordering) → o ≡ Less → o ≡ Greater → ⊥
not-both Less p q = cc
not-both Equal p q = cc
not-both Greater p q = cc

no-circle : (a b : Place) → place_cmp a b ≡ Greater → place_cmp b a ≡ Greater → ⊥
no-circle a b p q = not-both (place_cmp b a) (below_turned a b p) q

-- what isn't above or below itself is equal
self-equal : {K : Type 0} {R : K → K → Ordering} → IsTotalOrder R → (k : K) → R k k ≡ Equal
self-equal {K} {R} total k = go (R k k) refl
  where
    go : (o : Ordering) → R k k ≡ o → R k k ≡ Equal
    go Less is = absurd (not-both (R k k) is (total.antisymm k k ∙ ap ordering_reverse is))
    go Equal is = is
    go Greater is = absurd (not-both (R k k) (total.antisymm k k ∙ ap ordering_reverse is) is)

module _ (place : Record → Place) where
  above-in : (p : Place) (rows : List Record) (r : Record) → AllStandAbove place p rows → In r rows → place_cmp (place r) p ≡ Greater
  above-in p [] r all x = elim x [ ]
  above-in p (x ∷ xs) r all (inl e) = ap (λ (y : Record). place_cmp (place y) p) e ∙ all.0
  above-in p (x ∷ xs) r all (inr is) = above-in p xs r all.1 is

  all-above : (p : Place) (rows : List Record) → ((r : Record) → In r rows → place_cmp (place r) p ≡ Greater) → AllStandAbove place p rows
  all-above p [] each = tt
  all-above p (x ∷ xs) each = (each x (inl refl), all-above p xs (λ r is. each r (inr is)))

  first-same : (x y : Record) (xs ys : List Record) → StandsRising place (x ∷ xs) → StandsRising place (y ∷ ys) → In x (y ∷ ys) → In y (x ∷ xs) → x ≡ y
  first-same x y xs ys up vp (inl e) there = e
  first-same x y xs ys up vp (inr is) (inl e) = sym e
  first-same x y xs ys up vp (inr is) (inr there) = absurd (no-circle (place x) (place y) (above-in (place y) ys x vp.0 is) (above-in (place x) xs y up.0 there))

  past-first : (r x : Record) (xs : List Record) → AllStandAbove place (place x) xs → In r xs → r ≡ x → ⊥
  past-first r x xs all is e =
      let self : place_cmp (place r) (place r) ≡ Greater = ap (λ (y : Record). place_cmp (place r) (place y)) e ∙ above-in (place x) xs r all is in
      no-circle (place r) (place r) self self

  rest-in : (r y : Record) (ys : List Record) → (r ≡ y → ⊥) → In r (y ∷ ys) → In r ys
  rest-in r y ys other (inl e) = absurd (other e)
  rest-in r y ys other (inr is) = is

  rising_same : (xs ys : List Record) → StandsRising place xs → StandsRising place ys → ((r : Record) → In r xs → In r ys) → ((r : Record) → In r ys → In r xs) → xs ≡ ys
  rising_same [] [] up vp to from = refl
  rising_same [] (y ∷ ys) up vp to from = absurd (from y (inl refl))
  rising_same (x ∷ xs) [] up vp to from = absurd (to x (inl refl))
  rising_same (x ∷ xs) (y ∷ ys) up vp to from =
      let first = first-same x y xs ys up vp (to x (inl refl)) (from y (inl refl)) in
      let rest = rising_same xs ys up.1 vp.1
      (λ r is. rest-in r y ys (λ e. past-first r x xs up.0 is (e ∙ sym first)) (to r (inr is)))
      (λ r is. rest-in r x xs (λ e. past-first r y ys vp.0 is (e ∙ first)) (from r (inr is))) in
      λ i. first i ∷ rest i

  -- the first rows of some that rise do
  lead-above : (test : Record → Bool) (p : Place) (rows : List Record) → AllStandAbove place p rows → AllStandAbove place p (leading test rows)
  lead-above test p [] all = tt
  lead-above test p (x ∷ xs) all =
      let rest = lead-above test p xs all.1 in
      elim (test x) as (λ b. AllStandAbove place p (cond b (x ∷ leading test xs) [])) [ true ↦ (all.0, rest) | false ↦ tt ]

  lead-rises : (test : Record → Bool) (rows : List Record) → StandsRising place rows → StandsRising place (leading test rows)
  lead-rises test [] up = tt
  lead-rises test (x ∷ xs) up =
      let rest = lead-rises test xs up.1 in
      elim (test x) as (λ b. StandsRising place (cond b (x ∷ leading test xs) [])) [ true ↦ (lead-above test (place x) xs up.0, rest) | false ↦ tt ]

of-leading : (test : Record → Bool) (e : Record) (rows : List Record) → In e (leading test rows) → In e rows × (test e ≡ true)
of-leading test e [] is = elim is [ ]
of-leading test e (x ∷ xs) is = go (test x) refl is (of-leading test e xs)
  where
    go : (b : Bool) → test x ≡ b → In e (cond b (x ∷ leading test xs) []) → (In e (leading test xs) → In e xs × (test e ≡ true)) → In e (x ∷ xs) × (test e ≡ true)
    go true at (inl same) more = (inl same, ap test same ∙ at)
    go true at (inr rest) more = let found = more rest in (inr found.0, found.1)
    go false at is more = elim is [ ]

-- ---- marks

text-is : (a b : List ℕ) → slice_cmp nat_cmp a b ≡ Equal → a ≡ b
text-is a b e = (bytes_eq-Decides a b).0 (sym (is_eq-slice_cmp a b) ∙ ap is_eq e)

mark-is : (a b : Mark) → mark_text a ≡ mark_text b → a ≡ b
mark-is (OfChange a) (OfChange b) e = ap (λ (t : List ℕ). OfChange (get_or t 1 0)) e
mark-is (OfClient a) (OfClient b) e = ap (λ (t : List ℕ). OfClient (drop 1 t)) e
mark-is (OfUser a) (OfUser b) e = ap (λ (t : List ℕ). OfUser (drop 1 t)) e
mark-is (OfFix a) (OfFix b) e = ap (λ (t : List ℕ). OfFix (drop 1 t)) e
mark-is _ _ e = absurd (omega (arith, ap (λ (t : List ℕ). get_or t 0 0) e))

marks_total : IsTotalOrder mark_cmp
marks_total = on_texts mark_text

maybe_total : IsTotalOrder (option_cmp mark_cmp)
maybe_total = options_total marks_total

option-is : (m : Mark) (a : Option Mark) → option_cmp mark_cmp a (Some m) ≡ Equal → a ≡ Some m
option-is m None e = cc
option-is m (Some n) e = ap (λ (k : Mark). Some k) (mark-is n m (text-is (mark_text n) (mark_text m) e))

same-is : (a b : List ℕ) → same a b ≡ true → a ≡ b
same-is a b e = (bytes_eq-Decides a b).0 e

has-is : (m : Mark) (row : Record) → is_of m row ≡ true → mark_of row ≡ Some m
has-is (OfChange n) (rows.Rev row) e = ap (λ (k : ℕ). Some (OfChange k)) ((Decides-eqb row.change n).0 e)
has-is (OfClient c) (rows.Working row) e = ap (λ (k : List ℕ). Some (OfClient k)) (same-is row.client c e)
has-is (OfUser u) (rows.Group row) e = ap (λ (k : List ℕ). Some (OfUser k)) (same-is row.user u e)
has-is (OfFix c) (rows.Domain row) e = go (is_fix row) e
  where
    go : (b : Bool) → (b && same (fixing row) c) ≡ true → (if b then Some (OfFix (fixing row)) else None) ≡ Some (OfFix c)
    go true h = ap (λ (k : List ℕ). Some (OfFix k)) (same-is (fixing row) c h)
    go false h = absurd (false≢true h)
has-is _ _ e = absurd (false≢true e)

same-self : (a : List ℕ) → same a a ≡ true
same-self a = (bytes_eq-Decides a a).1 refl

one-mark : (a b : Mark) → Some a ≡ Some b → a ≡ b
one-mark a b p = ap (λ (o : Option Mark). elim o as (λ _. Mark) [ None ↦ a | Some c ↦ c ]) p

-- a row that stands by a mark has it
has-self : (m : Mark) (row : Record) → mark_of row ≡ Some m → is_of m row ≡ true
has-self m (rows.Rev row) e = subst (λ (k : Mark). is_of k (rows.Rev row) ≡ true) (one-mark (OfChange row.change) m e) ((Decides-eqb row.change row.change).1 refl)
has-self m (rows.Working row) e = subst (λ (k : Mark). is_of k (rows.Working row) ≡ true) (one-mark (OfClient row.client) m e) (same-self row.client)
has-self m (rows.Group row) e = subst (λ (k : Mark). is_of k (rows.Group row) ≡ true) (one-mark (OfUser row.user) m e) (same-self row.user)
has-self m (rows.Domain row) e = go (is_fix row) refl e
  where
    go : (b : Bool) → is_fix row ≡ b → (if b then Some (OfFix (fixing row)) else None) ≡ Some m → is_of m (rows.Domain row) ≡ true
    go true is e = subst (λ (k : Mark). is_of k (rows.Domain row) ≡ true) (one-mark (OfFix (fixing row)) m e) (λ i. is i && same-self (fixing row) i)
    go false is e = absurd (false≢true (ap is_some e))
has-self m _ e = absurd (false≢true (ap is_some e))

then-equal : (x y : Ordering) → ordering_then x y ≡ Equal → (x ≡ Equal) × (y ≡ Equal)
then-equal Less y e = absurd cc
then-equal Equal y e = (refl, e)
then-equal Greater y e = absurd cc

-- places of one mark stand by their keys
of-one-mark : (m : Mark) (a b : Option Mark) (o : Ordering) → a ≡ Some m → b ≡ Some m → ordering_then (option_cmp mark_cmp a b) o ≡ o
of-one-mark m a b o p q = (λ i. ordering_then (option_cmp mark_cmp (p i) (q i)) o) ∙ ap (λ (x : Ordering). ordering_then x o) (self-equal marks_total m)

-- a place that is not below one of a mark, and below another one of it, is of it too
between : (m : Mark) (a : Option Mark) (s t : Ordering) → ordering_then (option_cmp mark_cmp (Some m) a) s ≡ Greater → is_lt (ordering_then (option_cmp mark_cmp a (Some m)) t) ≡ false → a ≡ Some m
between m a s t high low = go (option_cmp mark_cmp a (Some m)) refl
  where
    go : (o : Ordering) → option_cmp mark_cmp a (Some m) ≡ o → a ≡ Some m
    go Less e = absurd (true≢false (sym (ap (λ (x : Ordering). is_lt (ordering_then x t)) e) ∙ low))
    go Equal e = option-is m a e
    go Greater e =
        let turned : option_cmp mark_cmp (Some m) a ≡ Less = maybe_total.antisymm (Some m) a ∙ ap ordering_reverse e in
        absurd (not-both (ordering_then (option_cmp mark_cmp (Some m) a) s) (ap (λ (x : Ordering). ordering_then x s) turned) high)

-- ---- places are kept

-- fewer rows have their places
pub AllHavePlaces-filter : (marked : List Record) (test : Record → Bool) (rows : List Record) → AllHavePlaces marked rows → AllHavePlaces marked (filter test rows)
AllHavePlaces-filter marked test [] all = tt
AllHavePlaces-filter marked test (row ∷ rows) all =
    let rest = AllHavePlaces-filter marked test rows all.1 in
    elim (test row) as (λ b. AllHavePlaces marked (cond b (row ∷ filter test rows) (filter test rows))) [ true ↦ (all.0, rest) | false ↦ rest ]

places-more : (marked more : List Record) (rows : List Record) → ((r : Record) → HasPlace marked r → HasPlace more r) → AllHavePlaces marked rows → AllHavePlaces more rows
places-more marked more [] kept all = tt
places-more marked more (row ∷ rows) kept all = (kept row all.0, places-more marked more rows kept all.1)

places-append : (marked xs ys : List Record) → AllHavePlaces marked xs → AllHavePlaces marked ys → AllHavePlaces marked (xs ++ ys)
places-append marked [] ys p q = q
places-append marked (x ∷ xs) ys p q = (p.0, places-append marked xs ys p.1 q)

place-of : (marked rows : List Record) (r : Record) → AllHavePlaces marked rows → In r rows → HasPlace marked r
place-of marked [] r all is = elim is [ ]
place-of marked (x ∷ xs) r all (inl same) = subst (HasPlace marked) (sym same) all.0
place-of marked (x ∷ xs) r all (inr is) = place-of marked xs r all.1 is

-- what is found goes on being found, if a place between the others has what is there
kept : (test below above : Record → Bool) (left marked : List Record)
    → ((e : Record) → test e ≡ true → (below e ≡ true) ⊎ ((above e ≡ true) ⊎ IsSome (find test left)))
    → IsSome (find test marked) → IsSome (find test (filter below marked ++ (left ++ filter above marked)))
kept test below above left marked parted some =
    let found = some-in test marked some in
    go found.0 found.1 found.2 (parted found.0 found.2)
  where
    end : List Record
    end = filter above marked

    go : (e : Record) → In e marked → test e ≡ true → (below e ≡ true) ⊎ ((above e ≡ true) ⊎ IsSome (find test left)) → IsSome (find test (filter below marked ++ (left ++ end)))
    go e is passes (inl low) = in-some test (filter below marked ++ (left ++ end)) e (in-front e (filter below marked) (left ++ end) (in-filter below e marked is low)) passes
    go e is passes (inr (inl high)) = in-some test (filter below marked ++ (left ++ end)) e (in-back e (filter below marked) (left ++ end) (in-back e left end (in-filter above e marked is high))) passes
    go e is passes (inr (inr there)) =
        let got = some-in test left there in
        in-some test (filter below marked ++ (left ++ end)) got.0 (in-back got.0 (filter below marked) (left ++ end) (in-front got.0 left end got.1)) got.2

-- ---- a row that is put

module _ (op : Op) (row : Record) (marked : List Record) (other : op ≡ Remove → ⊥) where
  abbrev after : List Record
  after = placed_once by_mark marked op row

  at-row : (p : Place) (o : Op) → (o ≡ Remove → ⊥) → stands_at by_mark p row ≡ true → IsSome (find (stands_at by_mark p) (left_by o row))
  at-row p Put not is = ap (λ (b : Bool). is_some (cond b (Some row) None)) is
  at-row p Replace not is = ap (λ (b : Bool). is_some (cond b (Some row) None)) is
  at-row p Remove not is = absurd (not refl)

  parted : (p : Place) (e : Record) → stands_at by_mark p e ≡ true → (stands_below by_mark (by_mark row) e ≡ true) ⊎ ((stands_above by_mark (by_mark row) e ≡ true) ⊎ IsSome (find (stands_at by_mark p) (left_by op row)))
  parted p e passes = go (place_cmp (by_mark e) (by_mark row)) refl
    where
      go : (o : Ordering) → place_cmp (by_mark e) (by_mark row) ≡ o → (stands_below by_mark (by_mark row) e ≡ true) ⊎ ((stands_above by_mark (by_mark row) e ≡ true) ⊎ IsSome (find (stands_at by_mark p) (left_by op row)))
      go Less is = inl (ap is_lt is)
      go Greater is = inr (inl (ap is_gt is))
      go Equal is = inr (inr (at-row p op other (ap is_eq (sym (places_total.congr (by_mark e) (by_mark row) p is)) ∙ passes)))

  found-placed : (r : Record) → HasPlace marked r → HasPlace after r
  found-placed r has marks = kept (stands_at by_mark (by_mark r)) (stands_below by_mark (by_mark row)) (stands_above by_mark (by_mark row)) (left_by op row) marked (parted (by_mark r)) (has marks)

  -- the row has its place
  placed : HasPlace after row
  placed marks = in-some (stands_at by_mark (by_mark row)) after row (there op other) (ap is_eq (self-equal places_total (by_mark row)))
    where
      there : (o : Op) → (o ≡ Remove → ⊥) → In row (placed_once by_mark marked o row)
      there Put not = in-back row (filter (stands_below by_mark (by_mark row)) marked) (row ∷ filter (stands_above by_mark (by_mark row)) marked) (inl refl)
      there Replace not = in-back row (filter (stands_below by_mark (by_mark row)) marked) (row ∷ filter (stands_above by_mark (by_mark row)) marked) (inl refl)
      there Remove not = absurd (not refl)

  left-placed : (o : Op) → AllHavePlaces after (left_by o row)
  left-placed Put = (placed, tt)
  left-placed Replace = (placed, tt)
  left-placed Remove = tt

  pub places_more : (rows : List Record) → AllHavePlaces marked rows → AllHavePlaces after rows
  places_more rows all = places-more marked after rows found-placed all

  pub places_changed : (rows : List Record) → AllHavePlaces marked rows → AllHavePlaces after (changed_once rows (record { op = op; row = row }))
  places_changed rows all =
      let more = places_more rows all in
      places-append after (filter (is_below (key_of row)) rows) (left_by op row ++ filter (is_above (key_of row)) rows) (AllHavePlaces-filter after (is_below (key_of row)) rows more)
      (places-append after (left_by op row) (filter (is_above (key_of row)) rows) (left-placed op) (AllHavePlaces-filter after (is_above (key_of row)) rows more))

-- ---- a row that goes away

module _ (row : Record) (marked : List Record) where
  abbrev without : List Record
  without = placed_once by_mark marked Remove row

  found-removed : (r : Record) → (key_cmp (key_of r) (key_of row) ≡ Equal → ⊥) → HasPlace marked r → HasPlace without r
  found-removed r other has marks =
      kept (stands_at by_mark (by_mark r)) (stands_below by_mark (by_mark row)) (stands_above by_mark (by_mark row)) [] marked (λ e passes. go e passes (place_cmp (by_mark e) (by_mark row)) refl) (has marks)
    where
      go : (e : Record) → stands_at by_mark (by_mark r) e ≡ true → (o : Ordering) → place_cmp (by_mark e) (by_mark row) ≡ o → (stands_below by_mark (by_mark row) e ≡ true) ⊎ ((stands_above by_mark (by_mark row) e ≡ true) ⊎ IsSome (find (stands_at by_mark (by_mark r)) []))
      go e passes Less is = inl (ap is_lt is)
      go e passes Greater is = inr (inl (ap is_gt is))
      go e passes Equal is =
          let tied : place_cmp (by_mark r) (by_mark row) ≡ Equal = sym (places_total.congr (by_mark e) (by_mark r) (by_mark row) (equal-is (place_cmp (by_mark e) (by_mark r)) passes)) ∙ is in
          absurd (other (then-equal (option_cmp mark_cmp (mark_of r) (mark_of row)) (key_cmp (key_of r) (key_of row)) tied).1)

  -- of rows that aren't at the key of the one that goes
  removed-filter : (test : Record → Bool) → ((r : Record) → test r ≡ true → key_cmp (key_of r) (key_of row) ≡ Equal → ⊥) → (rows : List Record) → AllHavePlaces marked rows → AllHavePlaces without (filter test rows)
  removed-filter test other [] all = tt
  removed-filter test other (r ∷ rows) all = go (test r) refl (removed-filter test other rows all.1)
    where
      go : (b : Bool) → test r ≡ b → AllHavePlaces without (filter test rows) → AllHavePlaces without (cond b (r ∷ filter test rows) (filter test rows))
      go true is rest = (found-removed r (other r is) all.0, rest)
      go false is rest = rest

  pub places_removed : (rows : List Record) → AllHavePlaces marked rows → AllHavePlaces without (changed_once rows (record { op = Remove; row = row }))
  places_removed rows all =
      places-append without (filter (is_below (key_of row)) rows) (filter (is_above (key_of row)) rows)
      (removed-filter (is_below (key_of row)) (λ r low e. false≢true (sym (ap is_lt e) ∙ low)) rows all)
      (removed-filter (is_above (key_of row)) (λ r high e. false≢true (sym (ap is_gt e) ∙ high)) rows all)

-- ---- a change of any kind

module _ (row : Record) (marked : List Record) where
  -- of a row without a mark
  left-unmarked : (op : Op) → mark_of row ≡ None → AllHavePlaces marked (left_by op row)
  left-unmarked Put none = ((λ some. absurd (false≢true (sym (ap is_some none) ∙ some))), tt)
  left-unmarked Replace none = ((λ some. absurd (false≢true (sym (ap is_some none) ∙ some))), tt)
  left-unmarked Remove none = tt

  pub places_unmarked : (op : Op) → mark_of row ≡ None → (rows : List Record) → AllHavePlaces marked rows → AllHavePlaces marked (changed_once rows (record { op = op; row = row }))
  places_unmarked op none rows all =
      places-append marked (filter (is_below (key_of row)) rows) (left_by op row ++ filter (is_above (key_of row)) rows) (AllHavePlaces-filter marked (is_below (key_of row)) rows all)
      (places-append marked (left_by op row) (filter (is_above (key_of row)) rows) (left-unmarked op none) (AllHavePlaces-filter marked (is_above (key_of row)) rows all))

  pub places_less : (rows : List Record) → AllHavePlaces marked rows → AllHavePlaces marked (changed_once rows (record { op = Remove; row = row }))
  places_less rows all =
      places-append marked (filter (is_below (key_of row)) rows) (filter (is_above (key_of row)) rows) (AllHavePlaces-filter marked (is_below (key_of row)) rows all) (AllHavePlaces-filter marked (is_above (key_of row)) rows all)

  pub places_tried : {A E : Type 0} (op : Op) (new : List Record) (r : Result A E) → OnOk r (new ≡ placed_once by_mark marked op row) → OnOk r ((rows : List Record) → AllHavePlaces marked rows → AllHavePlaces new (changed_once rows (record { op = op; row = row })))
  places_tried op new (Ok a) ok = λ rows all. subst (λ (l : List Record). AllHavePlaces l (changed_once rows (record { op = op; row = row }))) (sym ok) (go op rows all)
    where
      go : (o : Op) (rows : List Record) → AllHavePlaces marked rows → AllHavePlaces (placed_once by_mark marked o row) (changed_once rows (record { op = o; row = row }))
      go Put rows all = places_changed Put row marked (λ e. cc) rows all
      go Replace rows all = places_changed Replace row marked (λ e. cc) rows all
      go Remove rows all = places_removed row marked rows all
  places_tried op new (Err e) ok = tt

  pub more_tried : {A E : Type 0} (op : Op) (new : List Record) (r : Result A E) → OnOk r (new ≡ placed_once by_mark marked op row) → OnOk r ((op ≡ Remove → ⊥) → (rows : List Record) → AllHavePlaces marked rows → AllHavePlaces new rows)
  more_tried op new (Ok a) ok = λ other rows all. subst (λ (l : List Record). AllHavePlaces l rows) (sym ok) (places_more op row marked other rows all)
  more_tried op new (Err e) ok = tt

-- ---- a change of the rows and of the marked ones

-- a row that is put: its place first
pub places_put : {A E : Type 0} (op : Op) (row : Record) (marked more rows new : List Record) (r : Result A E) → (op ≡ Remove → ⊥) → ((rows : List Record) → AllHavePlaces marked rows → AllHavePlaces more (changed_once rows (record { op = op; row = row }))) → ((op ≡ Remove → ⊥) → (rows : List Record) → AllHavePlaces marked rows → AllHavePlaces more rows) → OnOk r (new ≡ changed_once rows (record { op = op; row = row })) → OnErr r (new ≡ rows) → AllHavePlaces marked rows → AllHavePlaces more new
places_put op row marked more rows new (Ok a) other changes stays ok err all = subst (AllHavePlaces more) (sym ok) (changes rows all)
places_put op row marked more rows new (Err e) other changes stays ok err all = subst (AllHavePlaces more) (sym err) (stays other rows all)

-- a row that is taken away: its place afterwards, unless memory fails
pub places_taken : {A E : Type 0} (row : Record) (marked less rows : List Record) (r : Result A E) → OnOk r ((rows : List Record) → AllHavePlaces marked rows → AllHavePlaces less (changed_once rows (record { op = Remove; row = row }))) → OnErr r (less ≡ marked) → AllHavePlaces marked rows → AllHavePlaces less (changed_once rows (record { op = Remove; row = row }))
places_taken row marked less rows (Ok a) ok err all = ok rows all
places_taken row marked less rows (Err e) ok err all = subst (λ (l : List Record). AllHavePlaces l (changed_once rows (record { op = Remove; row = row }))) (sym err) (places_less row marked rows all)

-- ---- the rows at places

row-is : (k : Key) (rows : List Record) (r : Record) → row_at k rows ≡ Some r → In r rows × (key_of r ≡ k)
row-is k rows r e =
    let found = found-in (λ (x : Record). is_eq (key_cmp (key_of x) k)) rows r e in
    (found.0, (keys_equal (key_of r) k).0 (equal-is (key_cmp (key_of r) k) found.1))

row-itself : (rows : List Record) (r : Record) → IsRising rows → In r rows → row_at (key_of r) rows ≡ Some r
row-itself [] r up is = elim is [ ]
row-itself (x ∷ xs) r up (inl same) =
    ap (λ (b : Bool). cond b (Some x) (row_at (key_of r) xs)) (ap is_eq (ap (λ (y : Record). key_cmp (key_of y) (key_of r)) (sym same) ∙ self-equal keys_total (key_of r))) ∙ ap (λ (y : Record). Some y) (sym same)
row-itself (x ∷ xs) r up (inr is) =
    let less : key_cmp (key_of x) (key_of r) ≡ Less = below_turned (by_key r) (by_key x) (above-in by_key (by_key x) xs r up.0 is) in
    ap (λ (b : Bool). cond b (Some x) (row_at (key_of r) xs)) (ap is_eq less) ∙ row-itself xs r up.1 is

of-passed : (test : Record → Bool) (o : Option Record) (r : Record) → In r (if_passed test o) → (o ≡ Some r) × (test r ≡ true)
of-passed test None r is = elim is [ ]
of-passed test (Some x) r is = go (test x) refl is
  where
    go : (b : Bool) → test x ≡ b → In r (cond b (x ∷ []) []) → (Some x ≡ Some r) × (test r ≡ true)
    go true at (inl same) = (ap (λ (y : Record). Some y) (sym same), ap test same ∙ at)
    go true at (inr more) = elim more [ ]
    go false at more = elim more [ ]

module _ (test : Record → Bool) (rows : List Record) where
  in-now : (places : List Record) (e r : Record) → In e places → row_at (key_of e) rows ≡ Some r → test r ≡ true → In r (rows_now test rows places)
  in-now [] e r is there passes = elim is [ ]
  in-now (x ∷ xs) e r (inl same) there passes =
      in-front r (if_passed test (row_at (key_of x) rows)) (rows_now test rows xs)
      (subst (λ (o : Option Record). In r (if_passed test o)) (sym (ap (λ (y : Record). row_at (key_of y) rows) (sym same) ∙ there))
      (subst (λ (b : Bool). In r (cond b (r ∷ []) [])) (sym passes) (inl refl)))
  in-now (x ∷ xs) e r (inr is) there passes = in-back r (if_passed test (row_at (key_of x) rows)) (rows_now test rows xs) (in-now xs e r is there passes)

  of-now : (places : List Record) (r : Record) → In r (rows_now test rows places) → ((e : Record) × (In e places) × (row_at (key_of e) rows ≡ Some r) × (test r ≡ true))
  of-now [] r is = elim is [ ]
  of-now (x ∷ xs) r is = go (of-append r (if_passed test (row_at (key_of x) rows)) (rows_now test rows xs) is) (of-now xs r)
    where
      go : In r (if_passed test (row_at (key_of x) rows)) ⊎ In r (rows_now test rows xs) → (In r (rows_now test rows xs) → ((e : Record) × (In e xs) × (row_at (key_of e) rows ≡ Some r) × (test r ≡ true))) → ((e : Record) × (In e (x ∷ xs)) × (row_at (key_of e) rows ≡ Some r) × (test r ≡ true))
      go (inl first) more = let passed = of-passed test (row_at (key_of x) rows) r first in (x, inl refl, passed.0, passed.1)
      go (inr rest) more = let found = more rest in (found.0, inr found.1, found.2, found.3)

  now-above : (k : Key) (places : List Record) → AllAbove k places → AllAbove k (rows_now test rows places)
  now-above k places all = all-above by_key (at_key k) (rows_now test rows places) (λ r is. one r (of-now places r is))
    where
      one : (r : Record) → ((e : Record) × (In e places) × (row_at (key_of e) rows ≡ Some r) × (test r ≡ true)) → key_cmp (key_of r) k ≡ Greater
      one r found = ap (λ (j : Key). key_cmp j k) (row-is (key_of found.0) rows r found.2).1 ∙ above-in by_key (at_key k) places found.0 all found.1

  now-rises : (places : List Record) → IsRising places → IsRising (rows_now test rows places)
  now-rises [] up = tt
  now-rises (x ∷ xs) up = go (row_at (key_of x) rows) refl (now-above (key_of x) xs up.0) (now-rises xs up.1)
    where
      rest : List Record
      rest = rows_now test rows xs

      first : (r : Record) → row_at (key_of x) rows ≡ Some r → AllAbove (key_of x) rest → IsRising rest → (b : Bool) → IsRising (cond b (r ∷ []) [] ++ rest)
      first r e above more true = (subst (λ (k : Key). AllAbove k rest) (sym (row-is (key_of x) rows r e).1) above, more)
      first r e above more false = more

      go : (o : Option Record) → row_at (key_of x) rows ≡ o → AllAbove (key_of x) rest → IsRising rest → IsRising (if_passed test o ++ rest)
      go None e above more = more
      go (Some r) e above more = first r e above more (test r)

-- ---- the rows of a mark

-- the rows from a key on
in-start : (from : Option Key) (r : Record) (rows : List Record) → In r rows → is_lt (option_cmp key_cmp (Some (key_of r)) from) ≡ false → In r (from_start from rows)
in-start None r rows is low = is
in-start (Some k) r rows is low = in-filter (λ (x : Record). not (is_below k x)) r rows is (ap not low)

of-start : (from : Option Key) (r : Record) (rows : List Record) → In r (from_start from rows) → In r rows × (is_lt (option_cmp key_cmp (Some (key_of r)) from) ≡ false)
of-start None r rows is = (is, refl)
of-start (Some k) r rows is = let found = of-filter (λ (x : Record). not (is_below k x)) r rows is in (found.0, not-true (is_below k r) found.1)
  where
    not-true : (b : Bool) → not b ≡ true → b ≡ false
    not-true true e = absurd (false≢true e)
    not-true false e = refl

start-rises : (from : Option Key) (rows : List Record) → IsRising rows → IsRising (from_start from rows)
start-rises None rows up = up
start-rises (Some k) rows up = StandsRising-filter by_key (λ (x : Record). not (is_below k x)) rows up

module _ (m : Mark) (from : Option Key) where
  abbrev start : Place
  start = record { mark = Some m; key = from }

  -- of the mark, a place is below the start where its key is
  below-start : (e : Record) → mark_of e ≡ Some m → stands_below by_mark start e ≡ is_lt (option_cmp key_cmp (Some (key_of e)) from)
  below-start e is = ap is_lt (of-one-mark m (mark_of e) (Some m) (option_cmp key_cmp (Some (key_of e)) from) is refl)

  one-mark-rises : (places : List Record) → StandsRising by_mark places → ((e : Record) → In e places → mark_of e ≡ Some m) → IsRising places
  one-mark-rises [] up each = tt
  one-mark-rises (x ∷ xs) up each =
      (all-above by_key (by_key x) xs (λ r is. sym (of-one-mark m (mark_of r) (mark_of x) (key_cmp (key_of r) (key_of x)) (each r (inr is)) (each x (inl refl))) ∙ above-in by_mark (by_mark x) xs r up.0 is), one-mark-rises xs up.1 (λ r is. each r (inr is)))

  in-leading : (places : List Record) (e : Record) → StandsRising by_mark places → ((x : Record) → In x places → stands_below by_mark start x ≡ false) → In e places → mark_of e ≡ Some m → In e (leading (is_of m) places)
  in-leading [] e up each is marks = elim is [ ]
  in-leading (x ∷ xs) e up each (inl same) marks =
      subst (λ (b : Bool). In e (cond b (x ∷ leading (is_of m) xs) [])) (sym (ap (is_of m) (sym same) ∙ has-self m e marks)) (inl same)
  in-leading (x ∷ xs) e up each (inr is) marks =
      let greater : ordering_then (option_cmp mark_cmp (Some m) (mark_of x)) (key_cmp (key_of e) (key_of x)) ≡ Greater =
      (λ i. ordering_then (option_cmp mark_cmp (sym marks i) (mark_of x)) (key_cmp (key_of e) (key_of x))) ∙ above-in by_mark (by_mark x) xs e up.0 is in
      let first = between m (mark_of x) (key_cmp (key_of e) (key_of x)) (option_cmp key_cmp (Some (key_of x)) from) greater (each x (inl refl)) in
      subst (λ (b : Bool). In e (cond b (x ∷ leading (is_of m) xs) [])) (sym (has-self m x first)) (inr (in-leading xs e up.1 (λ y there. each y (inr there)) is marks))

  module _ (rows marked : List Record) (up : IsRising rows) (marked_up : StandsRising by_mark marked) (all : AllHavePlaces marked rows) where
    abbrev ahead : List Record
    ahead = standing_from by_mark start marked

    ahead_up : StandsRising by_mark ahead
    ahead_up = StandsRising-filter by_mark (λ (x : Record). not (stands_below by_mark start x)) marked marked_up

    not-below : (e : Record) → In e ahead → stands_below by_mark start e ≡ false
    not-below e is = flip (stands_below by_mark start e) (of-filter (λ (x : Record). not (stands_below by_mark start x)) e marked is).1
      where
        flip : (b : Bool) → not b ≡ true → b ≡ false
        flip true e = absurd (false≢true e)
        flip false e = refl

    marked_to : (r : Record) → In r (rows_now (is_of m) rows (leading (is_of m) ahead)) → In r (filter (is_of m) (from_start from rows))
    marked_to r is =
        let found = of-now (is_of m) rows (leading (is_of m) ahead) r is in
        let place = of-leading (is_of m) found.0 ahead found.1 in
        let marks = has-is m found.0 place.1 in
        let row = row-is (key_of found.0) rows r found.2 in
        let low = ap (λ (k : Key). is_lt (option_cmp key_cmp (Some k) from)) row.1 ∙ sym (below-start found.0 marks) ∙ not-below found.0 place.0 in
        in-filter (is_of m) r (from_start from rows) (in-start from r rows row.0 low) found.3

    marked_from : (r : Record) → In r (filter (is_of m) (from_start from rows)) → In r (rows_now (is_of m) rows (leading (is_of m) ahead))
    marked_from r is =
        let passed = of-filter (is_of m) r (from_start from rows) is in
        let there = of-start from r rows passed.0 in
        let marks = has-is m r passed.1 in
        let place = some-in (stands_at by_mark (by_mark r)) marked (place-of marked rows r all there.0 (ap is_some marks)) in
        let e = place.0 in
        let tied = then-equal (option_cmp mark_cmp (mark_of e) (mark_of r)) (key_cmp (key_of e) (key_of r)) (equal-is (place_cmp (by_mark e) (by_mark r)) place.2) in
        let its = option-is m (mark_of e) (ap (λ (o : Option Mark). option_cmp mark_cmp (mark_of e) o) (sym marks) ∙ tied.0) in
        let key : key_of e ≡ key_of r = (keys_equal (key_of e) (key_of r)).0 tied.1 in
        let low : stands_below by_mark start e ≡ false = below-start e its ∙ ap (λ (k : Key). is_lt (option_cmp key_cmp (Some k) from)) key ∙ there.1 in
        let here : In e ahead = in-filter (λ (x : Record). not (stands_below by_mark start x)) e marked place.1 (ap not low) in
        in-now (is_of m) rows (leading (is_of m) ahead) e r (in-leading ahead e ahead_up not-below here its) (ap (λ (k : Key). row_at k rows) key ∙ row-itself rows r up there.0) passed.1

    -- the rows at the places of a mark are those that have it
    pub marked_walk : rows_now (is_of m) rows (leading (is_of m) ahead) ≡ filter (is_of m) (from_start from rows)
    marked_walk = rising_same by_key (rows_now (is_of m) rows (leading (is_of m) ahead)) (filter (is_of m) (from_start from rows))
        (now-rises (is_of m) rows (leading (is_of m) ahead) (one-mark-rises (leading (is_of m) ahead) (lead-rises by_mark (is_of m) ahead ahead_up) (λ e is. has-is m e (of-leading (is_of m) e ahead is).1)))
        (StandsRising-filter by_key (is_of m) (from_start from rows) (start-rises from rows up))
        marked_to marked_from
