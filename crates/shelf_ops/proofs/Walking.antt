-- The rows of shelved files whose names begin with a text stand together among rows in order.
use Rattle.std.proofs.Common.{◌≡◌, ℕ, Bool, true, false, not, cond, List, [], ◌∷◌, Some, None, refl, sym, ap, ◌∙◌}
use Rattle.std.specs.Prelude.{◌&&◌, codes, drop, filter, if◌then◌else◌, is_some, length, nat_eq}
use Rattle.std.specs.Cmp.{nat_cmp_is}
use Rattle.std.specs.Ordering.{nat_cmp, ordering_then, is_lt, is_gt}
use Rattle.std.specs.declared.cmp.Ordering.{Ordering}
use Rattle.std.specs.declared.cmp.Ordering.TheVariants.{Less, Equal, Greater}
use Rattle.std.proofs.lemmas.Bool.{true≢false, false≢true}
use Rattle.std.proofs.lemmas.Bool.Decides.{Decides-eqb}
use Rattle.depot_rows.specs.depot_path.Bytes.{same, begins_with}
use Rattle.depot_rows.specs.db_records.declared.key.Key.{Key}
use Rattle.depot_rows.specs.db_records.declared.record.Record.{Record}
use Rattle.depot_rows.specs.db_records.declared.record.Record.TheVariants as records
use Rattle.depot_rows.specs.db_records.declared.rows.DomainRecord.{DomainRecord}
use Rattle.depot_rows.specs.db_records.declared.table.TableId.TheVariants as tables
use Rattle.depot_rows.specs.db_records.Key.{key_cmp}
use Rattle.depot_rows.specs.db_records.Record.{key_of, table_of}
use Rattle.depot_rows.specs.table_store.Rows.{is_below, AllAbove, AllOfTable, IsRising, rows_from}
use Rattle.depot_rows.proofs.table_store.Order.{turned_greater}
use Rattle.depot_rows.proofs.Keys.{same-is, same-self}
use Rattle.named_files.proofs.Walking.{number_is, starts, text_cmp, text_is, text_self}
use Rattle.shelf_ops.specs.ShelfRows.{behind, first_key, is_of_shelf, leading}

pub number_self : (n : ℕ) → nat_cmp n n ≡ Equal
number_self n = sym (nat_cmp_is n n Equal refl)

-- ---- texts that begin alike

-- a text isn't below one with which it begins
not_below : (q b : List ℕ) → begins_with q b ≡ true → is_lt (text_cmp q b) ≡ false
not_below [] [] e = refl
not_below (x ∷ q) [] e = refl
not_below [] (c ∷ b) e = absurd (false≢true e)
not_below (x ∷ q) (c ∷ b) e =
    let h = starts x c b q e in
    (λ i. is_lt (ordering_then (nat_cmp x (h.0 i)) (text_cmp q b))) ∙ (λ i. is_lt (ordering_then (number_self x i) (text_cmp q b))) ∙ not_below q b h.1

-- a text at or above the beginning of another one, and at or below that one, begins so too
middle : (y b q : List ℕ) → begins_with q b ≡ true → is_lt (text_cmp y b) ≡ false → is_gt (text_cmp y q) ≡ false → begins_with y b ≡ true
middle [] [] q e low high = refl
middle (z ∷ y) [] q e low high = refl
middle y (c ∷ b) [] e low high = absurd (false≢true e)
middle [] (c ∷ b) (x ∷ q) e low high = absurd (true≢false low)
middle (z ∷ y) (c ∷ b) (x ∷ q) e low high =
    let h = starts x c b q e in
    go (nat_cmp z c) refl low ((λ i. is_gt (ordering_then (nat_cmp z (h.0 i)) (text_cmp y q))) ∙ high) (middle y b q h.1)
  where
    go : (o : Ordering) → nat_cmp z c ≡ o → is_lt (ordering_then o (text_cmp y b)) ≡ false → is_gt (ordering_then o (text_cmp y q)) ≡ false
        → (is_lt (text_cmp y b) ≡ false → is_gt (text_cmp y q) ≡ false → begins_with y b ≡ true) → (nat_eq c z && begins_with y b) ≡ true
    go Less k l f rest = absurd (true≢false l)
    go Equal k l f rest = λ i. (Decides-eqb c z).1 (sym (number_is z c k)) i && rest l f i
    go Greater k l f rest = absurd (true≢false f)

-- ---- parts of an order

low_alone : (o : Ordering) → is_lt (ordering_then o Equal) ≡ false → is_lt o ≡ false
low_alone Less e = e
low_alone Equal e = refl
low_alone Greater e = refl

low_too : (o : Ordering) → is_lt o ≡ false → is_lt (ordering_then o Equal) ≡ false
low_too Less e = e
low_too Equal e = refl
low_too Greater e = refl

high_alone : (o : Ordering) → ordering_then o Equal ≡ Less → is_gt o ≡ false
high_alone Less e = refl
high_alone Equal e = refl
high_alone Greater e = absurd cc

-- a text that is at or above another one, and below it or at it with more
lead : (a b : List ℕ) (r s : Ordering) → is_lt (ordering_then (text_cmp a b) r) ≡ false → ordering_then (text_cmp a b) s ≡ Less
    → (a ≡ b) × (is_lt r ≡ false) × (s ≡ Less)
lead a b r s = go (text_cmp a b) refl
  where
    go : (o : Ordering) → text_cmp a b ≡ o → is_lt (ordering_then o r) ≡ false → ordering_then o s ≡ Less → (a ≡ b) × (is_lt r ≡ false) × (s ≡ Less)
    go Less e p q = absurd (true≢false p)
    go Equal e p q = (text_is a b e, p, q)
    go Greater e p q = absurd cc

none_in : {A : Type 0} → false ≡ true → A
none_in e = absurd (false≢true e)

-- ---- the rows

abbrev pub word : List ℕ
word = codes "shelf"

module _ (start : List ℕ) where
  abbrev first : Key
  first = first_key start

  abbrev test : Record → Bool
  test row = is_of_shelf start row

  -- the kind of such a row, and what its name begins with
  shelf_is : (r : DomainRecord) → test (records.Domain r) ≡ true → (r.kind ≡ word) × (begins_with r.name start ≡ true)
  shelf_is r e = go (same r.kind word) refl e
    where
      begun : (b : Bool) → is_some (if b then Some (drop (length start) r.name) else None) ≡ true → b ≡ true
      begun true h = refl
      begun false h = none_in h

      go : (s : Bool) → same r.kind word ≡ s → is_some (if s then behind start r.name else None) ≡ true → (r.kind ≡ word) × (begins_with r.name start ≡ true)
      go true k h = (same-is r.kind word k, begun (begins_with r.name start) h)
      go false k h = none_in h

  in_shelf : (r : DomainRecord) → r.kind ≡ word → begins_with r.name start ≡ true → test (records.Domain r) ≡ true
  in_shelf r is begins =
      (λ i. is_some (if same (is i) word then (if begins i then Some (drop (length start) r.name) else None) else None))
      ∙ ap (λ s. is_some (if s then Some (drop (length start) r.name) else None)) (same-self word)

  -- such a row isn't below the first key
  domain_low : (r : DomainRecord) → test (records.Domain r) ≡ true → is_below first (records.Domain r) ≡ false
  domain_low r e =
      let h = shelf_is r e in
      (λ i. is_lt (ordering_then (text_cmp (h.0 i) word) (ordering_then (text_cmp r.name start) Equal)))
      ∙ (λ i. is_lt (ordering_then (text_self word i) (ordering_then (text_cmp r.name start) Equal)))
      ∙ low_too (text_cmp r.name start) (not_below r.name start h.1)

  -- a row between the first key and such a row is one too
  domain_middle : (y q : DomainRecord) → is_below first (records.Domain y) ≡ false → key_cmp (key_of (records.Domain y)) (key_of (records.Domain q)) ≡ Less
      → test (records.Domain q) ≡ true → test (records.Domain y) ≡ true
  domain_middle y q low high e =
      let h = shelf_is q e in
      let below : ordering_then (text_cmp y.kind word) (ordering_then (text_cmp y.name q.name) Equal) ≡ Less =
      (λ i. ordering_then (text_cmp y.kind (sym h.0 i)) (ordering_then (text_cmp y.name q.name) Equal)) ∙ high in
      let led = lead y.kind word (ordering_then (text_cmp y.name start) Equal) (ordering_then (text_cmp y.name q.name) Equal) low below in
      in_shelf y led.0 (middle y.name start q.name h.1 (low_alone (text_cmp y.name start) led.1) (high_alone (text_cmp y.name q.name) led.2))

  low : (q : Record) → test q ≡ true → is_below first q ≡ false
  low (records.Domain r) e = domain_low r e
  low (records.Counter r) e = none_in e
  low (records.Group r) e = none_in e
  low (records.Protect r) e = none_in e
  low (records.Have r) e = none_in e
  low (records.Label r) e = none_in e
  low (records.Integed r) e = none_in e
  low (records.Resolve r) e = none_in e
  low (records.Working r) e = none_in e
  low (records.Change r) e = none_in e
  low (records.Rev r) e = none_in e

  between : (y : DomainRecord) (q : Record) → is_below first (records.Domain y) ≡ false → key_cmp (key_of (records.Domain y)) (key_of q) ≡ Less → test q ≡ true
      → test (records.Domain y) ≡ true
  between y (records.Domain q) below less e = domain_middle y q below less e
  between y (records.Counter r) below less e = none_in e
  between y (records.Group r) below less e = none_in e
  between y (records.Protect r) below less e = none_in e
  between y (records.Have r) below less e = none_in e
  between y (records.Label r) below less e = none_in e
  between y (records.Integed r) below less e = none_in e
  between y (records.Resolve r) below less e = none_in e
  between y (records.Working r) below less e = none_in e
  between y (records.Change r) below less e = none_in e
  between y (records.Rev r) below less e = none_in e

  mid : (y q : Record) → table_of y ≡ tables.Domain → is_below first y ≡ false → key_cmp (key_of y) (key_of q) ≡ Less → test q ≡ true → test y ≡ true
  mid (records.Domain y) q of below less e = between y q below less e
  mid (records.Counter r) q of below less e = absurd cc
  mid (records.Group r) q of below less e = absurd cc
  mid (records.Protect r) q of below less e = absurd cc
  mid (records.Have r) q of below less e = absurd cc
  mid (records.Label r) q of below less e = absurd cc
  mid (records.Integed r) q of below less e = absurd cc
  mid (records.Resolve r) q of below less e = absurd cc
  mid (records.Working r) q of below less e = absurd cc
  mid (records.Change r) q of below less e = absurd cc
  mid (records.Rev r) q of below less e = absurd cc

  -- ---- the walk

  -- they are among those from the first key on
  all_from : (rows : List Record) → filter test (rows_from first rows) ≡ filter test rows
  all_from [] = refl
  all_from (r ∷ rs) = go (is_below first r) refl (test r) refl (all_from rs)
    where
      go : (b : Bool) → is_below first r ≡ b → (a : Bool) → test r ≡ a → filter test (rows_from first rs) ≡ filter test rs
          → filter test (cond (not b) (r ∷ rows_from first rs) (rows_from first rs)) ≡ cond a (r ∷ filter test rs) (filter test rs)
      go true lower true is rest = absurd (true≢false (sym lower ∙ low r is))
      go true lower false is rest = rest
      go false lower true is rest = rw is (ap (λ (l : List Record). r ∷ l) rest)
      go false lower false is rest = rw is rest

  -- past a row behind them there is none
  none_after : (y : Record) (rows : List Record) → table_of y ≡ tables.Domain → is_below first y ≡ false → AllAbove (key_of y) rows → test y ≡ false
      → filter test rows ≡ []
  none_after y [] of lower above out = refl
  none_after y (r ∷ rs) of lower above out = go (test r) refl (none_after y rs of lower above.1 out)
    where
      go : (b : Bool) → test r ≡ b → filter test rs ≡ [] → cond b (r ∷ filter test rs) (filter test rs) ≡ []
      go true is rest = absurd (true≢false (sym (mid y r of lower (turned_greater (key_of r) (key_of y) above.0) is) ∙ out))
      go false is rest = rest

  -- among rows in order they come first from the first key on
  they_lead : (rows : List Record) → IsRising rows → AllOfTable tables.Domain rows → leading start (rows_from first rows) ≡ filter test (rows_from first rows)
  they_lead [] up of = refl
  they_lead (y ∷ rest) up of = go (is_below first y) refl (test y) refl (they_lead rest up.1 of.1)
    where
      above_from : (rows : List Record) → AllAbove (key_of y) rows → AllAbove (key_of y) (rows_from first rows)
      above_from [] all = tt
      above_from (x ∷ xs) all = keep (is_below first x) (above_from xs all.1)
        where
          keep : (b : Bool) → AllAbove (key_of y) (rows_from first xs) → AllAbove (key_of y) (cond (not b) (x ∷ rows_from first xs) (rows_from first xs))
          keep true more = more
          keep false more = (all.0, more)

      go : (b : Bool) → is_below first y ≡ b → (a : Bool) → test y ≡ a → leading start (rows_from first rest) ≡ filter test (rows_from first rest)
          → leading start (cond (not b) (y ∷ rows_from first rest) (rows_from first rest)) ≡ filter test (cond (not b) (y ∷ rows_from first rest) (rows_from first rest))
      go true lower a is h = h
      go false lower true is h = rw is (ap (λ (l : List Record). y ∷ l) h)
      go false lower false is h = rw is (sym (none_after y (rows_from first rest) of.0 lower (above_from rest up.0) is))

  -- the walk from the first key finds them, and ends behind them
  pub walk_shelf : (rows : List Record) → IsRising rows → AllOfTable tables.Domain rows → leading start (rows_from first rows) ≡ filter test rows
  walk_shelf rows up of = they_lead rows up of ∙ all_from rows
