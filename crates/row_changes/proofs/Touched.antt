-- The touched keys of a range stand together.
use Rattle.std.proofs.Common.{◌≡◌, Bool, true, false, cond, List, [], ◌∷◌, ◌++◌, Option, refl, sym, ap, ◌∙◌, append_assoc}
use Rattle.std.specs.Prelude.{◌&&◌, filter}
use Rattle.std.specs.BTreeMap.Range.{entries_between}
use Rattle.std.specs.List.{AllByRecursion}
use Rattle.std.specs.List.Sorted.{IsStrictlySortedBy}
use Rattle.std.specs.Map.{keys_of}
use Rattle.std.specs.Ordering.{is_le, is_lt}
use Rattle.std.specs.declared.cmp.Ordering.{Ordering}
use Rattle.std.specs.declared.cmp.Ordering.TheVariants.{Less, Equal, Greater}
use Rattle.std.specs.declared.ops.Bound.TheVariants.{Included, Unbounded}
use Rattle.std.proofs.lemmas.Bool.{true≢false}
use Rattle.depot_rows.specs.db_records.declared.key.Key.{Key}
use Rattle.depot_rows.specs.db_records.declared.record.Record.{Record}
use Rattle.depot_rows.specs.db_records.Key.{key_cmp}
use Rattle.depot_rows.proofs.table_store.Order.{turned_greater}
use Rattle.row_order.proofs.Order.{turned_less}
use Rattle.row_ranges.specs.declared.range.KeyRange.{KeyRange}
use Rattle.row_ranges.specs.Ranges.{is_in}
use Rattle.row_ranges.specs.Walking.{first_key}
use Rattle.row_ranges.proofs.Between.{between, not-below}
use Rattle.row_changes.specs.Overlay.{Entries}
use Rattle.row_changes.specs.Ranges.{leading}

-- a key that another isn't above is not below it
from-first : (a b : Key) → is_le (key_cmp a b) ≡ true → is_lt (key_cmp b a) ≡ false
from-first a b e = go (key_cmp b a) refl
  where
    go : (o : Ordering) → key_cmp b a ≡ o → is_lt o ≡ false
    go Less h = absurd (true≢false (sym e ∙ ap is_le (turned_less b a h)))
    go Equal h = refl
    go Greater h = refl

-- and a key that isn't below another is one that the other isn't above
not-after : (a b : Key) → is_lt (key_cmp b a) ≡ false → is_le (key_cmp a b) ≡ true
not-after a b e = go (key_cmp a b) refl
  where
    go : (o : Ordering) → key_cmp a b ≡ o → is_le o ≡ true
    go Less h = refl
    go Equal h = refl
    go Greater h = absurd (true≢false (sym (ap is_lt (turned_greater a b h)) ∙ e))

module _ (range : KeyRange) where
  -- past a key behind the range no key is of the range
  none-after : (y : Key) (keys : List Key) → is_lt (key_cmp y (first_key range)) ≡ false → AllByRecursion (λ k. key_cmp y k ≡ Less) keys → is_in range y ≡ false
      → filter (is_in range) keys ≡ []
  none-after y [] low above out = refl
  none-after y (k ∷ keys) low above out = go (is_in range k) refl (none-after y keys low above.1 out)
    where
      go : (b : Bool) → is_in range k ≡ b → filter (is_in range) keys ≡ [] → cond b (k ∷ filter (is_in range) keys) (filter (is_in range) keys) ≡ []
      go true is rest = absurd (true≢false (sym (between range y k low above.0 is) ∙ out))
      go false is rest = rest

  -- the entries from the first key of a range
  abbrev entries_from : Entries → Entries
  entries_from es = entries_between key_cmp (Included (first_key range)) Unbounded es

  -- among entries in order, those of the range come first from its first key on
  pub walk-touched : (es : Entries) → IsStrictlySortedBy key_cmp (keys_of es) → leading range (keys_of (entries_from es)) ≡ filter (is_in range) (keys_of es)
  unfolding IsStrictlySortedBy
  walk-touched [] up = refl
  walk-touched (e ∷ es) up = go (is_le (key_cmp (first_key range) e.0)) refl (is_in range e.0) refl (walk-touched es up.1)
    where
      go : (b : Bool) → is_le (key_cmp (first_key range) e.0) ≡ b → (a : Bool) → is_in range e.0 ≡ a → leading range (keys_of (entries_from es)) ≡ filter (is_in range) (keys_of es)
          → leading range (keys_of (cond (b && true) (e ∷ entries_from es) (entries_from es))) ≡ cond a (e.0 ∷ filter (is_in range) (keys_of es)) (filter (is_in range) (keys_of es))
      go true low true is h = rw is (ap (λ l. e.0 ∷ l) h)
      go true low false is h = rw is (sym (none-after e.0 (keys_of es) (from-first (first_key range) e.0 low) up.0 is))
      go false low true is h = absurd (true≢false (sym (not-after (first_key range) e.0 (not-below range e.0 is)) ∙ low))
      go false low false is h = h

-- ---- the walk

module _ (range : KeyRange) (whole found : List Key) (es : Entries) (so : whole ≡ found ++ leading range (keys_of es)) where
  module _ (e : Key × Option Record) (rest : Entries) (is : es ≡ e ∷ rest) where
    next : (b : Bool) → is_in range e.0 ≡ b → whole ≡ found ++ cond b (e.0 ∷ leading range (keys_of rest)) []
    next b test = so ∙ ap (λ (l : Entries). found ++ leading range (keys_of l)) is ∙ ap (λ (b : Bool). found ++ cond b (e.0 ∷ leading range (keys_of rest)) []) test

    pub walk-goes : (key : Key) (new : List Key) → is_in range e.0 ≡ true → key ≡ e.0 → new ≡ found ++ key ∷ [] → whole ≡ new ++ leading range (keys_of rest)
    walk-goes key new test copy more =
        next true test ∙ sym (append_assoc found (e.0 ∷ []) (leading range (keys_of rest)))
        ∙ ap (λ (k : Key). (found ++ k ∷ []) ++ leading range (keys_of rest)) (sym copy) ∙ ap (λ (l : List Key). l ++ leading range (keys_of rest)) (sym more)
