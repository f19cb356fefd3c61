-- Lists of rows in an order: their parts below, at and above a place.
use Rattle.std.proofs.Common.{◌≡◌, ◌<◌, Bool, true, false, not, cond, List, [], ◌∷◌, ◌++◌, length, Some, None, refl, sym, ap, ◌∙◌, arith}
use Rattle.std.specs.List.{filter}
use Rattle.std.specs.Ordering.{is_lt, is_gt, ordering_reverse}
use Rattle.std.specs.Cmp.{IsTotalOrder, on_total, then_total}
use Rattle.std.specs.Cmp.Lexicographic.{on_texts, options_total}
use Rattle.std.specs.declared.cmp.Ordering.{Ordering}
use Rattle.std.specs.declared.cmp.Ordering.TheVariants.{Less, Equal, Greater}
use Rattle.std.proofs.lemmas.Cmp.{alike_right}
use Rattle.std.proofs.lemmas.List.{append_assoc, append-nil}
use Rattle.std.proofs.lemmas.List.Elements.{filter-append}
use Rattle.db_records.specs.declared.key.Key.{Key}
use Rattle.db_records.specs.declared.record.Record.{Record}
use Rattle.db_records.specs.declared.change.Op.{Op}
use Rattle.db_records.specs.declared.change.Op.TheVariants.{Put, Replace, Remove}
use Rattle.db_records.specs.Key.{key_cmp}
use Rattle.db_records.specs.KeyLaws.{keys_total}
use Rattle.table_store.specs.Places.{Place, place_cmp, mark_text, left_by, stands_below, stands_at, stands_above, AllStandBelow, AllStandAbove, StandsRising, standing_at, standing_from, placed_once}

-- ---- the order

pub turned_greater : (a b : Key) → key_cmp a b ≡ Greater → key_cmp b a ≡ Less
turned_greater a b h = keys_total.antisymm b a ∙ ap ordering_reverse h

pub places_total : IsTotalOrder place_cmp
places_total = then_total (on_total (λ (p : Place). p.mark) (options_total (on_texts mark_text))) (on_total (λ (p : Place). p.key) (options_total keys_total))

pub below_turned : (a b : Place) → place_cmp a b ≡ Greater → place_cmp b a ≡ Less
below_turned a b h = places_total.antisymm b a ∙ ap ordering_reverse h

pub above_turned : (a b : Place) → place_cmp a b ≡ Less → place_cmp b a ≡ Greater
above_turned a b h = places_total.antisymm b a ∙ ap ordering_reverse h

pub greater_trans : (a b c : Place) → place_cmp a b ≡ Greater → place_cmp b c ≡ Greater → place_cmp a c ≡ Greater
greater_trans a b c p q = above_turned c a (places_total.trans c b a (below_turned b c q) (below_turned a b p))

-- a row above a place that ties with another, or is above it, is above the other
pub above_tied : (a b c : Place) → place_cmp a b ≡ Greater → place_cmp b c ≡ Equal → place_cmp a c ≡ Greater
above_tied a b c p q = sym (alike_right places_total b c a q) ∙ p

pub below_tied : (a b c : Place) → place_cmp a b ≡ Less → place_cmp b c ≡ Equal → place_cmp a c ≡ Less
below_tied a b c p q = sym (alike_right places_total b c a q) ∙ p

pub lt_less : (o : Ordering) → is_lt o ≡ true → o ≡ Less
lt_less Less h = refl
lt_less Equal h = cc
lt_less Greater h = cc

gt_greater : (o : Ordering) → is_gt o ≡ true → o ≡ Greater
gt_greater Less h = cc
gt_greater Equal h = cc
gt_greater Greater h = refl

filter_cons : (p : Record → Bool) (P : List Record → Type 0) (row : Record) (rows : List Record) → (p row ≡ true → P (row ∷ filter p rows)) → P (filter p rows) → P (filter p (row ∷ rows))
filter_cons p P row rows kept left = pick (p row) refl
  where
    pick : (b : Bool) → p row ≡ b → P (cond (p row) (row ∷ filter p rows) (filter p rows))
    pick true h = rw h (kept h)
    pick false h = rw h left

-- ---- an order

module _ (place : Record → Place) where
  -- ---- all below, all above

  pub AllStandAbove-lower : (k j : Place) (rows : List Record) → place_cmp k j ≡ Greater → AllStandAbove place k rows → AllStandAbove place j rows
  AllStandAbove-lower k j [] h all = tt
  AllStandAbove-lower k j (row ∷ rows) h all = (greater_trans _ k j all.0 h, AllStandAbove-lower k j rows h all.1)

  pub AllStandAbove-tied : (k j : Place) (rows : List Record) → place_cmp k j ≡ Equal → AllStandAbove place k rows → AllStandAbove place j rows
  AllStandAbove-tied k j [] h all = tt
  AllStandAbove-tied k j (row ∷ rows) h all = (above_tied _ k j all.0 h, AllStandAbove-tied k j rows h all.1)

  pub AllStandBelow-higher : (k j : Place) (rows : List Record) → place_cmp k j ≡ Less → AllStandBelow place k rows → AllStandBelow place j rows
  AllStandBelow-higher k j [] h all = tt
  AllStandBelow-higher k j (row ∷ rows) h all = (places_total.trans _ k j all.0 h, AllStandBelow-higher k j rows h all.1)

  pub AllStandBelow-tied : (k j : Place) (rows : List Record) → place_cmp k j ≡ Equal → AllStandBelow place k rows → AllStandBelow place j rows
  AllStandBelow-tied k j [] h all = tt
  AllStandBelow-tied k j (row ∷ rows) h all = (below_tied _ k j all.0 h, AllStandBelow-tied k j rows h all.1)

  pub AllStandAbove-left : (k : Place) (xs ys : List Record) → AllStandAbove place k (xs ++ ys) → AllStandAbove place k xs
  AllStandAbove-left k [] ys all = tt
  AllStandAbove-left k (x ∷ xs) ys all = (all.0, AllStandAbove-left k xs ys all.1)

  pub AllStandAbove-right : (k : Place) (xs ys : List Record) → AllStandAbove place k (xs ++ ys) → AllStandAbove place k ys
  AllStandAbove-right k [] ys all = all
  AllStandAbove-right k (x ∷ xs) ys all = AllStandAbove-right k xs ys all.1

  pub AllStandBelow-left : (k : Place) (xs ys : List Record) → AllStandBelow place k (xs ++ ys) → AllStandBelow place k xs
  AllStandBelow-left k [] ys all = tt
  AllStandBelow-left k (x ∷ xs) ys all = (all.0, AllStandBelow-left k xs ys all.1)

  pub AllStandBelow-right : (k : Place) (xs ys : List Record) → AllStandBelow place k (xs ++ ys) → AllStandBelow place k ys
  AllStandBelow-right k [] ys all = all
  AllStandBelow-right k (x ∷ xs) ys all = AllStandBelow-right k xs ys all.1

  pub AllStandAbove-append : (k : Place) (xs ys : List Record) → AllStandAbove place k xs → AllStandAbove place k ys → AllStandAbove place k (xs ++ ys)
  AllStandAbove-append k [] ys p q = q
  AllStandAbove-append k (x ∷ xs) ys p q = (p.0, AllStandAbove-append k xs ys p.1 q)

  pub AllStandBelow-append : (k : Place) (xs ys : List Record) → AllStandBelow place k xs → AllStandBelow place k ys → AllStandBelow place k (xs ++ ys)
  AllStandBelow-append k [] ys p q = q
  AllStandBelow-append k (x ∷ xs) ys p q = (p.0, AllStandBelow-append k xs ys p.1 q)

  -- ---- rising lists

  pub StandsRising-right : (xs ys : List Record) → StandsRising place (xs ++ ys) → StandsRising place ys
  StandsRising-right [] ys up = up
  StandsRising-right (x ∷ xs) ys up = StandsRising-right xs ys up.1

  pub StandsRising-left : (xs ys : List Record) → StandsRising place (xs ++ ys) → StandsRising place xs
  StandsRising-left [] ys up = tt
  StandsRising-left (x ∷ xs) ys up = (AllStandAbove-left _ xs ys up.0, StandsRising-left xs ys up.1)

  -- what stands before a row is below it
  pub before_row : (xs : List Record) (y : Record) (ys : List Record) → StandsRising place (xs ++ y ∷ ys) → AllStandBelow place (place y) xs
  before_row [] y ys up = tt
  before_row (x ∷ xs) y ys up = (below_turned (place y) (place x) (AllStandAbove-right _ xs (y ∷ ys) up.0).0, before_row xs y ys up.1)

  -- rows that rise are below a key where the last of them are
  pub below_by_last : (k : Place) (xs ys : List Record) → 0 < length ys → StandsRising place (xs ++ ys) → AllStandBelow place k ys → AllStandBelow place k (xs ++ ys)
  below_by_last k xs [] h up low = absurd (omega arith)
  below_by_last k xs (y ∷ ys) h up low = AllStandBelow-append k xs (y ∷ ys) (AllStandBelow-higher (place y) k xs low.0 (before_row xs y ys up)) low

  -- two rising lists, joined at a key
  pub StandsRising-join : (k : Place) (xs ys : List Record) → StandsRising place xs → StandsRising place ys → AllStandBelow place k xs → AllStandAbove place k ys → StandsRising place (xs ++ ys)
  StandsRising-join k [] ys p q low high = q
  StandsRising-join k (x ∷ xs) ys p q low high = (AllStandAbove-append _ xs ys p.0 (AllStandAbove-lower k _ ys (above_turned _ k low.0) high), StandsRising-join k xs ys p.1 q low.1 high)

  -- ---- filters

  filter_below_skip : (k : Place) (xs ys : List Record) → AllStandBelow place k xs → filter (stands_below place k) (xs ++ ys) ≡ xs ++ filter (stands_below place k) ys
  filter_below_skip k [] ys low = refl
  filter_below_skip k (x ∷ xs) ys low = rw low.0 (ap (λ l. x ∷ l) (filter_below_skip k xs ys low.1))

  filter_below_none : (k : Place) (ys : List Record) → AllStandAbove place k ys → filter (stands_below place k) ys ≡ []
  filter_below_none k [] high = refl
  filter_below_none k (y ∷ ys) high = rw high.0 (filter_below_none k ys high.1)

  filter_above_skip : (k : Place) (xs ys : List Record) → AllStandBelow place k xs → filter (stands_above place k) (xs ++ ys) ≡ filter (stands_above place k) ys
  filter_above_skip k [] ys low = refl
  filter_above_skip k (x ∷ xs) ys low = rw low.0 (filter_above_skip k xs ys low.1)

  filter_above_all : (k : Place) (ys : List Record) → AllStandAbove place k ys → filter (stands_above place k) ys ≡ ys
  filter_above_all k [] high = refl
  filter_above_all k (y ∷ ys) high = rw high.0 (ap (λ l. y ∷ l) (filter_above_all k ys high.1))

  find_skip : (k : Place) (xs ys : List Record) → AllStandBelow place k xs → standing_at place k (xs ++ ys) ≡ standing_at place k ys
  find_skip k [] ys low = refl
  find_skip k (x ∷ xs) ys low = rw low.0 (find_skip k xs ys low.1)

  find_none : (k : Place) (ys : List Record) → AllStandAbove place k ys → standing_at place k ys ≡ None
  find_none k [] high = refl
  find_none k (y ∷ ys) high = rw high.0 (find_none k ys high.1)

  from_skip : (k : Place) (xs ys : List Record) → AllStandBelow place k xs → standing_from place k (xs ++ ys) ≡ standing_from place k ys
  from_skip k [] ys low = refl
  from_skip k (x ∷ xs) ys low = rw low.0 (from_skip k xs ys low.1)

  from_all : (k : Place) (ys : List Record) → AllStandAbove place k ys → standing_from place k ys ≡ ys
  from_all k [] high = refl
  from_all k (y ∷ ys) high = rw high.0 (ap (λ l. y ∷ l) (from_all k ys high.1))

  pub standing_at-below : (k : Place) (xs : List Record) → AllStandBelow place k xs → standing_at place k xs ≡ None
  standing_at-below k [] low = refl
  standing_at-below k (x ∷ xs) low = rw low.0 (standing_at-below k xs low.1)

  -- ---- a list with a gap for the place

  module _ (k : Place) (xs ys : List Record) (low : AllStandBelow place k xs) (high : AllStandAbove place k ys) where
    pub standing_at-gap : standing_at place k (xs ++ ys) ≡ None
    standing_at-gap = find_skip k xs ys low ∙ find_none k ys high

    pub standing_from-gap : standing_from place k (xs ++ ys) ≡ ys
    standing_from-gap = from_skip k xs ys low ∙ from_all k ys high

    pub below-gap : filter (stands_below place k) (xs ++ ys) ≡ xs
    below-gap = filter_below_skip k xs ys low ∙ ap (λ l. xs ++ l) (filter_below_none k ys high) ∙ append-nil xs

    pub above-gap : filter (stands_above place k) (xs ++ ys) ≡ ys
    above-gap = filter_above_skip k xs ys low ∙ filter_above_all k ys high

    module _ (y : Record) (same : place_cmp (place y) k ≡ Equal) where
      pub standing_at-here : standing_at place k (xs ++ y ∷ ys) ≡ Some y
      standing_at-here = find_skip k xs (y ∷ ys) low ∙ (rw same refl)

      pub standing_from-here : standing_from place k (xs ++ y ∷ ys) ≡ y ∷ ys
      standing_from-here = from_skip k xs (y ∷ ys) low ∙ (rw same (ap (λ l. y ∷ l) (from_all k ys high)))

      pub below-here : filter (stands_below place k) (xs ++ y ∷ ys) ≡ xs
      below-here = filter_below_skip k xs (y ∷ ys) low ∙ (rw same (ap (λ l. xs ++ l) (filter_below_none k ys high) ∙ append-nil xs))

      pub above-here : filter (stands_above place k) (xs ++ y ∷ ys) ≡ ys
      above-here = filter_above_skip k xs (y ∷ ys) low ∙ (rw same (filter_above_all k ys high))

  module _ (op : Op) (row : Record) (xs ys : List Record) (low : AllStandBelow place (place row) xs) (high : AllStandAbove place (place row) ys) where
    -- a row between them
    join_row : (xs : List Record) → StandsRising place xs → AllStandBelow place (place row) xs → StandsRising place ys → StandsRising place (xs ++ row ∷ ys)
    join_row [] p below q = (high, q)
    join_row (x ∷ xs) p below q = (AllStandAbove-append _ xs (row ∷ ys) p.0 (above_turned (place x) (place row) below.0, AllStandAbove-lower _ _ ys (above_turned (place x) (place row) below.0) high), join_row xs p.1 below.1 q)

    -- the rows rise after the change
    pub changed_rises : (o : Op) → StandsRising place xs → StandsRising place ys → StandsRising place (xs ++ (left_by o row ++ ys))
    changed_rises Put p q = join_row xs p low q
    changed_rises Replace p q = join_row xs p low q
    changed_rises Remove p q = StandsRising-join (place row) xs ys p q low high

  -- ---- a list whose front is below the place, and whose end is above it

  find_left : (k : Place) (xs ys : List Record) → AllStandAbove place k ys → standing_at place k (xs ++ ys) ≡ standing_at place k xs
  find_left k [] ys high = find_none k ys high
  find_left k (x ∷ xs) ys high = ap (λ o. cond (stands_at place k x) (Some x) o) (find_left k xs ys high)

  pub standing_at-above : (k : Place) (ys : List Record) → AllStandAbove place k ys → standing_at place k ys ≡ None
  standing_at-above = find_none

  pub standing_from-above : (k : Place) (ys : List Record) → AllStandAbove place k ys → standing_from place k ys ≡ ys
  standing_from-above = from_all

  module _ (k : Place) (front middle end : List Record) (low : AllStandBelow place k front) (high : AllStandAbove place k end) where
    pub standing_at-middle : standing_at place k (front ++ (middle ++ end)) ≡ standing_at place k middle
    standing_at-middle = find_skip k front (middle ++ end) low ∙ find_left k middle end high

    pub standing_from-middle : standing_from place k (front ++ (middle ++ end)) ≡ standing_from place k middle ++ end
    standing_from-middle = from_skip k front (middle ++ end) low ∙ filter-append (λ row. not (stands_below place k row)) middle end ∙ ap (λ l. standing_from place k middle ++ l) (from_all k end high)

    below-middle : filter (stands_below place k) (front ++ (middle ++ end)) ≡ front ++ filter (stands_below place k) middle
    below-middle = filter_below_skip k front (middle ++ end) low ∙ ap (λ l. front ++ l) (filter-append (stands_below place k) middle end ∙ ap (λ l. filter (stands_below place k) middle ++ l) (filter_below_none k end high) ∙ append-nil (filter (stands_below place k) middle))

    above-middle : filter (stands_above place k) (front ++ (middle ++ end)) ≡ filter (stands_above place k) middle ++ end
    above-middle = filter_above_skip k front (middle ++ end) low ∙ filter-append (stands_above place k) middle end ∙ ap (λ l. filter (stands_above place k) middle ++ l) (filter_above_all k end high)

  pub placed_once-middle : (op : Op) (row : Record) (front middle end : List Record) → AllStandBelow place (place row) front → AllStandAbove place (place row) end → placed_once place (front ++ (middle ++ end)) op row ≡ front ++ (placed_once place middle op row ++ end)
  placed_once-middle op row front middle end low high =
      rw (below-middle (place row) front middle end low high, above-middle (place row) front middle end low high) (simp append_assoc)

  -- ---- the rows rise after a change

  AllStandAbove-filter : (k : Place) (p : Record → Bool) (rows : List Record) → AllStandAbove place k rows → AllStandAbove place k (filter p rows)
  AllStandAbove-filter k p [] all = tt
  AllStandAbove-filter k p (row ∷ rows) all = filter_cons p (AllStandAbove place k) row rows (λ _. (all.0, AllStandAbove-filter k p rows all.1)) (AllStandAbove-filter k p rows all.1)

  pub StandsRising-filter : (p : Record → Bool) (rows : List Record) → StandsRising place rows → StandsRising place (filter p rows)
  StandsRising-filter p [] up = tt
  StandsRising-filter p (row ∷ rows) up = filter_cons p (StandsRising place) row rows (λ _. (AllStandAbove-filter (place row) p rows up.0, StandsRising-filter p rows up.1)) (StandsRising-filter p rows up.1)

  AllStandBelow-filter : (k : Place) (rows : List Record) → AllStandBelow place k (filter (stands_below place k) rows)
  AllStandBelow-filter k [] = tt
  AllStandBelow-filter k (row ∷ rows) = filter_cons (stands_below place k) (AllStandBelow place k) row rows (λ h. (lt_less _ h, AllStandBelow-filter k rows)) (AllStandBelow-filter k rows)

  AllStandAbove-filtered : (k : Place) (rows : List Record) → AllStandAbove place k (filter (stands_above place k) rows)
  AllStandAbove-filtered k [] = tt
  AllStandAbove-filtered k (row ∷ rows) = filter_cons (stands_above place k) (AllStandAbove place k) row rows (λ h. (gt_greater _ h, AllStandAbove-filtered k rows)) (AllStandAbove-filtered k rows)

  pub placed_once_rises : (rows : List Record) (op : Op) (row : Record) → StandsRising place rows → StandsRising place (placed_once place rows op row)
  placed_once_rises rows op row up =
      let k = place row in
      changed_rises op row (filter (stands_below place k) rows) (filter (stands_above place k) rows) (AllStandBelow-filter k rows) (AllStandAbove-filtered k rows) op (StandsRising-filter (stands_below place k) rows up) (StandsRising-filter (stands_above place k) rows up)
