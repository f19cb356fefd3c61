-- Where a binary search by a place ends in a page.
use Rattle.std.proofs.Common.{◌≡◌, ◌↔◌, ℕ, zero, suc, ◌+◌, ◌-◌, ◌<◌, ◌≤◌, true, false, IsTrue, List, [], ◌∷◌, ◌++◌, length, take, drop, get_or, set, Some, None, Result, Ok, Err, MatchResult, refl, sym, ap, ◌∙◌, subst, arith, drop-cons, add-one}
use mathlib.Core.Bool.{false≢true}
use Rattle.std.specs.List.{filter, remove, insert}
use Rattle.db_records.specs.declared.change.Op.{Op}
use Rattle.db_records.specs.declared.change.Op.TheVariants.{Put, Replace, Remove}
use Rattle.std.specs.List.Sorted.{IsSearchInRange, IsBinarySearchResult, IsNonDecreasingBy}
use Rattle.std.specs.Ordering.{ordering_index, is_lt}
use Rattle.std.proofs.lemmas.List.Sorted.{searchable_from_sorted}
use Rattle.std.specs.declared.cmp.Ordering.TheVariants.{Less, Equal, Greater}
use Rattle.std.proofs.lemmas.List.{take-append-drop, take_all, drop_all, get_or-drop, length-drop, append_assoc, set_split}
use Rattle.db_records.specs.declared.record.Record.{Record}
use Rattle.table_store.specs.Places.{Place, place_cmp, left_by, stands_below, stands_above, AllStandBelow, AllStandAbove, StandsRising, IsPage, IsAt, IsGap, IsCut, standing_at, standing_from, placed_once}
use Rattle.table_store.proofs.Order.{places_total, AllStandBelow-right, below_by_last, lt_less, placed_once_rises, AllStandAbove-tied, AllStandBelow-tied, before_row, StandsRising-right, standing_at-here, standing_at-gap, standing_from-here, standing_from-gap, below-here, above-here, below-gap, above-gap}

-- an item of a list that has some
pub some_row : {X : Type 0} (rows : List X) (at : ℕ) → at < length rows → X
some_row [] at h = absurd (omega arith)
some_row (row ∷ rows) at h = row

-- a list at a place
pub around : {X : Type 0} (rows : List X) (i : ℕ) (d : X) → i < length rows → rows ≡ take i rows ++ get_or rows i d ∷ drop (i + 1) rows
around rows i d h = sym (rw (add-one, ← drop-cons rows i d) (take-append-drop i rows))

left_of_kept : (op : Op) (row : Record) → (op ≡ Remove → ⊥) → left_by op row ≡ row ∷ []
left_of_kept Put row other = refl
left_of_kept Replace row other = refl
left_of_kept Remove row other = absurd (other refl)

put_not_remove : (op : Op) → op ≡ Put → op ≡ Remove → ⊥
put_not_remove Put is other = cc
put_not_remove Replace is other = cc
put_not_remove Remove is other = cc

module _ (place : Record → Place) where
  all_below : (sought : Place) (rows : List Record) (i : ℕ) → i ≤ length rows → ((j : ℕ) (d : Record) → j < i → place_cmp (place (get_or rows j d)) sought ≡ Less) → AllStandBelow place sought (take i rows)
  all_below sought rows zero h low = tt
  all_below sought [] (suc i) h low = tt
  all_below sought (row ∷ rows) (suc i) h low = (low 0 row (omega arith), all_below sought rows i (omega arith) (λ j d lt. low (suc j) d (omega arith)))

  all_above : (sought : Place) (rows : List Record) → ((j : ℕ) (d : Record) → j < length rows → place_cmp (place (get_or rows j d)) sought ≡ Greater) → AllStandAbove place sought rows
  all_above sought [] high = tt
  all_above sought (row ∷ rows) high = (high 0 row (omega arith), all_above sought rows (λ j d lt. high (suc j) d (omega arith)))

  -- each row is above the one before it
  pub next_above : (rows : List Record) (k : ℕ) (d : Record) → StandsRising place rows → suc k < length rows → place_cmp (place (get_or rows (suc k) d)) (place (get_or rows k d)) ≡ Greater
  next_above [] k d up h = absurd (omega arith)
  next_above (x ∷ []) k d up h = absurd (omega arith)
  next_above (x ∷ (y ∷ rows)) zero d up h = up.0.0
  next_above (x ∷ (y ∷ rows)) (suc k) d up h = next_above (y ∷ rows) k d up.1 (omega arith)

  -- so the order of a row and a place does not fall along the rows
  searchable : (sought : Place) (rows : List Record) → StandsRising place rows → IsNonDecreasingBy (λ row. ordering_index (place_cmp (place row) sought)) rows
  searchable sought rows up = searchable_from_sorted places_total place rows sought (λ k d low h. rw add-one (ap is_lt (next_above rows k d up (rw add-one at h))))

  module _ (sought : Place) (rows : List Record) (up : StandsRising place rows) where
    found_at : (at : ℕ) → at < length rows → ((d : Record) → place_cmp (place (get_or rows at d)) sought ≡ Equal) → IsAt place sought rows at
    found_at at h same = record {
      in_range = h;
      below = AllStandBelow-tied place _ sought (take at rows) (same here) (before_row place (take at rows) (get_or rows at here) (drop (at + 1) rows) split);
      same = same;
      above = AllStandAbove-tied place _ sought (drop (at + 1) rows) (same here) (StandsRising-right place (take at rows) (get_or rows at here ∷ drop (at + 1) rows) split).0;
    }
      where
        here : Record
        here = some_row rows at h

        split : StandsRising place (take at rows ++ get_or rows at here ∷ drop (at + 1) rows)
        split = subst (StandsRising place) (around rows at here h) up

    -- a binary search ends at the place, or at the gap for it
    pub searched : (r : Result ℕ ℕ) → IsSearchInRange r (length rows) → IsBinarySearchResult (λ row. place_cmp (place row) sought) rows r → MatchResult r (IsAt place sought rows) (IsGap place sought rows)
    searched (Ok at) in_range same = found_at at in_range same
    searched (Err at) in_range parted = record {
      in_range = in_range;
      below = all_below sought rows at in_range (λ j d lt. (parted (searchable sought rows up)).0 j d (omega arith) lt);
      above = all_above sought (drop at rows) (λ j d lt. rw get_or-drop ((parted (searchable sought rows up)).1 (at + j) d (omega arith) (omega (arith, length-drop at rows))));
    }

  -- what a page answers at the place
  pub standing_at-found : (sought : Place) (rows : List Record) (at : ℕ) (d : Record) → IsAt place sought rows at → standing_at place sought rows ≡ Some (get_or rows at d)
  standing_at-found sought rows at d found = ap (standing_at place sought) (around rows at d found.in_range) ∙ standing_at-here place sought (take at rows) (drop (at + 1) rows) found.below found.above (get_or rows at d) (found.same d)

  pub standing_at-absent : (sought : Place) (rows : List Record) (at : ℕ) → IsGap place sought rows at → standing_at place sought rows ≡ None
  standing_at-absent sought rows at gap = ap (standing_at place sought) (sym (take-append-drop at rows)) ∙ standing_at-gap place sought (take at rows) (drop at rows) gap.below gap.above

  pub standing_from-found : (sought : Place) (rows : List Record) (at : ℕ) → IsAt place sought rows at → standing_from place sought rows ≡ drop at rows
  standing_from-found sought rows at found =
      let d = some_row rows at found.in_range in
      ap (standing_from place sought) (around rows at d found.in_range)
      ∙ standing_from-here place sought (take at rows) (drop (at + 1) rows) found.below found.above (get_or rows at d) (found.same d)
      ∙ sym (rw add-one (drop-cons rows at d found.in_range))

  pub standing_from-absent : (sought : Place) (rows : List Record) (at : ℕ) → IsGap place sought rows at → standing_from place sought rows ≡ drop at rows
  standing_from-absent sought rows at gap = ap (standing_from place sought) (sym (take-append-drop at rows)) ∙ standing_from-gap place sought (take at rows) (drop at rows) gap.below gap.above

  -- where a page is cut
  pub cut-found : (sought : Place) (rows : List Record) (at : ℕ) → IsAt place sought rows at → IsCut place sought rows at (at + 1)
  cut-found sought rows at found =
      let d = some_row rows at found.in_range in
      let split = around rows at d found.in_range in
      record {
        in_order = omega arith;
        in_range = omega (arith, found.in_range);
        below = ap (filter (stands_below place sought)) split ∙ below-here place sought (take at rows) (drop (at + 1) rows) found.below found.above (get_or rows at d) (found.same d);
        above = ap (filter (stands_above place sought)) split ∙ above-here place sought (take at rows) (drop (at + 1) rows) found.below found.above (get_or rows at d) (found.same d);
      }

  pub cut-absent : (sought : Place) (rows : List Record) (at : ℕ) → IsGap place sought rows at → IsCut place sought rows at at
  cut-absent sought rows at gap =
      let split = sym (take-append-drop at rows) in
      record {
        in_order = omega arith;
        in_range = gap.in_range;
        below = ap (filter (stands_below place sought)) split ∙ below-gap place sought (take at rows) (drop at rows) gap.below gap.above;
        above = ap (filter (stands_above place sought)) split ∙ above-gap place sought (take at rows) (drop at rows) gap.below gap.above;
      }

  -- the rows that are put together from a cut
  pub changed_at : (rows : List Record) (op : Op) (row : Record) (before after : ℕ) → IsCut place (place row) rows before after → take before rows ++ left_by op row ++ drop after rows ≡ placed_once place rows op row
  changed_at rows op row before after is_cut = rw (is_cut.below, is_cut.above) (append_assoc (take before rows) (left_by op row) (drop after rows))

  -- ---- the last row

  -- rows that rise are below a place exactly where the last one is
  pub below_where_last_is : (sought : Place) (rows : List Record) (last : Record) → 0 < length rows → last ≡ get_or rows (length rows - 1) last → StandsRising place rows → IsTrue (is_lt (place_cmp (place last) sought)) ↔ AllStandBelow place sought rows
  below_where_last_is sought rows last h is up =
      let front = take (length rows - 1) rows in
      let split : rows ≡ front ++ last ∷ [] = around rows (length rows - 1) last (omega arith) ∙ rw (← is, drop_all (length rows - 1 + 1) rows (omega arith)) refl in
      ((λ low. subst (AllStandBelow place sought) (sym split) (below_by_last place sought front (last ∷ []) (omega arith) (subst (StandsRising place) split up) (lt_less _ low, tt))), (λ low. ap is_lt (AllStandBelow-right place sought front (last ∷ []) (subst (AllStandBelow place sought) split low)).0))

  pub gap_at_end : (sought : Place) (rows : List Record) → AllStandBelow place sought rows → IsGap place sought rows (length rows)
  gap_at_end sought rows low = record {
    in_range = omega arith;
    below = rw (take_all (length rows) rows (omega arith)) low;
    above = rw (drop_all (length rows) rows (omega arith)) tt;
  }

  -- ---- a change at a place of a page

  module _ (rows : List Record) (op : Op) (row : Record) (at : ℕ) where
    after_found : IsAt place (place row) rows at → take at rows ++ (left_by op row ++ drop (suc at) rows) ≡ placed_once place rows op row
    after_found found =
        sym (append_assoc (take at rows) (left_by op row) (drop (suc at) rows))
        ∙ ap (λ k. take at rows ++ left_by op row ++ drop k rows) (sym (add-one at))
        ∙ changed_at rows op row at (at + 1) (cut-found (place row) rows at found)

    after_gap : IsGap place (place row) rows at → take at rows ++ (left_by op row ++ drop at rows) ≡ placed_once place rows op row
    after_gap gap =
        sym (append_assoc (take at rows) (left_by op row) (drop at rows))
        ∙ changed_at rows op row at at (cut-absent (place row) rows at gap)

    pub row_replaced : IsAt place (place row) rows at → (op ≡ Remove → ⊥) → set rows at row ≡ placed_once place rows op row
    row_replaced found other =
        set_split rows at row found.in_range
        ∙ ap (λ l. take at rows ++ (l ++ drop (suc at) rows)) (sym (left_of_kept op row other))
        ∙ after_found found

    pub row_removed : IsAt place (place row) rows at → op ≡ Remove → remove rows at ≡ placed_once place rows op row
    row_removed found is = ap (λ op. take at rows ++ (left_by op row ++ drop (suc at) rows)) (sym is) ∙ after_found found

    pub row_added : IsGap place (place row) rows at → (op ≡ Remove → ⊥) → insert rows at row ≡ placed_once place rows op row
    row_added gap other = ap (λ l. take at rows ++ (l ++ drop at rows)) (sym (left_of_kept op row other)) ∙ after_gap gap

    pub row_absent : IsGap place (place row) rows at → op ≡ Remove → rows ≡ placed_once place rows op row
    row_absent gap is = sym (take-append-drop at rows) ∙ ap (λ op. take at rows ++ (left_by op row ++ drop at rows)) (sym is) ∙ after_gap gap

  pub row_behind : (rows : List Record) (op : Op) (row : Record) → AllStandBelow place (place row) rows → op ≡ Put → placed_once place rows op row ≡ rows ++ row ∷ []
  row_behind rows op row low is =
      sym (row_added rows op row (length rows) (gap_at_end (place row) rows low) (put_not_remove op is))
      ∙ rw (take_all (length rows) rows (omega arith), drop_all (length rows) rows (omega arith)) refl

  pub page_changed : (rows new : List Record) (op : Op) (row : Record) → StandsRising place rows → new ≡ placed_once place rows op row → 0 < length new → length new ≤ 64 → IsPage place new
  page_changed rows new op row up made filled short = record {
    filled = filled;
    short = short;
    rising = subst (StandsRising place) (sym made) (placed_once_rises place rows op row up);
  }

  -- whether the rows after a change are a page's
  module _ (rows new : List Record) (op : Op) (row : Record) (made : new ≡ placed_once place rows op row) where
    pub fits_page : 0 < length new → length new ≤ 64 → IsTrue true ↔ ((0 < length (placed_once place rows op row)) × (length (placed_once place rows op row) ≤ 64))
    fits_page filled short = ((λ _. (subst (λ l. 0 < length l) made filled, subst (λ l. length l ≤ 64) made short)), (λ _. refl))

    pub fits_no_page : (0 < length new → length new ≤ 64 → ⊥) → IsTrue false ↔ ((0 < length (placed_once place rows op row)) × (length (placed_once place rows op row) ≤ 64))
    fits_no_page other = ((λ e. absurd (false≢true e)), (λ sizes. absurd (other (subst (λ l. 0 < length l) (sym made) sizes.0) (subst (λ l. length l ≤ 64) (sym made) sizes.1))))
