-- Nodes of a tree, one after another: pages, and branches of them.
use Rattle.std.proofs.Common.{◌≡◌, ℕ, zero, suc, ◌+◌, ◌-◌, ◌<◌, ◌≤◌, Bool, true, false, List, [], ◌∷◌, ◌++◌, length, take, drop, get_or, set, None, Result, Ok, Err, OnOk, OnErr, refl, sym, ap, ◌∙◌, subst, inl, inr, arith, add-one}
use mathlib.Core.Bool.{false≢true}
use Rattle.std.specs.List.Sorted.{IsPartitionedBy, IsPartitionPoint}
use Rattle.std.specs.Ordering.{is_le}
use Rattle.std.specs.declared.cmp.Ordering.{Ordering}
use Rattle.std.specs.declared.cmp.Ordering.TheVariants.{Less, Equal, Greater}
use Rattle.std.proofs.lemmas.List.{append_assoc, append-nil, take-append-drop, drop_all, get_or-drop, length-drop, length-take, length-append, set_split}
use Rattle.std.specs.List.{remove, insert}
use Rattle.std.proofs.lemmas.Bool.{cases_lt}
use Rattle.db_records.specs.declared.change.Op.{Op}
use Rattle.db_records.specs.declared.record.Record.{Record}
use Rattle.table_store.specs.Places.{Place, place_cmp, AllStandBelow, AllStandAbove, StandsRising, IsPage, first_order, standing_at, standing_from, placed_once}
use Rattle.table_store.specs.Nodes.{rows_of, AllFilled, AreNodes, IsNodeCount, ReplacesNode, ChangesNode}
use Rattle.table_store.specs.Parts.{AreParts}
use Rattle.table_store.specs.declared.node.Parts.{Parts}
use Rattle.table_store.proofs.Order.{places_total, below_turned, below_tied, AllStandAbove-lower, AllStandAbove-right, AllStandBelow-left, AllStandBelow-right, below_by_last, AllStandBelow-higher, AllStandBelow-tied, before_row, StandsRising-left, StandsRising-right, placed_once_rises, standing_at-above, standing_from-above, standing_at-middle, standing_from-middle, placed_once-middle}
use Rattle.table_store.proofs.Place.{around, some_row}

le_false : (o : Ordering) → is_le o ≡ false → o ≡ Greater
le_false Less h = cc
le_false Equal h = cc
le_false Greater h = refl

-- a first row below one that is at or below the place is so too
le_by_less : (a b sought : Place) → place_cmp b a ≡ Greater → (o : Ordering) → place_cmp b sought ≡ o → is_le o ≡ true → is_le (place_cmp a sought) ≡ true
le_by_less a b sought above Less e h = rw (places_total.trans a b sought (below_turned b a above) e) refl
le_by_less a b sought above Equal e h = rw (below_tied a b sought (below_turned b a above) e) refl
le_by_less a b sought above Greater e h = absurd (false≢true h)

-- a list after an insertion and a write before it
set_insert : {X : Type 0} (xs : List X) (i : ℕ) (x y : X) → i < length xs → set (take (suc i) xs ++ y ∷ drop (suc i) xs) i x ≡ take i xs ++ x ∷ (y ∷ drop (suc i) xs)
set_insert [] i x y h = absurd (omega arith)
set_insert (z ∷ zs) zero x y h = refl
set_insert (z ∷ zs) (suc i) x y h = ap (λ l. z ∷ l) (set_insert zs i x y (omega arith))

-- an item of a list, whatever would stand past its end
pub same_item : {X : Type 0} (xs : List X) (i : ℕ) (d e : X) → i < length xs → get_or xs i d ≡ get_or xs i e
same_item [] i d e h = absurd (omega arith)
same_item (x ∷ xs) zero d e h = refl
same_item (x ∷ xs) (suc i) d e h = same_item xs i d e (omega arith)

no_rows : (rows : List Record) → length rows ≡ 0 → rows ≡ []
no_rows [] h = refl
no_rows (row ∷ rows) h = absurd (omega arith)

module _ (place : Record → Place) where
  -- rows above the place, where the first is
  above_first : (sought : Place) (rows rest : List Record) → 0 < length rows → StandsRising place (rows ++ rest) → is_le (first_order place rows sought) ≡ false → AllStandAbove place sought (rows ++ rest)
  above_first sought [] rest filled up h = absurd (omega arith)
  above_first sought (row ∷ rows) rest filled up h = let g = le_false _ h in (g, AllStandAbove-lower place _ sought (rows ++ rest) g up.0)

  -- rows below the place, before one that is at or below it
  below_row : (sought : Place) (front : List Record) (row : Record) (rest : List Record) → StandsRising place (front ++ row ∷ rest) → (o : Ordering) → place_cmp (place row) sought ≡ o → is_le o ≡ true → AllStandBelow place sought front
  below_row sought front row rest up Less e h = AllStandBelow-higher place _ sought front e (before_row place front row rest up)
  below_row sought front row rest up Equal e h = AllStandBelow-tied place _ sought front e (before_row place front row rest up)
  below_row sought front row rest up Greater e h = absurd (false≢true h)

  below_first : (sought : Place) (front rows rest : List Record) → 0 < length rows → StandsRising place (front ++ (rows ++ rest)) → is_le (first_order place rows sought) ≡ true → AllStandBelow place sought front
  below_first sought front [] rest filled up h = absurd (omega arith)
  below_first sought front (row ∷ rows) rest filled up h = below_row sought front row (rows ++ rest) up _ refl h

  le_before : (sought : Place) (a : Record) (rows : List Record) → 0 < length rows → first_order place rows (place a) ≡ Greater → is_le (first_order place rows sought) ≡ true → is_le (place_cmp (place a) sought) ≡ true
  le_before sought a [] filled above h = absurd (omega arith)
  le_before sought a (row ∷ rows) filled above h = le_by_less (place a) (place row) sought above _ refl h

  first_of_above : (sought : Place) (rows rest : List Record) → 0 < length rows → AllStandAbove place sought (rows ++ rest) → first_order place rows sought ≡ Greater
  first_of_above sought [] rest filled all = absurd (omega arith)
  first_of_above sought (row ∷ rows) rest filled all = all.0

  -- the two parts of the rows of a page that is cut
  pub page_lower : (n : ℕ) (rows part : List Record) → part ≡ take n rows → 0 < n → n ≤ 64 → n < length rows → StandsRising place rows → IsPage place part
  page_lower n rows part e low high h up = rw e record {
    filled = omega (arith, length-take n rows);
    short = omega (arith, length-take n rows);
    rising = StandsRising-left place (take n rows) (drop n rows) (subst (StandsRising place) (sym (take-append-drop n rows)) up);
  }

  pub page_upper : (n : ℕ) (rows part : List Record) → part ≡ drop n rows → n < length rows → length rows ≤ n + 64 → StandsRising place rows → IsPage place part
  page_upper n rows part e h short up = rw e record {
    filled = omega (arith, length-drop n rows);
    short = omega (arith, length-drop n rows);
    rising = StandsRising-right place (take n rows) (drop n rows) (subst (StandsRising place) (sym (take-append-drop n rows)) up);
  }

pub rows_of-append : (xs ys : List (List Record)) → rows_of (xs ++ ys) ≡ rows_of xs ++ rows_of ys
rows_of-append [] ys = refl
rows_of-append (x ∷ xs) ys = ap (λ l. x ++ l) (rows_of-append xs ys) ∙ sym (append_assoc x (rows_of xs) (rows_of ys))

pub AllFilled-append : (xs ys : List (List Record)) → AllFilled xs → AllFilled ys → AllFilled (xs ++ ys)
AllFilled-append [] ys p q = q
AllFilled-append (x ∷ xs) ys p q = (p.0, AllFilled-append xs ys p.1 q)

pub AllFilled-take : (i : ℕ) (xs : List (List Record)) → AllFilled xs → AllFilled (take i xs)
AllFilled-take zero xs p = tt
AllFilled-take (suc i) [] p = tt
AllFilled-take (suc i) (x ∷ xs) p = (p.0, AllFilled-take i xs p.1)

pub AllFilled-drop : (i : ℕ) (xs : List (List Record)) → AllFilled xs → AllFilled (drop i xs)
AllFilled-drop zero xs p = p
AllFilled-drop (suc i) [] p = tt
AllFilled-drop (suc i) (x ∷ xs) p = AllFilled-drop i xs p.1

pub AllFilled-at : (xs : List (List Record)) (i : ℕ) (d : List Record) → i < length xs → AllFilled xs → 0 < length (get_or xs i d)
AllFilled-at [] i d h p = absurd (omega arith)
AllFilled-at (x ∷ xs) zero d h p = p.0
AllFilled-at (x ∷ xs) (suc i) d h p = AllFilled-at xs i d (omega arith) p.1

-- the rows at a page
pub rows_of-around : (xs : List (List Record)) (i : ℕ) (d : List Record) → i < length xs → rows_of xs ≡ rows_of (take i xs) ++ (get_or xs i d ++ rows_of (drop (i + 1) xs))
rows_of-around xs i d h = ap rows_of (around xs i d h) ∙ rows_of-append (take i xs) (get_or xs i d ∷ drop (i + 1) xs)

module _ (xs : List (List Record)) (i : ℕ) (h : i < length xs) (rows : List Record) where
  pub replaced_none : rows ≡ [] → ReplacesNode xs i rows (remove xs i)
  replaced_none e = record {
    same_rows = rw e (rows_of-append (take i xs) (drop (suc i) xs) ∙ ap (λ k. rows_of (take i xs) ++ rows_of (drop k xs)) (sym (add-one i)));
    filled = λ p. AllFilled-append (take i xs) (drop (suc i) xs) (AllFilled-take i xs p) (AllFilled-drop (suc i) xs p);
  }

  pub replaced_one : (x : List Record) → x ≡ rows → 0 < length rows → ReplacesNode xs i rows (set xs i x)
  replaced_one x e filled = rw (set_split xs i x h) record {
    same_rows = rows_of-append (take i xs) (x ∷ drop (suc i) xs) ∙ ap (λ l. rows_of (take i xs) ++ (l ++ rows_of (drop (suc i) xs))) e ∙ ap (λ k. rows_of (take i xs) ++ (rows ++ rows_of (drop k xs))) (sym (add-one i));
    filled = λ p. AllFilled-append (take i xs) (x ∷ drop (suc i) xs) (AllFilled-take i xs p) (subst (λ l. 0 < length l) (sym e) filled, AllFilled-drop (suc i) xs p);
  }

  pub replaced_two : (lower upper : List Record) (x y : List Record) → x ≡ lower → y ≡ upper → lower ++ upper ≡ rows → 0 < length lower → 0 < length upper → ReplacesNode xs i rows (set (insert xs (i + 1) y) i x)
  replaced_two lower upper x y p q e low high = rw (add-one i, set_insert xs i x y h) record {
    same_rows = rows_of-append (take i xs) (x ∷ (y ∷ drop (suc i) xs)) ∙ ap (λ l. rows_of (take i xs) ++ l) (rw (p, q, add-one i, ← e) (sym (append_assoc lower upper (rows_of (drop (suc i) xs)))));
    filled = λ all. AllFilled-append (take i xs) (x ∷ (y ∷ drop (suc i) xs)) (AllFilled-take i xs all) (subst (λ l. 0 < length l) (sym p) low, (subst (λ l. 0 < length l) (sym q) high, AllFilled-drop (suc i) xs all));
  }

remove_set : (xs : List (List Record)) (i : ℕ) (x : List Record) → remove (set xs i x) i ≡ remove xs i
remove_set [] i x = refl
remove_set (y ∷ ys) zero x = refl
remove_set (y ∷ ys) (suc i) x = ap (λ l. y ∷ l) (remove_set ys i x)

pub rows_of_push : (xs : List (List Record)) (x : List Record) (row : Record) → x ≡ row ∷ [] → rows_of (xs ++ x ∷ []) ≡ rows_of xs ++ row ∷ []
rows_of_push xs x row e = rows_of-append xs (x ∷ []) ∙ ap (λ l. rows_of xs ++ (l ++ [])) e

pub filled_push : (xs : List (List Record)) (x : List Record) (row : Record) → x ≡ row ∷ [] → AllFilled xs → AllFilled (xs ++ x ∷ [])
filled_push xs x row e p = AllFilled-append xs (x ∷ []) p (subst (λ l. 0 < length l) (sym e) (omega arith), tt)

pub rows_of-none : (xs : List (List Record)) → length xs ≡ 0 → length (rows_of xs) ≡ 0
rows_of-none [] h = refl
rows_of-none (x ∷ xs) h = absurd (omega arith)

pub rows_of-some : (xs : List (List Record)) → AllFilled xs → 0 < length xs → 0 < length (rows_of xs)
rows_of-some [] p h = absurd (omega arith)
rows_of-some (x ∷ xs) p h = omega (arith, p.0, length-append x (rows_of xs))

parted : (n : ℕ) (xs : List (List Record)) → rows_of xs ≡ rows_of (take n xs) ++ rows_of (drop n xs)
parted n xs = ap rows_of (sym (take-append-drop n xs)) ∙ rows_of-append (take n xs) (drop n xs)

pub two_parts : (n : ℕ) (xs : List (List Record)) → AllFilled xs → 0 < n → n < length xs → (rows_of (take n xs) ++ rows_of (drop n xs) ≡ rows_of xs) × (0 < length (rows_of (take n xs))) × (0 < length (rows_of (drop n xs)))
two_parts n xs p low h = (sym (parted n xs), rows_of-some (take n xs) (AllFilled-take n xs p) (omega (arith, length-take n xs)), rows_of-some (drop n xs) (AllFilled-drop n xs p) (omega (arith, length-drop n xs)))

module _ (place : Record → Place) where
  module _ (sought : Place) where
    -- whether the page begins at or below the place
    abbrev pub begins : List Record → Bool
    begins page = is_le (first_order place page sought)

    first_above_at : (a : Place) (xs : List (List Record)) (i : ℕ) (d : List Record) → AllFilled xs → AllStandAbove place a (rows_of xs) → i < length xs → first_order place (get_or xs i d) a ≡ Greater
    first_above_at a [] i d p all h = absurd (omega arith)
    first_above_at a (x ∷ xs) zero d p all h = first_of_above place a x (rows_of xs) p.0 all
    first_above_at a (x ∷ xs) (suc i) d p all h = first_above_at a xs i d p.1 (AllStandAbove-right place a x (rows_of xs) all) (omega arith)

    begins_first : (rows : List Record) (xs : List (List Record)) (j : ℕ) (d : List Record) → 0 < length rows → AllFilled xs → StandsRising place (rows ++ rows_of xs) → j < length xs → begins (get_or xs j d) ≡ true → is_le (first_order place rows sought) ≡ true
    begins_first [] xs j d filled p up h b = absurd (omega arith)
    begins_first (row ∷ rows) xs j d filled p up h b = le_before place sought row (get_or xs j d) (AllFilled-at xs j d h p) (first_above_at (place row) xs j d p (AllStandAbove-right place _ rows (rows_of xs) up.0) h) b

    begins_before : (xs : List (List Record)) (i j : ℕ) (d : List Record) → AllFilled xs → StandsRising place (rows_of xs) → i < j → j < length xs → begins (get_or xs j d) ≡ true → begins (get_or xs i d) ≡ true
    begins_before [] i j d p up lt h b = absurd (omega arith)
    begins_before (x ∷ xs) i zero d p up lt h b = absurd (omega arith)
    begins_before (x ∷ xs) zero (suc j) d p up lt h b = begins_first x xs j d p.0 p.1 up (omega arith) b
    begins_before (x ∷ xs) (suc i) (suc j) d p up lt h b = begins_before xs i j d p.1 (StandsRising-right place x (rows_of xs) up) (omega arith) (omega arith) b

    pub nodes_parted : (xs : List (List Record)) → AreNodes place xs → IsPartitionedBy begins xs
    nodes_parted xs shelf i j d le h b = elim (cases_lt i j) [
      | inl lt ↦ begins_before xs i j d shelf.filled shelf.rising lt h b
      | inr ge ↦ subst (λ k. begins (get_or xs k d) ≡ true) {x = j} {y = i} (omega arith) b
    ]

    above_from : (xs : List (List Record)) → AllFilled xs → StandsRising place (rows_of xs) → ((d : List Record) → 0 < length xs → begins (get_or xs 0 d) ≡ false) → AllStandAbove place sought (rows_of xs)
    above_from [] p up h = tt
    above_from (x ∷ xs) p up h = above_first place sought x (rows_of xs) p.0 up (h x (omega arith))

    below_until : (xs : List (List Record)) (n : ℕ) → AreNodes place xs → n ≤ length xs → ((i : ℕ) (d : List Record) → i < n → begins (get_or xs i d) ≡ true) → AllStandBelow place sought (rows_of (take (n - 1) xs))
    below_until xs zero shelf h b = tt
    below_until xs (suc m) shelf h b =
        let d = some_row xs m (omega arith) in
        let split = rows_of-around xs m d (omega arith) in
        subst (λ k. AllStandBelow place sought (rows_of (take k xs))) {x = m} {y = suc m - 1} (omega arith)
        (below_first place sought (rows_of (take m xs)) (get_or xs m d) (rows_of (drop (m + 1) xs)) (AllFilled-at xs m d (omega arith) shelf.filled) (subst (StandsRising place) split shelf.rising) (b m d (omega arith)))

    pub node_count : (xs : List (List Record)) (n : ℕ) → AreNodes place xs → n ≤ length xs → IsPartitionPoint (λ y. begins y ≡ true) (λ y. begins y ≡ false) xs n → IsNodeCount place sought xs n
    node_count xs n shelf h point = record {
      in_range = h;
      below = below_until xs n shelf h (λ i d lt. point.0 i d (omega arith) lt);
      above = above_from (drop n xs) (AllFilled-drop n xs shelf.filled) (StandsRising-right place (rows_of (take n xs)) (rows_of (drop n xs)) (subst (StandsRising place) (ap rows_of (sym (take-append-drop n xs)) ∙ rows_of-append (take n xs) (drop n xs)) shelf.rising)) (λ d lt. rw get_or-drop (point.1 (n + 0) d (omega arith) (omega (arith, length-drop n xs))));
    }

  module _ (sought : Place) (xs : List (List Record)) (n : ℕ) (count : IsNodeCount place sought xs n) where
    above_all : n ≡ 0 → AllStandAbove place sought (rows_of xs)
    above_all e = subst (λ k. AllStandAbove place sought (rows_of (drop k xs))) e count.above

    pub standing_at-before : n ≡ 0 → standing_at place sought (rows_of xs) ≡ None
    standing_at-before e = standing_at-above place sought (rows_of xs) (above_all e)

    pub standing_from-before : n ≡ 0 → standing_from place sought (rows_of xs) ≡ rows_of xs
    standing_from-before e = standing_from-above place sought (rows_of xs) (above_all e)

    above_rest : (at : ℕ) → at ≡ n - 1 → 0 < length xs → AllStandAbove place sought (rows_of (drop (at + 1) xs))
    above_rest at e h = elim (cases_lt 0 n) [
      | inl lt ↦ subst (λ k. AllStandAbove place sought (rows_of (drop k xs))) {x = n} {y = at + 1} (omega arith) count.above
      | inr le ↦ subst (λ k. AllStandAbove place sought (rows_of (drop k xs))) {x = 1} {y = at + 1} (omega arith) (above_tail xs h (above_all (omega arith)))
    ]
      where
        above_tail : (ys : List (List Record)) → 0 < length ys → AllStandAbove place sought (rows_of ys) → AllStandAbove place sought (rows_of (drop 1 ys))
        above_tail [] h all = tt
        above_tail (y ∷ ys) h all = AllStandAbove-right place sought y (rows_of ys) all

    module _ (at : ℕ) (is_last : at ≡ n - 1) (h : 0 < length xs) (d : List Record) where
      in_range : at < length xs
      in_range = omega (arith, count.in_range)

      low : AllStandBelow place sought (rows_of (take at xs))
      low = subst (λ k. AllStandBelow place sought (rows_of (take k xs))) (sym is_last) count.below

      pub standing_at-page : standing_at place sought (rows_of xs) ≡ standing_at place sought (get_or xs at d)
      standing_at-page = ap (standing_at place sought) (rows_of-around xs at d in_range) ∙ standing_at-middle place sought (rows_of (take at xs)) (get_or xs at d) (rows_of (drop (at + 1) xs)) low (above_rest at is_last h)

      pub standing_from-page : standing_from place sought (rows_of xs) ≡ standing_from place sought (get_or xs at d) ++ rows_of (drop (at + 1) xs)
      standing_from-page = ap (standing_from place sought) (rows_of-around xs at d in_range) ∙ standing_from-middle place sought (rows_of (take at xs)) (get_or xs at d) (rows_of (drop (at + 1) xs)) low (above_rest at is_last h)

  pub placed_once-page : (op : Op) (row : Record) (xs : List (List Record)) (n at : ℕ) (d : List Record) → IsNodeCount place (place row) xs n → at ≡ n - 1 → 0 < length xs → placed_once place (rows_of xs) op row ≡ rows_of (take at xs) ++ (placed_once place (get_or xs at d) op row ++ rows_of (drop (at + 1) xs))
  placed_once-page op row xs n at d count e h =
      let sought = place row in
      ap (λ rows. placed_once place rows op row) (rows_of-around xs at d (in_range sought xs n count at e h d))
      ∙ placed_once-middle place op row (rows_of (take at xs)) (get_or xs at d) (rows_of (drop (at + 1) xs)) (low sought xs n count at e h d) (above_rest sought xs n count at e h)

  -- a page whose rows change in place
  pub changed_in_place : (xs : List (List Record)) (i : ℕ) (x : List Record) (op : Op) (row : Record) → i < length xs → ((d : List Record) → x ≡ placed_once place (get_or xs i d) op row) → 0 < length x → ChangesNode place xs i op row (set xs i x)
  changed_in_place xs i x op row h made filled = record {
    replaces = λ d. rw (set_split xs i x h, ← made d) record {
      same_rows = rows_of-append (take i xs) (x ∷ drop (suc i) xs) ∙ ap (λ k. rows_of (take i xs) ++ (x ++ rows_of (drop k xs))) (sym (add-one i));
      filled = λ p. AllFilled-append (take i xs) (x ∷ drop (suc i) xs) (AllFilled-take i xs p) (filled, AllFilled-drop (suc i) xs p);
    };
  }

  -- a page that has no rows after a change
  pub changed_to_none : (xs : List (List Record)) (i : ℕ) (x : List Record) (op : Op) (row : Record) → i < length xs → ((d : List Record) → x ≡ placed_once place (get_or xs i d) op row) → length x ≡ 0 → ChangesNode place xs i op row (remove (set xs i x) i)
  changed_to_none xs i x op row h made none = record {
    replaces = λ d. rw (remove_set xs i x, ← made d) (replaced_none xs i h x (no_rows x none));
  }

  -- a page of one row behind the last one
  pub changed_behind : (xs ys : List (List Record)) (i : ℕ) (op : Op) (row : Record) → i + 1 ≡ length xs → ((d : List Record) → placed_once place (get_or xs i d) op row ≡ get_or xs i d ++ row ∷ []) → rows_of ys ≡ rows_of xs ++ row ∷ [] → (AllFilled xs → AllFilled ys) → ChangesNode place xs i op row ys
  changed_behind xs ys i op row h made same filled = record {
    replaces = λ d. record {
      same_rows =
          same
          ∙ ap (λ l. l ++ row ∷ []) (rows_of-around xs i d (omega arith))
          ∙ rw (made d, drop_all (i + 1) xs (omega arith)) (simp (append_assoc, append-nil));
      filled = filled;
    };
  }

  pub made_alone : (xs : List (List Record)) (i : ℕ) (old new : List Record) (op : Op) (row : Record) → i < length xs → old ≡ get_or xs i old → new ≡ placed_once place old op row → (d : List Record) → new ≡ placed_once place (get_or xs i d) op row
  made_alone xs i old new op row h is made d = made ∙ ap (λ x. placed_once place x op row) (is ∙ same_item xs i old d h)

  pub behind_ok : {A E : Type 0} (xs ys : List (List Record)) (i : ℕ) (op : Op) (row : Record) (r : Result A E) → i + 1 ≡ length xs → ((d : List Record) → placed_once place (get_or xs i d) op row ≡ get_or xs i d ++ row ∷ []) → OnOk r (rows_of ys ≡ rows_of xs ++ row ∷ []) → (AllFilled xs → AllFilled ys) → OnOk r (ChangesNode place xs i op row ys)
  behind_ok xs ys i op row (Ok a) h made ok filled = changed_behind xs ys i op row h made ok filled
  behind_ok xs ys i op row (Err e) h made ok filled = tt

  -- a node in whose place its parts stand after a change
  pub parts_ok : {A E N : Type 0} (rows_in : N → List Record) (parts : Parts N) (xs zs ys : List (List Record)) (i : ℕ) (node : List Record) (op : Op) (row : Record) (r : Result A E) → zs ≡ xs → i < length xs → node ≡ get_or xs i node → AreParts rows_in (placed_once place node op row) parts → OnOk r ((rows : List Record) → AreParts rows_in rows parts → ReplacesNode zs i rows ys) → OnOk r (ChangesNode place xs i op row ys)
  parts_ok rows_in parts xs zs ys i node op row (Ok a) same h is made ok = record {
    replaces = λ d. rw (← same_item xs i node d h, ← is, ← same) (ok (placed_once place node op row) made);
  }
  parts_ok rows_in parts xs zs ys i node op row (Err e) same h is made ok = tt

  module _ (op : Op) (row : Record) (xs ys : List (List Record)) (n at : ℕ) (count : IsNodeCount place (place row) xs n) (last : at ≡ n - 1) (h : 0 < length xs) (shelf : AreNodes place xs) where
    changed_rows_of : ChangesNode place xs at op row ys → rows_of ys ≡ placed_once place (rows_of xs) op row
    changed_rows_of changes = let d = some_row xs 0 h in (changes.replaces d).same_rows ∙ sym (placed_once-page op row xs n at d count last h)

    pub changed_nodes : {A E : Type 0} (r : Result A E) → OnOk r (ChangesNode place xs at op row ys) → OnErr r (ys ≡ xs) → AreNodes place ys
    changed_nodes (Ok a) ok err = record { filled = (ok.replaces (some_row xs 0 h)).filled shelf.filled; rising = subst (StandsRising place) (sym (changed_rows_of ok)) (placed_once_rises place (rows_of xs) op row shelf.rising) }
    changed_nodes (Err e) ok err = subst (AreNodes place) (sym err) shelf

    pub changed_ok : {A E : Type 0} (r : Result A E) → OnOk r (ChangesNode place xs at op row ys) → OnOk r (rows_of ys ≡ placed_once place (rows_of xs) op row)
    changed_ok (Ok a) ok = changed_rows_of ok
    changed_ok (Err e) ok = tt

  pub below_to_last : (sought : Place) (xs : List (List Record)) (d : List Record) → 0 < length xs → AllStandBelow place sought (rows_of xs) → AllStandBelow place sought (get_or xs (length xs - 1) d)
  below_to_last sought xs d h low =
      let last = get_or xs (length xs - 1) d in
      let front = rows_of (take (length xs - 1) xs) in
      let behind = rows_of (drop (length xs - 1 + 1) xs) in
      AllStandBelow-left place sought last behind (AllStandBelow-right place sought front (last ++ behind) (subst (AllStandBelow place sought) (rows_of-around xs (length xs - 1) d (omega arith)) low))

  pub below_from_last : (sought : Place) (xs : List (List Record)) (d : List Record) → 0 < length xs → AreNodes place xs → AllStandBelow place sought (get_or xs (length xs - 1) d) → AllStandBelow place sought (rows_of xs)
  below_from_last sought xs d h nodes low =
      let last = get_or xs (length xs - 1) d in
      let front = rows_of (take (length xs - 1) xs) in
      let split : rows_of xs ≡ front ++ last = rows_of-around xs (length xs - 1) d (omega arith) ∙ rw (drop_all (length xs - 1 + 1) xs (omega arith), append-nil) refl in
      subst (AllStandBelow place sought) (sym split) (below_by_last place sought front last (AllFilled-at xs (length xs - 1) d (omega arith) nodes.filled) (subst (StandsRising place) split nodes.rising) low)

  pub count_all : (sought : Place) (xs : List (List Record)) → AllStandBelow place sought (rows_of xs) → IsNodeCount place sought xs (length xs)
  count_all sought xs low = record {
    in_range = omega arith;
    below = AllStandBelow-left place sought (rows_of (take (length xs - 1) xs)) (rows_of (drop (length xs - 1) xs)) (subst (AllStandBelow place sought) (ap rows_of (sym (take-append-drop (length xs - 1) xs)) ∙ rows_of-append (take (length xs - 1) xs) (drop (length xs - 1) xs)) low);
    above = rw (drop_all (length xs) xs (omega arith)) tt;
  }

  pub nodes_lower : (n : ℕ) (xs : List (List Record)) → AreNodes place xs → AreNodes place (take n xs)
  nodes_lower n xs shelf = record { filled = AllFilled-take n xs shelf.filled; rising = StandsRising-left place (rows_of (take n xs)) (rows_of (drop n xs)) (subst (StandsRising place) (parted n xs) shelf.rising) }

  pub nodes_upper : (n : ℕ) (xs : List (List Record)) → AreNodes place xs → AreNodes place (drop n xs)
  nodes_upper n xs shelf = record { filled = AllFilled-drop n xs shelf.filled; rising = StandsRising-right place (rows_of (take n xs)) (rows_of (drop n xs)) (subst (StandsRising place) (parted n xs) shelf.rising) }
