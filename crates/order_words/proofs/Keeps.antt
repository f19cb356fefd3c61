-- Each kind of step keeps the lane rule.
use Rattle.std.proofs.Common.{◌≡◌, ◌≢◌, ℕ, zero, suc, ◌+◌, ◌<◌, ◌≤◌, ◌==◌, ltb, ◌||◌, Bool, true, false, cond, List, [], ◌∷◌, ◌++◌, length, replicate, get_or, set, refl, sym, ap, ◌∙◌, subst, ⊎_elim, arith, length-append, length-set, get_or-set_other, get_or-set_same}
use mathlib.Core.Logic.{dite}
use mathlib.Core.Option.{none, some, some-injective}
use prog.Atomic.{either}
use mathlib.Core.List.{IsPrefix}
use native.Mathlib.Decide.{ℕ_discrete}
use lib.ListN.{get_elem?, length-replicate}
use lib.Seq.{set-get_or}
use borrow.Author.Tests.{eqb-true, eq-eqb, ltb-true, ltb-false}
use Rattle.atomic_table.specs.Table.{State, step, keeps, stepped, Allows, Splits, Joins}
use Rattle.atomic_table.proofs.Lists.{at_set, set_else, set_again, at_longer, at_last, at_snoc}
use Rattle.order_words.specs.declared.view.View.{View}
use Rattle.order_words.specs.declared.view.Role.{Role}
use Rattle.order_words.specs.declared.view.Role.TheVariants.{Order, Lane, Note, Spent}
use Rattle.order_words.specs.Lanes.{has_lane, last_touch, is_among}
use Rattle.order_words.specs.Rule.{lane_word, first_view, IsOrderRole, IsLaneRole, IsTrueOfRole, ObeysLaneRule}
use Rattle.order_words.specs.Seats.{OrderState, LaneState, NoteState, checked_with, longer}
use Rattle.order_words.specs.Plays.{seen_as, order_view, lane_view, note_view, with_lane, new_lane, written_note, told_by, spent_note, LearnsOfOrder, LearnsOfLane, Announces, Checks, Appends, Rests, Looks}
use Rattle.order_words.proofs.Prefixes.{prefix_none, prefix_self, prefix_more, prefix_shorter, prefix_length}
use Rattle.order_words.proofs.Touches.{last_touch_within, last_touch_prefix, last_touch_touched, last_touch_passed}

-- a view that was told something
abbrev pub told_as : {E : Type 0} → List E → List E → Role → View E
told_as list told role = record { list = list; told = told; role = role }

module _ {E : Type 0} (lanes : E → ℕ) (count : ℕ) where
  abbrev pub Views : Type 0
  Views = List (View E)

  abbrev pub Fits : List ℕ → List E → List ℕ → ℕ → ℕ → View E → Type 0
  Fits words order seats keeper seat v = IsPrefix v.list order × IsPrefix v.told order × IsTrueOfRole lanes words order seats keeper seat v.list v.role

  -- whoever had the role has it still
  still : (P : Role → Type 0) (views : Views) (id : ℕ) (v w : View E) → get_elem? views id ≡ some v → (P v.role → P w.role)
      → (seat : ℕ) → ((u : View E) × (get_elem? views seat ≡ some u) × P u.role) → (u : View E) × (get_elem? (set views id w) seat ≡ some u) × P u.role
  still P views id v w at same seat h = dite (ℕ_discrete seat id)
      (λ e. let is : h.0 ≡ v = cc (e, h.1, at) in (w, subst (λ (k : ℕ). get_elem? (set views id w) k ≡ some w) (sym e) (set_there views id v w at), same (subst (λ (u : View E). P u.role) is h.2)))
      (λ n. (h.0, set_else views id seat w n ∙ h.1, h.2))
    where
      set_there : (xs : Views) (i : ℕ) (a b : View E) → get_elem? xs i ≡ some a → get_elem? (set xs i b) i ≡ some b
      set_there [] i a b e = absurd (cc)
      set_there (x ∷ xs) zero a b e = refl
      set_there (x ∷ xs) (suc i) a b e = set_there xs i a b e

  -- a step of one seat, where the other seats' facts stay true over the new words and the new order
  moves : (words words' : List ℕ) (views : Views) (r : ObeysLaneRule lanes count words views) (order' : List E) (id : ℕ) (v w : View E) → get_elem? views id ≡ some v
      → (IsOrderRole v.role → IsOrderRole w.role) → ((lane : ℕ) → IsLaneRole lane v.role → IsLaneRole lane w.role)
      → length words' ≡ count + 1 → get_or words' 0 0 ≡ length order'
      → ((lane : ℕ) → (last_touch lanes lane order' ≤ lane_word words' lane) × (lane_word words' lane ≤ length order' + 1))
      → ((lane : ℕ) → length r.seats ≤ lane → lane_word words' lane ≡ 0)
      → Fits words' order' r.seats r.keeper id w
      → ((seat : ℕ) (u : View E) → seat ≢ id → get_elem? views seat ≡ some u → Fits words' order' r.seats r.keeper seat u)
      → ObeysLaneRule lanes count words' (set views id w)
  moves words words' views r order' id v w at keeps_order keeps_lane wide counted bounds unmade mine others = record {
    order = order';
    seats = r.seats;
    keeper = r.keeper;
    wide = wide;
    made = r.made;
    counted = counted;
    low = λ lane. (bounds lane).0;
    high = λ lane. (bounds lane).1;
    unmade = unmade;
    kept_by = still IsOrderRole views id v w at keeps_order r.keeper r.kept_by;
    each_lane = λ lane seat e. still (IsLaneRole lane) views id v w at (keeps_lane lane) seat (r.each_lane lane seat e);
    each_seat = λ seat u e. ⊎_elim
        (λ (t : (seat ≡ id) × (w ≡ u)). subst (λ (z : ℕ × View E). Fits words' order' r.seats r.keeper z.0 z.1) (λ i. (sym t.0 i, t.1 i)) mine)
        (λ (t : (seat ≢ id) × (get_elem? views seat ≡ some u)). others seat u t.0 t.1)
        (at_set views id seat w u e);
  }

  -- a step of one seat that changes no word and not the order
  reseats : (words : List ℕ) (views : Views) (r : ObeysLaneRule lanes count words views) (id : ℕ) (v w : View E) → get_elem? views id ≡ some v
      → (IsOrderRole v.role → IsOrderRole w.role) → ((lane : ℕ) → IsLaneRole lane v.role → IsLaneRole lane w.role)
      → Fits words r.order r.seats r.keeper id w
      → ObeysLaneRule lanes count words (set views id w)
  reseats words views r id v w at keeps_order keeps_lane mine = moves words words views r r.order id v w at keeps_order keeps_lane r.wide r.counted (λ lane. (r.low lane, r.high lane)) r.unmade mine (λ seat u n e. r.each_seat seat u e)

  abbrev pub St : Type 0
  St = State E (View E)

  abbrev pub Rule : St → Type 0
  Rule s = ObeysLaneRule lanes count s.words s.views

  -- the same as a step of the table which loads a word
  loads : (s : St) (r : Rule s) (i id : ℕ) (cs : List (ℕ × E)) (v w : View E) → get_elem? s.views id ≡ some v
      → (IsOrderRole v.role → IsOrderRole w.role) → ((lane : ℕ) → IsLaneRole lane v.role → IsLaneRole lane w.role)
      → Fits s.words r.order r.seats r.keeper id w
      → Rule (stepped s i (get_or s.words i 0) id cs w keeps)
  loads s r i id cs v w at keeps_order keeps_lane mine =
      subst (λ (ws : List ℕ). ObeysLaneRule lanes count ws (set s.views id w)) (sym (set-get_or s.words i 0)) (reseats s.words s.views r id v w at keeps_order keeps_lane mine)

  -- what the seat of a view knows
  abbrev known : (s : St) (r : Rule s) (id : ℕ) (v : View E) → get_elem? s.views id ≡ some v → Fits s.words r.order r.seats r.keeper id v
  known s r id v at = r.each_seat id v at

  abbrev pub At : (s : St) → ℕ → View E → Type 0
  At s id v = get_elem? s.views id ≡ some v

  -- ---- make and split
  pub tells : (id : ℕ) (v : View E) → (n : ℕ) (word : ℕ) → ((s : St) → (r : Rule s) → At s id v → word ≤ lane_word s.words n) → Splits Rule id v v (seen_as v.list (Note n word))
  tells id v n word reached s r at = subst (λ (vs : Views). ObeysLaneRule lanes count s.words (vs ++ seen_as v.list (Note n word) ∷ [])) (sym (set_again s.views id v at)) record {
    order = r.order;
    seats = r.seats;
    keeper = r.keeper;
    wide = r.wide;
    made = r.made;
    counted = r.counted;
    low = r.low;
    high = r.high;
    unmade = r.unmade;
    kept_by = let k = r.kept_by in (k.0, at_longer s.views (seen_as v.list (Note n word) ∷ []) r.keeper k.0 k.1, k.2);
    each_lane = λ lane seat e. let k = r.each_lane lane seat e in (k.0, at_longer s.views (seen_as v.list (Note n word) ∷ []) seat k.0 k.1, k.2);
    each_seat = λ seat u e. ⊎_elim (λ h. r.each_seat seat u h)
        (λ (same : seen_as v.list (Note n word) ≡ u). subst (λ (z : View E). Fits s.words r.order r.seats r.keeper seat z) same ((r.each_seat id v at).0, prefix_none r.order, reached s r at))
        (at_snoc s.views (seen_as v.list (Note n word)) u seat e);
  }

  pub tells_order : (id : ℕ) (k : OrderState E) → Splits Rule id (order_view k) (order_view k) (written_note (order_view k))
  tells_order id k = tells id (order_view k) 0 0 (λ s r at. omega arith)

  pub tells_lane : (id : ℕ) (k : LaneState E) → Splits Rule id (lane_view k) (lane_view k) (written_note (lane_view k))
  tells_lane id k = tells id (lane_view k) k.lane k.word (λ s r at. let f = known s r id (lane_view k) at in let is = f.2.1 in omega arith)

  -- one more lane changes nothing for the seats of other lanes
  more_seats : (words : List ℕ) (order : List E) (seats : List ℕ) (n keeper seat : ℕ) (list : List E) → seat ≢ keeper
      → (role : Role) → IsTrueOfRole lanes words order seats keeper seat list role → IsTrueOfRole lanes words order (seats ++ n ∷ []) keeper seat list role
  more_seats words order seats n keeper seat list other (Order made checked) f = absurd (other f.0)
  more_seats words order seats n keeper seat list other (Lane lane word resting) f = (at_longer seats (n ∷ []) lane seat f.0, f.1, f.2)
  more_seats words order seats n keeper seat list other (Note lane word) f = f
  more_seats words order seats n keeper seat list other Spent f = f

  -- ---- make
  pub makes : (id : ℕ) (k : OrderState E) → k.made < count → Splits Rule id (order_view k) (with_lane (order_view k)) (new_lane (order_view k))
  makes id k room s r at =
      let v = order_view k in
      let w = with_lane (order_view k) in
      let mine = known s r id v at in
      let is_made : k.made ≡ length r.seats = mine.2.2 in
      let fresh = new_lane v in
      let views : Views = set s.views id w in
      let seats : List ℕ = r.seats ++ length views ∷ [] in
      let longer_seats : length seats ≡ length r.seats + 1 = length-append r.seats (length views ∷ []) in
      record {
        order = r.order;
        seats = seats;
        keeper = r.keeper;
        wide = r.wide;
        made = omega arith;
        counted = r.counted;
        low = r.low;
        high = r.high;
        unmade = λ lane h. r.unmade lane (omega arith);
        kept_by = let k = still IsOrderRole s.views id v w at (λ t. tt) r.keeper r.kept_by in (k.0, at_longer views (fresh ∷ []) r.keeper k.0 k.1, k.2);
        each_lane = λ lane seat e. dite (ℕ_discrete lane (length r.seats))
            (λ same. let is : length views ≡ seat = cc (at_last r.seats (length views) lane (sym same), e) in (fresh, at_last views fresh seat is, is_made ∙ sym same))
            (λ other. let old : get_elem? r.seats lane ≡ some seat = within r.seats (length views) lane seat other e in
            let k = still (IsLaneRole lane) s.views id v w at (λ t. t) seat (r.each_lane lane seat old) in (k.0, at_longer views (fresh ∷ []) seat k.0 k.1, k.2));
        each_seat = λ seat u e. dite (ℕ_discrete seat (length views))
            (λ same.
            let is : fresh ≡ u = cc (at_last views fresh seat (sym same), e) in
            let place : get_elem? seats k.made ≡ some seat = at_last r.seats (length views) k.made (sym is_made) ∙ ap some (sym same) in
            subst (Fits s.words r.order seats r.keeper seat) is (prefix_none r.order, prefix_none r.order, (place, r.unmade k.made (omega arith), λ t. refl)))
            (λ other. ⊎_elim
            (λ (t : (seat ≡ id) × (w ≡ u)). subst (λ (z : ℕ × View E). Fits s.words r.order seats r.keeper z.0 z.1) (λ i. (sym t.0 i, t.1 i))
            (mine.0, mine.1, (mine.2.0, mine.2.1, omega arith, mine.2.3)))
            (λ (t : (seat ≢ id) × (get_elem? s.views seat ≡ some u)).
            let f = r.each_seat seat u t.1 in (f.0, f.1, more_seats s.words r.order r.seats (length views) r.keeper seat u.list (λ q. t.0 (q ∙ sym mine.2.0)) u.role f.2))
            (at_set s.views id seat w u (within views fresh seat u other e)));
      }
    where
      within : {A : Type 0} (xs : List A) (x : A) (i : ℕ) (y : A) → i ≢ length xs → get_elem? (xs ++ x ∷ []) i ≡ some y → get_elem? xs i ≡ some y
      within [] x zero y n e = absurd (n refl)
      within [] x (suc i) y n e = absurd cc
      within (z ∷ xs) x zero y n e = e
      within (z ∷ xs) x (suc i) y n e = within xs x i y (λ q. n (ap suc q)) e

  -- ---- join
  -- who meets a note of the list is told a beginning of the order
  heard_first : (s : St) (r : Rule s) (id other : ℕ) (v w both : View E) → At s id v → other ≢ id → get_elem? (set s.views id both) other ≡ some w → Fits s.words r.order r.seats r.keeper other w
  heard_first s r id other v w both at apart e = r.each_seat other w (sym (set_else s.views id other both apart) ∙ e)

  meets : (id other : ℕ) (v both : View E) (k : NoteState E) → (IsOrderRole v.role → IsOrderRole both.role) → ((lane : ℕ) → IsLaneRole lane v.role → IsLaneRole lane both.role)
      → ((s : St) (r : Rule s) → At s id v → k.word ≤ lane_word s.words k.lane → IsPrefix k.list r.order → Fits s.words r.order r.seats r.keeper id both)
      → Joins Rule id v other (note_view k) both spent_note
  meets id other v both k keeps_order keeps_lane fits s r at apart e =
      let w = note_view k in
      let told = heard_first s r id other v w both at apart e in
      let first : ObeysLaneRule lanes count s.words (set s.views id both) = reseats s.words s.views r id v both at keeps_order keeps_lane (fits s r at told.2 told.0) in
      reseats s.words (set s.views id both) first other w spent_note e (λ t. t) (λ lane t. t) (prefix_none first.order, prefix_none first.order, tt)

  pub lane_meets : (id other : ℕ) (l : LaneState E) (k : NoteState E) → Joins Rule id (lane_view l) other (note_view k) (told_by (lane_view l) (note_view k)) spent_note
  lane_meets id other l k = meets id other (lane_view l) (told_by (lane_view l) (note_view k)) k (λ t. t) (λ lane t. t)
      (λ s r at reached told. let f = known s r id (lane_view l) at in (f.0, told, f.2))

  checks_more : (words : List ℕ) (places lane word : ℕ) (checked : List ℕ) → (word ≡ places + 1 → lane_word words lane ≡ places + 1)
      → ((i : ℕ) → is_among i checked ≡ true → lane_word words i ≡ places + 1)
      → (i : ℕ) → is_among i (checked_with places lane word checked) ≡ true → lane_word words i ≡ places + 1
  checks_more words places lane word checked new old i = by_test (word == places + 1) refl
    where
      by_first : (b : Bool) → (i == lane) ≡ b → (word ≡ places + 1) → (b || is_among i checked) ≡ true → lane_word words i ≡ places + 1
      by_first true e is h = ap (lane_word words) (eqb-true i lane e) ∙ new is
      by_first false e is h = old i h

      by_test : (b : Bool) → (word == places + 1) ≡ b → is_among i (cond b (lane ∷ checked) checked) ≡ true → lane_word words i ≡ places + 1
      by_test true e h = by_first (i == lane) refl (eqb-true word (places + 1) e) h
      by_test false e h = old i h

  pub order_meets : (id other : ℕ) (o : OrderState E) (k : NoteState E) → Joins Rule id (order_view o) other (note_view k) (told_by (order_view o) (note_view k)) spent_note
  order_meets id other o k = meets id other (order_view o) (told_by (order_view o) (note_view k)) k (λ t. t) (λ lane t. t) (λ s r at reached told.
      let f = known s r id (order_view o) at in
      let whole : length o.list ≡ length r.order = ap length f.2.1 in
      let high = r.high k.lane in
      let more = checks_more s.words (length o.list) k.lane k.word o.checked (λ is. omega arith) (λ i h. f.2.3 i h ∙ ap (λ (n : ℕ). n + 1) (sym whole)) in
      (f.0, told, (f.2.0, f.2.1, f.2.2, λ i h. more i h ∙ ap (λ (n : ℕ). n + 1) whole)))

  -- ---- what was told is taken in
  longer_is : (xs ys zs : List E) → IsPrefix xs zs → IsPrefix ys zs → IsPrefix xs (longer xs ys) × IsPrefix ys (longer xs ys) × IsPrefix (longer xs ys) zs
  longer_is xs ys zs p q = by_test (ltb (length xs) (length ys)) refl
    where
      by_test : (b : Bool) → ltb (length xs) (length ys) ≡ b → IsPrefix xs (cond b ys xs) × IsPrefix ys (cond b ys xs) × IsPrefix (cond b ys xs) zs
      by_test true e = let le = ltb-true (length xs) (length ys) e in (prefix_shorter xs ys zs p q (omega arith), prefix_self ys, q)
      by_test false e = (prefix_self xs, prefix_shorter ys xs zs q p (ltb-false (length xs) (length ys) e), p)

  pub learns : (slots id : ℕ) (cs : List (ℕ × E)) (list told : List E) (lane word : ℕ) (resting : Bool)
      → Allows Rule slots id (told_as list told (Lane lane word resting), cs) 0 (λ n. n) (LearnsOfLane lanes (step slots 0 0 0 none) (told_as list told (Lane lane word resting), cs))
  learns slots id cs list told lane word resting s r len at small =
      let role = Lane lane word resting in
      let v = told_as list told role in
      let f = known s r id v at in
      let best = longer_is list told r.order f.0 f.1 in
      let high = last_touch_prefix lanes lane (longer list told) r.order best.2 in
      let low = last_touch_prefix lanes lane list (longer list told) best.0 in
      let held = f.2.1 in
      let bound = r.low lane in
      let rest : resting ≡ true → last_touch lanes lane (longer list told) ≡ word = λ is. let now = f.2.2 is in omega arith in (
        seen_as (longer list told) role,
        keeps,
        tt,
        loads s r 0 id cs v (seen_as (longer list told) role) at (λ t. t) (λ j t. t) (best.2, prefix_none r.order, (f.2.0, f.2.1, rest)),
        (refl, best.0, best.1, rest),
      )

  pub minds : (slots id : ℕ) (cs : List (ℕ × E)) (list told : List E) (made : ℕ) (check : List ℕ)
      → Allows Rule slots id (told_as list told (Order made check), cs) 0 (λ n. n) (LearnsOfOrder lanes (step slots 0 0 0 none) (told_as list told (Order made check), cs))
  minds slots id cs list told made check s r len at small =
      let role = Order made check in
      let v = told_as list told role in
      let f = known s r id v at in
      (seen_as list role, keeps, tt, loads s r 0 id cs v (seen_as list role) at (λ t. t) (λ j t. t) (f.0, prefix_none r.order, f.2), (refl, subst (IsPrefix told) (sym f.2.1) f.1))

  -- ---- announce
  at_below : {A : Type 0} (xs : List A) (i : ℕ) (x : A) → get_elem? xs i ≡ some x → i < length xs
  at_below [] i x e = absurd cc
  at_below (y ∷ ys) zero x e = omega arith
  at_below (y ∷ ys) (suc i) x e = let h = at_below ys i x e in omega arith

  word_else : (words : List ℕ) (i j n : ℕ) → j ≢ i → lane_word (set words (i + 1) n) j ≡ lane_word words j
  word_else words i j n other = get_or-set_other words (i + 1) (j + 1) n 0 (λ e. other (omega arith))

  -- a lane's word rises, by the step of its own seat
  raised : (words : List ℕ) (order : List E) (seats : List ℕ) (keeper lane n id seat : ℕ) (list : List E) → lane + 1 < length words → lane_word words lane ≤ n → lane_word words lane ≢ length order + 1
      → get_elem? seats lane ≡ some id → seat ≢ id
      → (role : Role) → IsTrueOfRole lanes words order seats keeper seat list role → IsTrueOfRole lanes (set words (lane + 1) n) order seats keeper seat list role
  raised words order seats keeper lane n id seat list inside rises free mine other (Order made check) f =
      (f.0, f.1, f.2, λ i h. dite (ℕ_discrete i lane) (λ same. absurd (free (subst (λ (j : ℕ). lane_word words j ≡ length order + 1) same (f.3 i h)))) (λ ne. word_else words lane i n ne ∙ f.3 i h))
  raised words order seats keeper lane n id seat list inside rises free mine other (Lane i word resting) f =
      (f.0, word_else words lane i n (λ same. let is : seat ≡ id = cc (f.0, mine, same) in other is) ∙ f.1, f.2)
  raised words order seats keeper lane n id seat list inside rises free mine other (Note i word) f = dite (ℕ_discrete i lane)
      (λ same. let now : lane_word (set words (lane + 1) n) i ≡ n = ap (lane_word (set words (lane + 1) n)) same ∙ get_or-set_same words (lane + 1) n 0 inside in
      let was : lane_word words i ≡ lane_word words lane = ap (lane_word words) same in omega arith)
      (λ ne. let now = word_else words lane i n ne in omega arith)
  raised words order seats keeper lane n id seat list inside rises free mine other Spent f = tt

  pub announces : (slots id : ℕ) (cs : List (ℕ × E)) (k : LaneState E) (place : ℕ) → k.resting ≡ true → place ≡ length k.list + 1
      → Allows Rule slots id (lane_view k, cs) (k.lane + 1) (λ _. place) (λ _. Announces lanes (step slots (k.lane + 1) place 0 none) (lane_view k, cs) place)
  announces slots id cs k place rest next s r len at small =
      let v = lane_view k in
      let w = seen_as k.list (Lane k.lane place false) in
      let f = known s r id v at in
      let words = set s.words (k.lane + 1) place in
      let last = f.2.2 rest in
      let held = f.2.1 in
      let short = last_touch_within lanes k.lane k.list in
      let begins = prefix_length k.list r.order f.0 in
      let made = at_below r.seats k.lane id f.2.0 in
      let few = r.made in
      let wide = r.wide in
      let inside : k.lane + 1 < length s.words = omega arith in
      let here = get_or-set_same s.words (k.lane + 1) place 0 inside in (
        w,
        keeps,
        tt,
        moves s.words words s.views r r.order id v w at (λ t. t) (λ j t. t)
            (length-set s.words (k.lane + 1) place ∙ wide)
            (get_or-set_other s.words (k.lane + 1) 0 place 0 (λ e. omega arith) ∙ r.counted)
            (λ j. dite (ℕ_discrete j k.lane)
            (λ same. let now : lane_word words j ≡ place = ap (lane_word words) same ∙ here in let low : last_touch lanes j r.order ≤ lane_word s.words k.lane = subst (λ (i : ℕ). last_touch lanes i r.order ≤ lane_word s.words k.lane) (sym same) (r.low k.lane) in (omega arith, omega arith))
            (λ ne. let now = word_else s.words k.lane j place ne in let low = r.low j in let high = r.high j in (omega arith, omega arith)))
            (λ j h. word_else s.words k.lane j place (λ same. omega arith) ∙ r.unmade j h)
            (f.0, prefix_none r.order, (f.2.0, here, λ no. absurd cc))
            (λ seat u ne e. let g = r.each_seat seat u e in (g.0, g.1, raised s.words r.order r.seats r.keeper k.lane place id seat u.list inside (omega arith) (λ q. omega arith) f.2.0 ne u.role g.2)),
        refl,
      )

  -- ---- check
  pub checks : (slots id : ℕ) (cs : List (ℕ × E)) (k : OrderState E) (lane : ℕ)
      → Allows Rule slots id (order_view k, cs) (lane + 1) (λ n. n) (Checks lanes (step slots (lane + 1) 0 0 none) (order_view k, cs))
  checks slots id cs k lane s r len at small =
      let v = order_view k in
      let found = lane_word s.words lane in
      let f = known s r id v at in
      let whole : length k.list ≡ length r.order = ap length f.2.1 in
      let up = ap (λ (n : ℕ). n + 1) whole in
      let w = seen_as k.list (Order k.made (checked_with (length k.list) lane found k.checked)) in
      let more = checks_more s.words (length k.list) lane found k.checked (λ e. e) (λ i h. f.2.3 i h ∙ sym up) in
      let told : (j : ℕ) → lane + 1 ≡ j + 1 → ((w, cs) ≡ (seen_as k.list (Order k.made (checked_with (length k.list) j found k.checked)), cs))
      × (last_touch lanes j k.list ≤ found) × (found ≤ length k.list + 1) × (is_among j k.checked ≡ true → found ≡ length k.list + 1)
      = λ j e. let same : lane ≡ j = omega arith in
      let low : last_touch lanes j k.list ≤ found = subst (λ (z : List E × ℕ). last_touch lanes z.1 z.0 ≤ found) (λ i. (sym f.2.1 i, same i)) (r.low lane) in
      let high = r.high lane in
      (ap (λ (i : ℕ). (seen_as k.list (Order k.made (checked_with (length k.list) i found k.checked)), cs)) same, low, omega arith, λ h. ap (lane_word s.words) same ∙ (f.2.3 j h ∙ sym up)) in
      (w, keeps, tt, loads s r (lane + 1) id cs v w at (λ t. t) (λ j t. t) (f.0, prefix_none r.order, (f.2.0, f.2.1, f.2.2, λ i h. more i h ∙ up)), told)

  -- ---- append
  -- what other seats know stays true in a longer order, whose number alone changed
  grown : (words words' : List ℕ) (order order' : List E) (seats : List ℕ) (keeper seat : ℕ) (list : List E) → seat ≢ keeper → ((j : ℕ) → lane_word words' j ≡ lane_word words j)
      → (role : Role) → IsTrueOfRole lanes words order seats keeper seat list role → IsTrueOfRole lanes words' order' seats keeper seat list role
  grown words words' order order' seats keeper seat list other same (Order made check) f = absurd (other f.0)
  grown words words' order order' seats keeper seat list other same (Lane i word resting) f = (f.0, same i ∙ f.1, f.2)
  grown words words' order order' seats keeper seat list other same (Note i word) f = let e = same i in omega arith
  grown words words' order order' seats keeper seat list other same Spent f = tt

  touching : (entry : E) (words words' : List ℕ) (order : List E) (j : ℕ) → lane_word words' j ≡ lane_word words j
      → last_touch lanes j order ≤ lane_word words j → lane_word words j ≤ length order + 1 → (has_lane (lanes entry) j ≡ true → lane_word words j ≡ length order + 1)
      → (b : Bool) → has_lane (lanes entry) j ≡ b → (last_touch lanes j (order ++ entry ∷ []) ≤ lane_word words' j) × (lane_word words' j ≤ length (order ++ entry ∷ []) + 1)
  touching entry words words' order j same low high now true e = let long = length-append order (entry ∷ []) in let last = last_touch_touched lanes j order entry e in let is = now e in (omega arith, omega arith)
  touching entry words words' order j same low high now false e = let long = length-append order (entry ∷ []) in let last = last_touch_passed lanes j order entry e in (omega arith, omega arith)

  pub appends : (slots id : ℕ) (cs : List (ℕ × E)) (k : OrderState E) (entry : E) (old new : ℕ) → old ≡ length k.list → new ≡ old + 1
      → ((lane : ℕ) → has_lane (lanes entry) lane ≡ true → is_among lane k.checked ≡ true)
      → Allows Rule slots id (order_view k, cs) 0 (λ n. either (n == old) new n) (Appends lanes (step slots 0 old new (some entry)) (order_view k, cs))
  appends slots id cs k entry old new is_old is_new covered s r len at small =
      let v = order_view k in
      let f = known s r id v at in
      let counted = r.counted in
      let whole : length k.list ≡ length r.order = ap length f.2.1 in
      let found : get_or s.words 0 0 ≡ old = omega arith in
      let wrote : either (get_or s.words 0 0 == old) new (get_or s.words 0 0) ≡ new = ap (λ (b : Bool). either b new (get_or s.words 0 0)) (eq-eqb (get_or s.words 0 0) old found) in
      let words = set s.words 0 new in
      let order = r.order ++ entry ∷ [] in
      let long : length order ≡ length r.order + 1 = length-append r.order (entry ∷ []) in
      let list = k.list ++ entry ∷ [] in
      let same_order : list ≡ order = ap (λ (l : List E). l ++ entry ∷ []) f.2.1 in
      let w = seen_as list (Order k.made []) in
      let wide = r.wide in
      let inside : 0 < length s.words = omega arith in
      let here : get_or words 0 0 ≡ new = get_or-set_same s.words 0 new 0 inside in
      let lane_same : (j : ℕ) → lane_word words j ≡ lane_word s.words j = λ j. get_or-set_other s.words 0 (j + 1) new 0 (λ e. omega arith) in
      let bound : (j : ℕ) → (last_touch lanes j order ≤ lane_word words j) × (lane_word words j ≤ length order + 1) = λ j. touching entry s.words words r.order j (lane_same j) (r.low j) (r.high j) (λ h. f.2.3 j (covered j h)) (has_lane (lanes entry) j) refl in
      let kept : ObeysLaneRule lanes count words (set s.views id w) = moves s.words words s.views r order id v w at (λ t. t) (λ j t. t)
      (length-set s.words 0 new ∙ wide)
      (omega arith)
      bound
      (λ j h. lane_same j ∙ r.unmade j h)
      (subst (IsPrefix list) (same_order) (prefix_self list), prefix_none order, (f.2.0, same_order, f.2.2, λ i h. absurd cc))
      (λ seat u ne e. let g = r.each_seat seat u e in
      (prefix_more u.list r.order (entry ∷ []) g.0, prefix_more u.told r.order (entry ∷ []) g.1, grown s.words words r.order order r.seats r.keeper seat u.list (λ q. ne (q ∙ sym f.2.0)) lane_same u.role g.2)) in (
        w,
        keeps,
        tt,
        subst (λ (n : ℕ). ObeysLaneRule lanes count (set s.words 0 n) (set s.views id w)) (sym wrote) kept,
        λ e said. ap (λ (x : E). (seen_as (k.list ++ x ∷ []) (Order k.made []), cs)) (some-injective entry e said),
      )

  -- ---- rest and look
  pub rests : (slots id : ℕ) (cs : List (ℕ × E)) (k : LaneState E) → k.word ≤ last_touch lanes k.lane k.list
      → Allows Rule slots id (lane_view k, cs) (k.lane + 1) (λ n. n) (Rests lanes (step slots (k.lane + 1) 0 0 none) (lane_view k, cs))
  rests slots id cs k reached s r len at small =
      let v = lane_view k in
      let w = seen_as k.list (Lane k.lane k.word true) in
      let f = known s r id v at in
      let more = last_touch_prefix lanes k.lane k.list r.order f.0 in
      let low = r.low k.lane in
      let held = f.2.1 in
      let last : last_touch lanes k.lane k.list ≡ k.word = omega arith in
      (w, keeps, tt, loads s r (k.lane + 1) id cs v w at (λ t. t) (λ j t. t) (f.0, prefix_none r.order, (f.2.0, f.2.1, λ t. last)), (refl, last))

  pub looks : (slots id : ℕ) (cs : List (ℕ × E)) (k : LaneState E) (lane : ℕ)
      → Allows Rule slots id (lane_view k, cs) (lane + 1) (λ n. n) (Looks lanes (step slots (lane + 1) 0 0 none) (lane_view k, cs))
  looks slots id cs k lane s r len at small =
      let v = lane_view k in
      let f = known s r id v at in
      let told : (j : ℕ) → lane + 1 ≡ j + 1 → (last_touch lanes j k.list ≤ lane_word s.words lane) × (j ≡ k.lane → lane_word s.words lane ≡ k.word)
      = λ j e. let same : lane ≡ j = omega arith in
      let more = last_touch_prefix lanes lane k.list r.order f.0 in
      let low = r.low lane in
      let this : last_touch lanes lane k.list ≤ lane_word s.words lane = omega arith in
      (subst (λ (i : ℕ). last_touch lanes i k.list ≤ lane_word s.words lane) same this, λ own. ap (lane_word s.words) (same ∙ own) ∙ f.2.1) in
      (v, keeps, tt, loads s r (lane + 1) id cs v v at (λ t. t) (λ j t. t) f, (refl, told))

  -- ---- the start
  abbrev pub zeros : ℕ → List ℕ
  zeros n = replicate n 0

  no_word : (n i : ℕ) → get_or (zeros n) i 0 ≡ 0
  no_word zero i = refl
  no_word (suc n) zero = refl
  no_word (suc n) (suc i) = no_word n i

  no_seat : (id : ℕ) (v : View E) → get_elem? (first_view ∷ []) id ≡ some v → (id ≡ 0) × (first_view ≡ v)
  no_seat zero v e = (refl, some-injective first_view v e)
  no_seat (suc id) v e = absurd cc

  pub opens : (words : List ℕ) → words ≡ zeros (count + 1) → ObeysLaneRule lanes count words (first_view ∷ [])
  opens words is = subst (λ (ws : List ℕ). ObeysLaneRule lanes count ws (first_view ∷ [])) (sym is) record {
    order = [];
    seats = [];
    keeper = 0;
    wide = length-replicate (count + 1) 0;
    made = omega arith;
    counted = no_word (count + 1) 0;
    low = λ lane. omega arith;
    high = λ lane. let z = no_word (count + 1) (lane + 1) in omega arith;
    unmade = λ lane h. no_word (count + 1) (lane + 1);
    kept_by = (first_view, refl, tt);
    each_lane = λ lane seat e. absurd cc;
    each_seat = λ seat v e. let h = no_seat seat v e in subst (Fits (zeros (count + 1)) [] [] 0 seat) h.1 (([], refl), ([], refl), (h.0, refl, refl, λ i no. absurd cc));
  }
