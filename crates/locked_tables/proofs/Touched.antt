-- The last places that touched the tables, by an order that has one more.
use Rattle.std.proofs.Common.{◌≡◌, ◌≢◌, ◌<◌, ◌&&◌, ◌+◌, ℕ, suc, Bool, true, false, not, nat_le, nat_lt, List, [], ◌∷◌, ◌++◌, length, slice_index_or, slice_set, refl, sym, ap, ◌∙◌, arith}
use Rattle.std.specs.Prelude.{if◌then◌else◌}
use mathlib.Core.Logic.{dite}
use native.Mathlib.Decide.{ℕ_discrete}
use Rattle.std.proofs.lemmas.Bool.Decides.{leb_tells}
use Rattle.std.proofs.lemmas.List.{get_or-set_other, get_or-set_same, length_push}
use Rattle.depot_model.specs.db_records.Table.{table_number}
use Rattle.depot_model.specs.db_records.declared.table.TableId.{TableId}
use Rattle.order_words.specs.Lanes.{has_lane, last_touch}
use Rattle.order_words.proofs.Touches.{last_touch_passed, last_touch_touched}
use Rattle.locked_tables.specs.Known.{HaveLastTouches, TableKnown, is_touched}
use Rattle.locked_tables.specs.Taken.{lanes_of}
use Rattle.locked_tables.specs.declared.taken.Taken.{Taken}
use Rattle.locked_tables.proofs.Lanes.{small}

-- those below a number are noted
abbrev pub AreNoted : List ℕ → ℕ → ℕ → ℕ → List ℕ → Type 0
AreNoted was lanes place number now = (n : ℕ) → n < 11 → slice_index_or now n 0 ≡ (if nat_lt n number && has_lane lanes n then place else slice_index_or was n 0)

below_next : (n number : ℕ) → n ≢ number → nat_lt n (number + 1) ≡ nat_lt n number
below_next n number other = let one = leb_tells (suc n) (number + 1) in let two = leb_tells (suc n) number in grind (arith, one, two, other)

below_itself : (n : ℕ) → nat_lt n n ≡ false
below_itself n = let one = leb_tells (suc n) n in grind (arith, one)

below_one_more : (n : ℕ) → nat_lt n (n + 1) ≡ true
below_one_more n = let one = leb_tells (suc n) (n + 1) in grind (arith, one)

module _ (was now : List ℕ) (lanes place number : ℕ) (noted : AreNoted was lanes place number now) where
  same_other : (n : ℕ) → n < 11 → n ≢ number → slice_index_or now n 0 ≡ (if nat_lt n (number + 1) && has_lane lanes n then place else slice_index_or was n 0)
  same_other n small other = noted n small ∙ ap (λ (b : Bool). if b && has_lane lanes n then place else slice_index_or was n 0) (sym (below_next n number other))

  -- the number's lane is touched
  pub note_one : number < length now → has_lane lanes number ≡ true → AreNoted was lanes place (number + 1) (slice_set now number place)
  note_one within has = λ n small. dite (ℕ_discrete n number)
      (λ e. ap (λ (m : ℕ). slice_index_or (slice_set now number place) m 0) e
      ∙ get_or-set_same now number place 0 within
      ∙ sym (ap (λ (b : Bool). if b then place else slice_index_or was n 0) ((λ i. nat_lt (e i) (number + 1) && has_lane lanes (e i)) ∙ (λ i. below_one_more number i && has i))))
      (λ other. get_or-set_other now number n place 0 other ∙ same_other n small other)

  -- it isn't
  pub note_none : has_lane lanes number ≡ false → AreNoted was lanes place (number + 1) now
  note_none none = λ n small. dite (ℕ_discrete n number)
      (λ e. noted n small
      ∙ ap (λ (b : Bool). if b then place else slice_index_or was n 0) ((λ i. nat_lt (e i) number && has_lane lanes (e i)) ∙ (λ i. below_itself number i && none i))
      ∙ sym (ap (λ (b : Bool). if b then place else slice_index_or was n 0) ((λ i. nat_lt (e i) (number + 1) && has_lane lanes (e i)) ∙ (λ i. below_one_more number i && none i))))
      (λ other. same_other n small other)

touched_one : (touched : List ℕ) (order after : List Taken) (entry : Taken) (n : ℕ) (has : Bool) → after ≡ order ++ entry ∷ [] → has_lane entry.lanes n ≡ has
    → slice_index_or touched n 0 ≡ last_touch lanes_of n order → (if has then length after else slice_index_or touched n 0) ≡ last_touch lanes_of n after
touched_one touched order after entry n true last is was =
    ap length last ∙ length_push order entry ∙ sym (ap (last_touch lanes_of n) last ∙ last_touch_touched lanes_of n order entry is)
touched_one touched order after entry n false last is was = was ∙ sym (ap (last_touch lanes_of n) last ∙ last_touch_passed lanes_of n order entry is)

-- they are those of the order with one more place, once that is noted for the lanes that it touches
pub touched_next : (touched now : List ℕ) (order after : List Taken) (entry : Taken) (place : ℕ) → after ≡ order ++ entry ∷ [] → place ≡ length after
    → ((n : ℕ) → n < 11 → slice_index_or now n 0 ≡ (if has_lane entry.lanes n then place else slice_index_or touched n 0)) → HaveLastTouches touched order → HaveLastTouches now after
touched_next touched now order after entry place last place_is noted was = λ table.
    let n = table_number table in
    noted n (small table) ∙ ap (λ (p : ℕ). if has_lane entry.lanes n then p else slice_index_or touched n 0) place_is ∙ touched_one touched order after entry n (has_lane entry.lanes n) last refl (was table)

-- what is noted for a table
pub found_touch : (touched : List ℕ) (order : List Taken) (table : TableId) (n : ℕ) → n ≡ table_number table → HaveLastTouches touched order → slice_index_or touched n 0 ≡ last_touch lanes_of (table_number table) order
found_touch touched order table n is noted = ap (λ (m : ℕ). slice_index_or touched m 0) is ∙ noted table

within_or_behind : (a b : ℕ) → nat_le a b ≡ not (nat_lt b a)
within_or_behind a b = let one = leb_tells a b in let other = leb_tells (suc b) a in grind (arith, one, other)

-- it is no later than the places that are known exactly where none behind them touches the table
pub no_later : (order : List Taken) (known : TableKnown) (last places : ℕ) → last ≡ last_touch lanes_of (table_number known.table) order → places ≡ length known.list → nat_le last places ≡ not (is_touched order known)
no_later order known last places last_is places_is = (λ i. nat_le (last_is i) (places_is i)) ∙ within_or_behind (last_touch lanes_of (table_number known.table) order) (length known.list)
