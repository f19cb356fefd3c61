-- The marks of a party, each of which touches its lane.
use Rattle.std.proofs.Common.{◌≡◌, ◌≤◌, ◌^◌, ◌==◌, ◌∙◌, ℕ, Bool, true, false, List, [], ◌∷◌, ◌++◌, length, cond, All, refl, sym, ap, subst, arith, append_assoc, append-nil, length-append, drop_at}
use borrow.Author.Tests.{eqb-true}
use mathlib.Core.List.{IsPrefix}
use Rattle.std.specs.Int.{bit_at}
use Rattle.std.proofs.lemmas.Bool.{eq-eqb}
use Rattle.std.proofs.lemmas.List.Elements.{All-drop, All-head, All-tail, filter-append}
use Rattle.std.proofs.lemmas.Nat.Bits.{bit_at-pow_same}
use Rattle.order_words.specs.Lanes.{has_lane, last_touch}
use Rattle.order_words.specs.Seats.{Run, LaneState}
use Rattle.order_words.proofs.Touches.{last_touch_longer, last_touch_touched, last_touch_within}
use Rattle.party_marks.specs.Known.{IsSeatOf}
use Rattle.party_marks.specs.Marks.{IsMarkOf, lanes_of, mark_lane, mark_of, marks_of}
use Rattle.party_marks.specs.declared.mark.Mark.{Mark}

-- the mark of a party touches its lane
pub touches_own : (party : ℕ) → has_lane (2 ^ mark_lane party) (mark_lane party) ≡ true
touches_own party = eq-eqb (bit_at (2 ^ mark_lane party) (mark_lane party)) 1 (bit_at-pow_same (mark_lane party))

module _ (run : Run) (party : ℕ) where
  touches : (mark : Mark) → IsMarkOf run mark → mark.party ≡ party → has_lane mark.lanes (mark_lane party) ≡ true
  touches mark is own = ap (λ (lanes : ℕ). has_lane lanes (mark_lane party)) (is.lanes ∙ ap (λ (p : ℕ). 2 ^ mark_lane p) own) ∙ touches_own party

  -- the party has none behind those that are known, where no place behind them touches its lane
  none_behind : (known rest : List Mark) → All (IsMarkOf run) rest → last_touch lanes_of (mark_lane party) (known ++ rest) ≤ length known → marks_of party rest ≡ []
  none_behind known [] all last = refl
  none_behind known (mark ∷ rest) all last =
      let within : last_touch lanes_of (mark_lane party) ((known ++ mark ∷ []) ++ rest) ≤ length known =
      subst (λ (l : List Mark). last_touch lanes_of (mark_lane party) l ≤ length known) (sym (append_assoc known (mark ∷ []) rest)) last in
      let more = last_touch_longer lanes_of (mark_lane party) (known ++ mark ∷ []) rest in
      by_test within more (mark.party == party) refl (none_behind (known ++ mark ∷ []) rest (All-tail (IsMarkOf run) mark rest all) (omega (arith, length-append known (mark ∷ []))))
    where
      by_test : last_touch lanes_of (mark_lane party) ((known ++ mark ∷ []) ++ rest) ≤ length known → last_touch lanes_of (mark_lane party) (known ++ mark ∷ []) ≤ last_touch lanes_of (mark_lane party) ((known ++ mark ∷ []) ++ rest)
          → (b : Bool) → (mark.party == party) ≡ b → marks_of party rest ≡ [] → cond b (mark ∷ marks_of party rest) (marks_of party rest) ≡ []
      by_test within more true e none =
          let touched = last_touch_touched lanes_of (mark_lane party) known mark (touches mark (All-head (IsMarkOf run) mark rest all) (eqb-true mark.party party e)) in
          absurd (omega arith)
      by_test within more false e none = none

  module _ (seat : LaneState Mark) (is : IsSeatOf run party seat) (order : List Mark) (last : last_touch lanes_of seat.lane order ≡ seat.word) where
    last_is : last_touch lanes_of (mark_lane party) order ≡ seat.word
    last_is = ap (λ (lane : ℕ). last_touch lanes_of lane order) (sym is.lane) ∙ last

    -- a seat at rest that learns the whole list is at rest
    pub seat_learnt : (new : LaneState Mark) → new ≡ record seat { list = order } → IsSeatOf run party new
    seat_learnt new learnt = subst (IsSeatOf run party) (sym learnt) (record { run = is.run; lane = is.lane; rests = is.rests; last = last_is })

    -- who has the seat of the party's lane knows all of its marks
    pub marks_kept : All (IsMarkOf run) order → IsPrefix seat.list order → marks_of party order ≡ marks_of party seat.list
    marks_kept all begins =
        let known = seat.list in
        let rest = begins.0 in
        let whole : All (IsMarkOf run) (known ++ rest) = subst (All (IsMarkOf run)) (sym begins.1) all in
        let behind : All (IsMarkOf run) rest = subst (All (IsMarkOf run)) (drop_at known rest (length known) refl) (All-drop (IsMarkOf run) (length known) (known ++ rest) whole) in
        let short = last_touch_within lanes_of (mark_lane party) known in
        let low : last_touch lanes_of (mark_lane party) order ≤ length known = omega (arith, last_is, is.last) in
        let within : last_touch lanes_of (mark_lane party) (known ++ rest) ≤ length known = subst (λ (l : List Mark). last_touch lanes_of (mark_lane party) l ≤ length known) (sym begins.1) low in
        ap (marks_of party) (sym begins.1)
        ∙ (filter-append (λ (m : Mark). m.party == party) known rest
        ∙ (ap (λ (l : List Mark). marks_of party known ++ l) (none_behind known rest behind within)
        ∙ append-nil (marks_of party known)))

-- with one more mark of its own a party has that besides
pub marks_more : (party : ℕ) (known before : List Mark) → marks_of party before ≡ marks_of party known → marks_of party (before ++ mark_of party ∷ []) ≡ marks_of party known ++ mark_of party ∷ []
marks_more party known before kept =
    let one : marks_of party (mark_of party ∷ []) ≡ mark_of party ∷ [] = ap (λ (b : Bool). cond b (mark_of party ∷ []) []) (eq-eqb party party refl) in
    filter-append (λ (m : Mark). m.party == party) before (mark_of party ∷ []) ∙ (λ i. kept i ++ one i)
