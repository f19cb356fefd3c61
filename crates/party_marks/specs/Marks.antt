-- The marks of parties. This project's own choice.
use Rattle.std.specs.Prelude.{◌≡◌, ℕ, ◌^◌, ◌==◌, ◌≤◌, ◌<◌, Bool, true, false, not, List, [], ◌∷◌}
use Rattle.std.specs.List.{filter}
use Rattle.order_words.specs.Seats.{Run, lane_count}
use Rattle.party_marks.specs.declared.mark.Mark.{Mark}

-- the lane of a party: its number; no party has lane 0
abbrev pub mark_lane : ℕ → ℕ
mark_lane party = party

-- the lanes that a mark touches
abbrev pub lanes_of : Mark → ℕ
lanes_of mark = mark.lanes

-- the mark of a party, which touches its lane alone
abbrev pub mark_of : ℕ → Mark
mark_of party = record { party = party; lanes = 2 ^ mark_lane party }

-- a party of a run may mark: it has one of the sixteen numbers, and its lane is one of the run's
pub record MayMark (run : Run) (party : ℕ) : Type 0 where
  pub low : 1 ≤ party
  pub high : party ≤ 16
  pub lane : mark_lane party < lane_count run

-- a mark is that of a party of the run, and touches its lane alone
pub record IsMarkOf (run : Run) (mark : Mark) : Type 0 where
  pub party : MayMark run mark.party
  pub lanes : mark.lanes ≡ 2 ^ mark_lane mark.party

-- those of a party, in order
abbrev pub marks_of : ℕ → List Mark → List Mark
marks_of party list = filter (λ mark. mark.party == party) list

-- there is no mark
abbrev pub is_empty : List Mark → Bool
is_empty [] = true
is_empty (mark ∷ list) = false

-- one of the marks is a party's
abbrev pub has_marks : ℕ → List Mark → Bool
has_marks party list = not (is_empty (marks_of party list))
