-- Worked values of the definitions.
use Rattle.std.specs.Prelude.{◌≡◌, List, [], ◌∷◌, true, false, refl}
use Rattle.order_words.specs.Lanes.{last_touch}
use Rattle.party_marks.specs.Marks.{has_marks, is_empty, lanes_of, mark_lane, mark_of, marks_of}
use Rattle.party_marks.specs.declared.mark.Mark.{Mark}

-- party 2 made the first mark and the third, party 1 the second
abbrev list : List Mark
list = mark_of 2 ∷ mark_of 1 ∷ mark_of 2 ∷ []

of_second : marks_of 2 list ≡ mark_of 2 ∷ mark_of 2 ∷ []
of_second = refl

first_has : has_marks 1 list ≡ true
first_has = refl

third_has_none : has_marks 3 list ≡ false
third_has_none = refl

not_empty : is_empty list ≡ false
not_empty = refl

-- the mark at place 2 is the last that touches the lane of party 1
last_of_first : last_touch lanes_of (mark_lane 1) list ≡ 2
last_of_first = refl
