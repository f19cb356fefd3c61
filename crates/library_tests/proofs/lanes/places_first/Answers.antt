use Rattle.std.proofs.Common.{◌≡◌, [], ◌∷◌, length, ap, ◌∙◌}
use Rattle.order_words.specs.Lanes.{is_among}
use Rattle.order_words.specs.Seats.{OrderState, checked_with}
use Rattle.order_words.proofs.Touches.{only_lane}
use Rattle.library_tests.specs.declared.lanes.Place.{Place}
use Rattle.library_tests.proofs.lanes.places_first.Goals as goal

pub append-place-requires-clause-checked : goal.append-place-requires-clause-checked
append-place-requires-clause-checked c = λ lane has.
    let order = c.requires.order in
    let only : lane ≡ 0 = only_lane 0 lane has in
    let checked : c.check.new.seat.checked ≡ 0 ∷ [] =
    ap (λ (o : OrderState Place). o.checked) c.check.ensures.checked
    ∙ (λ i. checked_with (length (order i).list) 0 (c.if-check-ne1.false i) (order i).checked) in
    λ i. is_among (only i) (checked i)
