-- Words of orders that have no place yet. This project's own choice.
use Rattle.std.specs.Prelude.{◌≡◌, ◌+◌, ℕ}
use Rattle.order_words.specs.Seats.{fresh_lanes, fresh_order, lane_count}
use Rattle.party_threads.specs.declared.words.OrderWords.{OrderWords}
use Rattle.party_threads.specs.declared.words.RunWords.{RunWords}

-- no place is written, and none is announced in so many lanes
pub record HasFreshLanes {E : Type 0} (lanes : ℕ) (words : OrderWords E) : Type 0 where
  pub count : lane_count words.orders ≡ lanes
  pub order : words.order ≡ fresh_order words.orders lanes
  pub seats : words.lanes.items ≡ fresh_lanes words.orders lanes

-- those of a run of so many parties
pub record AreFreshWords (parties : ℕ) (words : RunWords) : Type 0 where
  pub places : HasFreshLanes (13 + parties) words.places
  pub marks : HasFreshLanes (1 + parties) words.marks
  pub content_marks : HasFreshLanes (1 + parties) words.content_marks
