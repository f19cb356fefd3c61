-- The seats of lanes that learn the whole order.
use Rattle.std.proofs.Common.{◌≡◌, ℕ, true, List, sym, ap, ◌∙◌}
use Rattle.order_words.specs.Lanes.{last_touch}
use Rattle.order_words.specs.Seats.{Run, LaneState}
use Rattle.locked_tables.specs.Known.{at_rest}
use Rattle.locked_tables.specs.Taken.{lanes_of}
use Rattle.locked_tables.specs.declared.taken.Taken.{Taken}

module _ (run : Run) (lane : ℕ) (order : List Taken) where
  abbrev with_word : ℕ → LaneState Taken
  with_word word = record { run = run; lane = lane; list = order; word = word; resting = true }

  -- no place that a seat at rest didn't know touches its lane
  pub same_touch : (list : List Taken) (old : LaneState Taken) → old ≡ at_rest run lane list → last_touch lanes_of old.lane order ≡ old.word → last_touch lanes_of lane order ≡ last_touch lanes_of lane list
  same_touch list old was last = ap (λ (l : ℕ). last_touch lanes_of l order) (sym (ap (λ (s : LaneState Taken). s.lane) was)) ∙ (last ∙ ap (λ (s : LaneState Taken). s.word) was)

  -- it is at rest with all places
  pub learnt_at_rest : (list : List Taken) (old new : LaneState Taken) → old ≡ at_rest run lane list → new ≡ record old { list = order } → last_touch lanes_of old.lane order ≡ old.word → new ≡ at_rest run lane order
  learnt_at_rest list old new was is last =
      is ∙ (ap (λ (s : LaneState Taken). record s { list = order }) was ∙ sym (ap with_word (same_touch list old was last)))

  -- a seat that has its announced place is at rest with all places
  pub settled_at_rest : (old new : LaneState Taken) → old.run ≡ run → old.lane ≡ lane → new ≡ record old { list = order; resting = true } → last_touch lanes_of old.lane order ≡ old.word → new ≡ at_rest run lane order
  settled_at_rest old new run_is lane_is is last =
      is ∙ ((λ i. record { run = run_is i; lane = lane_is i; list = order; word = old.word; resting = true }) ∙ sym (ap with_word (ap (λ (l : ℕ). last_touch lanes_of l order) (sym lane_is) ∙ last)))

  -- the same by its own list
  pub listed : (new : LaneState Taken) → new ≡ at_rest run lane order → new ≡ at_rest run lane new.list
  listed new e = e ∙ ap (at_rest run lane) (sym (ap (λ (s : LaneState Taken). s.list) e))
