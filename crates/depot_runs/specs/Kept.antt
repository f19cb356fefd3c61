-- Which depots files may hold after the places of an order, of which one may have failed.
use Rattle.std.specs.Prelude.{◌≡◌, ◌⊎◌, ℕ, true, false, List, [], ◌∷◌, ◌++◌, take}
use Rattle.depot_model.specs.Deeds.{Deed}
use Rattle.depot_model.specs.Commands.{step}
use Rattle.depot_model.specs.Places.{Placed, deeds_of, done_at, taken}
use Rattle.depot_model.specs.Records.{RowsDiffer}
use Rattle.depot_model.specs.Step.{after}

-- a place that isn't a fault is a change where some row differs after it
abbrev pub IsChange : List Deed → Placed → Type 0
IsChange d p = (p.fault ≡ false) × RowsDiffer d (after d (done_at step d p))

-- no place is a change
abbrev pub NoChange : List Deed → List Placed → Type 0
NoChange d [] = Unit {0}
NoChange d (p ∷ places) = (IsChange d p → ⊥) × NoChange (after d (done_at step d p)) places

-- files stand for the run with what one fault place would have done, after which no place is a change
pub record KeptInDoubt (Stands : List Deed → Type 0) (d : List Deed) (places : List Placed) : Type 0 where
  pub before : List Placed
  pub faulty : Placed
  pub later : List Placed
  pub parts : places ≡ before ++ faulty ∷ later
  pub fault : faulty.fault ≡ true
  pub quiet : NoChange (taken step d before) later
  pub stands : Stands (after (taken step d places) (deeds_of step (taken step d before) faulty.request))

-- files stand for the depot after the first k places, or for that depot in doubt
abbrev pub IsKept : (List Deed → Type 0) → List Deed → List Placed → ℕ → Type 0
IsKept Stands d places k = Stands (taken step d (take k places)) ⊎ KeptInDoubt Stands d (take k places)
