-- Orders of the commands of all parties.
use Rattle.std.specs.Prelude.{◌≡◌, ◌<◌, ◌≤◌, ℕ, ◌-◌, List, slice_get, All, AllPairs, IsSomeAnd}
use Rattle.depot_model.specs.declared.order.Place.{Place}

-- The place names one of the first commands of a party, as many as `counts` says of it, at a moment that the clock may give.
pub record IsPlaceOf (may_give : ℕ → Type 0) (counts : List ℕ) (place : Place) : Type 0 where
  pub party : 0 < place.party
  pub number : 0 < place.number
  pub command : IsSomeAnd (slice_get counts (place.party - 1)) (λ count. place.number ≤ count)
  pub moment : may_give place.moment

-- the numbers of one party rise
abbrev pub Rises : Place → Place → Type 0
Rises a b = a.party ≡ b.party → a.number < b.number

-- Each place names a command that its party has, and no two places name one.
pub record IsOrder (may_give : ℕ → Type 0) (counts : List ℕ) (order : List Place) : Type 0 where
  pub places : All (IsPlaceOf may_give counts) order
  pub rising : AllPairs Rises order
