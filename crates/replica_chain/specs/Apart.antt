-- Where the journal of a node departs from the one that it follows. This project's own choice.
use Rattle.std.specs.Prelude.{◌≡◌, ◌≢◌, ◌⊎◌, ◌≤◌, ◌<◌, ℕ, ◌+◌, List, Option, Some, None, length, get_or, take, drop}
use Rattle.outside_api.specs.Link.{text_of}
use Rattle.replica_chain.specs.declared.apart.Compared.{Compared}
use Rattle.replica_chain.specs.declared.apart.Compared.TheVariants as ways
use Rattle.replica_chain.specs.declared.apart.Departure.{Departure}
use Rattle.replica_chain.specs.declared.apart.Front.{Front}
use Rattle.replica_chain.specs.declared.apart.Front.TheVariants as fronts

-- a generation of a journal with these texts is closed
abbrev pub IsClosedIn : List (List ℕ) → ℕ → Type 0
IsClosedIn texts generation = generation + 1 < length texts

-- the texts of a generation are the same up to a place
pub record AreSameTo (node up : List (List ℕ)) (generation place : ℕ) : Type 0 where
  pub within_node : place ≤ length (text_of node generation)
  pub within_up : place ≤ length (text_of up generation)
  pub same : take place (text_of node generation) ≡ take place (text_of up generation)

-- The texts of a generation are the same up to a place, and there the node's departs: the next bytes differ; or it goes on where the other ends; or it
-- ends there and is closed, and the other doesn't end there or isn't closed.
pub record IsApartIn (node up : List (List ℕ)) (generation place : ℕ) : Type 0 where
  pub alike : AreSameTo node up generation place
  pub departs :
      ((place < length (text_of node generation)) × (take 1 (drop place (text_of node generation)) ≢ take 1 (drop place (text_of up generation))))
      ⊎ ((place ≡ length (text_of node generation)) × IsClosedIn node generation × ((place < length (text_of up generation)) ⊎ (IsClosedIn up generation → ⊥)))

-- in a generation they don't
abbrev pub AreAlike : List (List ℕ) → List (List ℕ) → ℕ → Type 0
AreAlike node up generation = (place : ℕ) → IsApartIn node up generation place → ⊥

-- what a comparison of a generation found: the place; or that there is none, in a generation of the node that is closed, or isn't
abbrev pub IsCompared : List (List ℕ) → List (List ℕ) → ℕ → Compared → Type 0
IsCompared node up generation (ways.Apart place) = IsApartIn node up generation place
IsCompared node up generation ways.Closed = AreAlike node up generation
IsCompared node up generation ways.Open = AreAlike node up generation × (IsClosedIn node generation → ⊥)

-- what a comparison of a piece from a place on found, up to which the texts are the same
abbrev pub IsComparedPiece : List (List ℕ) → List (List ℕ) → ℕ → ℕ → Front → Type 0
IsComparedPiece node up generation at (fronts.Same count) = AreSameTo node up generation (at + count)
IsComparedPiece node up generation at (fronts.Last compared) = IsCompared node up generation compared

-- a piece that is the same has some bytes, and no more than a buffer
abbrev pub GoesOn : ℕ → Front → Type 0
GoesOn room (fronts.Same count) = (0 < count) × (count ≤ room)
GoesOn room (fronts.Last compared) = Unit {0}

-- so many bytes at the front of both are the same, and the next ones aren't
pub record IsCommon (one other : List ℕ) (count : ℕ) : Type 0 where
  pub within_one : count ≤ length one
  pub within_other : count ≤ length other
  pub same : take count one ≡ take count other
  pub differ : count < length one → count < length other → get_or one count 0 ≢ get_or other count 0

-- the first generation in which they depart, and the place
pub record IsApart (node up : List (List ℕ)) (departure : Departure) : Type 0 where
  pub there : departure.generation < length node
  pub here : IsApartIn node up departure.generation departure.place
  pub before : (generation : ℕ) → generation < departure.generation → AreAlike node up generation

-- what a comparison of all found: the first place, or that there is none
abbrev pub IsComparison : List (List ℕ) → List (List ℕ) → Option Departure → Type 0
IsComparison node up (Some departure) = IsApart node up departure
IsComparison node up None = (generation : ℕ) → generation < length node → AreAlike node up generation
