-- What a party is promised whose commands are taken beside those of others. This project's own choice.
use Rattle.std.specs.Prelude.{◌≡◌, ℕ, zero, suc, true, List, [], ◌∷◌, ◌++◌, map}
use mathlib.Core.List.{IsPrefix}
use Rattle.depot_rows.specs.depot_model.Commands.{step}
use Rattle.depot_rows.specs.depot_model.Deeds.{Deed}
use Rattle.depot_rows.specs.depot_model.Places.{taken}
use Rattle.depot_rows.specs.depot_model.Records.{RowsDiffer}
use Rattle.depot_rows.specs.depot_model.Step.{after}
use Rattle.depot_rows.specs.depot_model.declared.order.Answer.{Answer}
use Rattle.depot_rows.specs.depot_model.declared.request.Request.{Request}
use Rattle.locked_tables.specs.Known.{PartyKnown}
use Rattle.locked_tables.specs.Taken.{journal_lane, of_party, place_of, placed_of}
use Rattle.locked_tables.specs.declared.taken.Taken.{Taken}
use Rattle.order_words.specs.Lanes.{has_lane}
use Rattle.party_marks.specs.Known.{PassKnown}
use Rattle.session_loop.specs.Taking.{Answers}

-- some row of a depot differs after a request
abbrev pub ChangesRows : List Deed → Request → Type 0
ChangesRows d request = RowsDiffer d (after d (step d request).deeds)

-- A command of a party was taken: it has a place behind all that the party knew, which is the last that the party knows now; there it is answered what one
-- thread answers that takes the commands before it. The journal's lane is touched only where some row differs after it.
pub record IsTakenAt (begins : ℕ → List Deed → Type 0) (old new : PartyKnown) (request : Request) (answer : Answer) : Type 0 where
  pub before : List Taken
  pub entry : Taken
  pub known : new ≡ record old { list = before ++ entry ∷ [] }
  pub later : IsPrefix old.list before
  pub own : of_party old.party before ≡ of_party old.party old.list
  pub asks : entry.request ≡ request
  pub place : answer.place ≡ place_of entry
  pub answers : (since : ℕ) (start : List Deed) → begins since start → Answers start (map placed_of before) request answer
  pub writes : has_lane entry.lanes journal_lane ≡ true → (since : ℕ) (start : List Deed) → begins since start → ChangesRows (taken step start (map placed_of before)) request

-- what so many parties know where no place is yet: they are numbered from 1
abbrev pub fresh_passes : ℕ → List PartyKnown
fresh_passes zero = []
fresh_passes (suc n) = fresh_passes n ++ record { party = suc n; list = [] } ∷ []

-- what so many parties know where no mark is yet
abbrev pub fresh_marks : ℕ → List PassKnown
fresh_marks zero = []
fresh_marks (suc n) = fresh_marks n ++ record { party = suc n; list = [] } ∷ []

-- how many places a party may have, of the numbers of all parties, the first of which is that of party 1
abbrev pub places_in : List ℕ → ℕ → ℕ
places_in [] party = 0
places_in (n ∷ numbers) zero = 0
places_in (n ∷ numbers) (suc zero) = n
places_in (n ∷ numbers) (suc (suc party)) = places_in numbers (suc party)
