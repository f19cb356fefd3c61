-- What who takes commands promises: each command gets its place behind those before it, and is answered what the model says there. This project's
-- own choice.
use Rattle.std.specs.Prelude.{◌≡◌, Bool, List, [], ◌∷◌, ◌++◌, Some, None}
use Rattle.std.specs.List.{AllByRecursion}
use Rattle.depot_model.specs.Deeds.{Deed}
use Rattle.depot_model.specs.Commands.{step}
use Rattle.depot_model.specs.Places.{Placed, told_at, taken}
use Rattle.depot_model.specs.Printed.{printed}
use Rattle.depot_model.specs.Records.{SameRows}
use Rattle.depot_model.specs.Step.{after}
use Rattle.depot_model.specs.declared.order.Answer.{Answer}
use Rattle.depot_model.specs.declared.order.Place.{Place}
use Rattle.depot_model.specs.declared.request.Request.{Request}
use Rattle.session_loop.specs.Asking.{AreProper}

-- its command, where it has one, is well-formed, and its contents are short
abbrev pub IsProper : Request → Type 0
IsProper request = AreProper request.command request.contents

-- the place of a request
abbrev pub place_by : Request → Bool → Place
place_by request fault = record { party = request.party; number = request.number; moment = request.moment; fault = fault }

abbrev pub placed_by : Request → Bool → Placed
placed_by request fault = record { request = Some request; fault = fault }

-- The answer has the request's place, and the reply that the model gives to the request there, after the places from `start` on.
pub record Answers (start : List Deed) (places : List Placed) (request : Request) (answer : Answer) : Type 0 where
  pub place : answer.place ≡ place_by request answer.place.fault
  pub reply : answer.reply ≡ printed (told_at step (taken step start places) (placed_by request answer.place.fault)) request.number

-- the places with that of the request behind them
abbrev pub with_place : List Placed → Request → Answer → List Placed
with_place places request answer = places ++ placed_by request answer.place.fault ∷ []

-- no row differs after the step of the request
abbrev pub ChangesNoRow : List Deed → Request → Type 0
ChangesNoRow d request = SameRows d (after d (step d request).deeds)

-- it prints no content
abbrev pub PrintsNoContent : List Deed → Request → Type 0
PrintsNoContent d request = AllByRecursion (λ row. row.content ≡ None) (step d request).rows
