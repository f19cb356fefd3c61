-- What a place of an order does, by its request: nothing, or what the step of its command does.
use Rattle.std.proofs.Common.{◌≡◌, Bool, true, false, List, [], Option, Some, None, Result, Ok, Err, refl, sym, subst}
use Rattle.std.specs.Prelude.{if◌then◌else◌, option_and_then}
use Rattle.std.specs.Result.{result_ok}
use Rattle.depot_model.specs.Commands.{whole_step, step}
use Rattle.depot_model.specs.Common.{word_refusal}
use Rattle.depot_model.specs.Deeds.{Deed}
use Rattle.depot_model.specs.Places.{Placed, deeds_of, done_at}
use Rattle.depot_model.specs.Step.{Step, refuses}
use Rattle.depot_model.specs.declared.command.Command.{Command}
use Rattle.depot_model.specs.declared.request.Request.{Request}
use Rattle.depot_model.specs.declared.request.WordFault.{WordFault}

-- the command that a place has, if it has one
abbrev pub asked_at : Option Request → Option Command
asked_at request = option_and_then (λ (r : Request). result_ok r.command) request

module _ (d : List Deed) (Holds : Option Command → List Deed → Type 0) (nothing : (command : Option Command) → Holds command [])
    (does : (request : Request) (command : Command) → request.command ≡ Ok command → Holds (Some command) (step d request).deeds) where
  of_request : (request : Request) → Holds (result_ok request.command) (step d request).deeds
  of_request request = go request.command refl
    where
      go : (asked : Result Command WordFault) → request.command ≡ asked → Holds (result_ok request.command) (step d request).deeds
      go (Err fault) is =
          subst (λ (r : Result Command WordFault). Holds (result_ok r) (elim r as (λ _. Step) [ Err f ↦ refuses (word_refusal f) | Ok c ↦ whole_step d request c ]).deeds)
          (sym is) (nothing None)
      go (Ok command) is = subst (λ (r : Result Command WordFault). Holds (result_ok r) (step d request).deeds) (sym is) (does request command is)

  pub at_place : (p : Placed) → Holds (asked_at p.request) (done_at step d p)
  at_place p = go p.fault p.request
    where
      go : (fault : Bool) (request : Option Request) → Holds (asked_at request) (if fault then [] else deeds_of step d request)
      go true request = nothing (asked_at request)
      go false None = nothing None
      go false (Some request) = of_request request
