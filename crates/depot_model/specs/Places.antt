-- A depot that takes commands one after another, as one thread does.
use Rattle.std.specs.Prelude.{Bool, List, [], ◌∷◌, Option, Some, None, if◌then◌else◌}
use Rattle.depot_model.specs.declared.reply.Row.{Row}
use Rattle.depot_model.specs.declared.request.Request.{Request}
use Rattle.depot_model.specs.Deeds.{Deed}
use Rattle.depot_model.specs.Rows.{disk_row}
use Rattle.depot_model.specs.Step.{Step, after}

-- a place of an order with the request that it names, if it names one; at a fault place the commit failed
pub record Placed : Type 0 where
  pub request : Option Request
  pub fault : Bool

-- over what each request does to a depot
module _ (step : List Deed → Request → Step) where
  abbrev pub deeds_of : List Deed → Option Request → List Deed
  deeds_of d (Some request) = (step d request).deeds
  deeds_of d None = []

  abbrev pub rows_of : List Deed → Option Request → List Row
  rows_of d (Some request) = (step d request).rows
  rows_of d None = []

  -- what a place does to the depot before it: a fault place, nothing
  abbrev pub done_at : List Deed → Placed → List Deed
  done_at d p = if p.fault then [] else deeds_of d p.request

  -- what its command is answered
  abbrev pub told_at : List Deed → Placed → List Row
  told_at d p = if p.fault then disk_row ∷ [] else rows_of d p.request

  -- the depot after the places of an order
  abbrev pub taken : List Deed → List Placed → List Deed
  taken d [] = d
  taken d (p ∷ places) = taken (after d (done_at d p)) places
