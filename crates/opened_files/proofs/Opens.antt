-- What `edit` and `delete` do with a file by its opening, if it has one.
use Rattle.std.proofs.Common.{ℕ, List, [], ◌∷◌, Option, Some, None}
use Rattle.std.specs.Prelude.{unwrap_or}
use Rattle.depot_rows.specs.depot_model.declared.request.Caller.{Caller}
use Rattle.depot_rows.specs.depot_model.Deeds.{Action, Deed, Opening}
use Rattle.depot_rows.specs.depot_model.Step.{Step as ModelStep, unless}
use Rattle.depot_rows.specs.depot_model.Steps.Editing.{had_type, opening, reopened}
use Rattle.depot_rows.specs.depot_model.Steps.Opening.{exclusive_refusal}
use Rattle.opened_files.specs.Opens.{opens_next}

module _ (d : List Deed) (caller : Caller) (action : Action) (change : Option ℕ) (type place : Option (List ℕ)) (path : List ℕ) where
  abbrev pub type_by : Option Opening → List ℕ
  type_by found = elim found as (λ _. List ℕ) [ Some o ↦ o.file_type | None ↦ unwrap_or type (had_type d caller path) ]

  abbrev pub next_by : Option Opening → Option Opening
  next_by found = elim found as (λ _. Option Opening) [ None ↦ Some (opening d caller action change (type_by found) path) | Some o ↦ reopened action o ]

  abbrev pub shown_by : Option Opening → ModelStep
  shown_by found = unless (exclusive_refusal d path caller.client (type_by found) ∷ []) (opens_next path place (next_by found))
