-- The files that `where` tells are those of the model.
use Rattle.std.proofs.Common.{◌≡◌, ℕ, List, [], ◌∷◌, Option, Some, None}
use Rattle.std.specs.Prelude.{◌&&◌, filter, is_some, if◌then◌else◌}
use Rattle.depot_rows.specs.view_map.Mapping.{files_at, path_in}
use Rattle.depot_rows.specs.protect_table.Rights.{may}
use Rattle.depot_rows.specs.depot_model.declared.command.FileArgument.{FileArgument}
use Rattle.depot_rows.specs.depot_model.declared.request.Caller.{Caller}
use Rattle.depot_rows.specs.depot_model.Arguments.{in_client_syntax}
use Rattle.depot_rows.specs.depot_model.Deeds.{Deed}
use Rattle.depot_rows.specs.depot_model.Sorted.{all_inserted}
use Rattle.depot_rows.specs.depot_model.Steps.Adding.{spelled}
use Rattle.depot_rows.specs.depot_model.Step.{Step as ModelStep, nothing, tells}
use Rattle.depot_rows.specs.depot_model.Steps.Placing.{place_row, told}
use Rattle.named_files.specs.Asked.{IsAsker}
use Rattle.named_files.specs.declared.asker.Asker.{Asker}
use Rattle.have_sync.specs.Placing.{is_told, spelled_files}

pub told_is : (d : List Deed) (caller : Caller) (asker : Asker) (argument : FileArgument) (path : List ℕ) → IsAsker d caller asker → path ≡ spelled argument
    → filter (is_told asker) (spelled_files asker argument path) ≡ told d caller argument
told_is d caller asker argument path asked is =
    λ i. filter (λ p. may (asked.protects i) (asked.who i) p 1 && is_some (path_in (asked.view i) p))
    (if in_client_syntax (asked.client i) argument.spec.pattern then all_inserted (files_at (asked.view i) (is i)) [] else is i ∷ [])

-- what is told of a file by its place
abbrev pub placed_by : List ℕ → Option (List ℕ) → ModelStep
placed_by path place = elim place as (λ _. ModelStep) [ None ↦ nothing | Some p ↦ tells (place_row path p ∷ []) ]
