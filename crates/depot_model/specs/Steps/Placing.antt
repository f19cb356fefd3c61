-- `where`, `have` (Command-Line Reference, "p4 where", "p4 have").
use Rattle.std.specs.Prelude.{ℕ, List, [], ◌∷◌, ◌++◌, filter, codes, if◌then◌else◌, Some, None, is_some, true, ◌&&◌}
use Rattle.view_map.specs.Mapping.{path_in, files_at}
use Rattle.depot_model.specs.declared.request.Caller.{Caller}
use Rattle.depot_model.specs.declared.command.FileArgument.{FileArgument}
use Rattle.depot_model.specs.declared.reply.Row.{Row}
use Rattle.depot_model.specs.declared.refusal.Refusal.TheVariants.{NotInView}
use Rattle.depot_model.specs.Deeds.{Deed}
use Rattle.depot_model.specs.Latest.{have}
use Rattle.depot_model.specs.Asking.{view, may_list}
use Rattle.depot_model.specs.Arguments.{named, had, over, over_all, in_client_syntax, no_file}
use Rattle.depot_model.specs.Sorted.{all_inserted}
use Rattle.depot_model.specs.Rows.{row, path_field, number_field, if_any}
use Rattle.depot_model.specs.Step.{Step, nothing, tells, refuses}
use Rattle.depot_model.specs.Steps.Adding.{spelled}

abbrev pub place_row : List ℕ → List ℕ → Row
place_row path place = row (path_field (codes "depotFile") path ∷ path_field (codes "clientFile") place ∷ [])

-- the listable files that an argument of `where` tells, submitted or not
abbrev pub told : List Deed → Caller → FileArgument → List (List ℕ)
told d caller argument = filter (λ path. may_list d caller path && is_some (path_in (view d caller.client) path))
    (if in_client_syntax caller.client argument.spec.pattern then all_inserted (files_at (view d caller.client) (spelled argument)) [] else spelled argument ∷ [])

abbrev pub tell_place : List Deed → Caller → List ℕ → Step
tell_place d caller path = elim (path_in (view d caller.client) path) [ None ↦ nothing | Some place ↦ tells (place_row path place ∷ []) ]

abbrev pub where_is : List Deed → Caller → List FileArgument → Step
where_is d caller paths = over (told d caller) (λ argument. refuses (NotInView argument.text)) (λ _. tell_place d caller) [] paths

abbrev pub have_row : List Deed → Caller → List ℕ → Row
have_row d caller path =
    row (path_field (codes "depotFile") path ∷ if_any (path_field (codes "clientFile")) (path_in (view d caller.client) path)
    ++ number_field (codes "haveRev") (have d caller.client path) ∷ [])

abbrev pub have_step : List Deed → Caller → List FileArgument → Step
have_step d caller files =
    over_all (named true d caller (had d caller.client)) no_file (λ _ path. tells (have_row d caller path ∷ [])) files
