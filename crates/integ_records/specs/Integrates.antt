-- What `integrate` does with a source and a target that the client hasn't opened. This project's own choice.
use Rattle.std.specs.Prelude.{ℕ, List, [], ◌∷◌, Option, None, unwrap_or}
use Rattle.std.specs.List.{last_or}
use Rattle.depot_rows.specs.depot_path.declared.revision.Wanted.{Wanted}
use Rattle.depot_rows.specs.depot_model.declared.request.Caller.{Caller}
use Rattle.depot_rows.specs.depot_model.Deeds.{Deed}
use Rattle.depot_rows.specs.depot_model.Step.{Step, unless}
use Rattle.depot_rows.specs.depot_model.Steps.Integrating.{integrate_revs, new_type, uncredited}
use Rattle.depot_rows.specs.depot_model.Steps.Opening.{exclusive_refusal}

-- unless another client has the target opened alone
abbrev pub integrates_closed : List Deed → Caller → Option ℕ → Wanted → List ℕ → List ℕ → Step
integrates_closed d caller change wanted s t =
    let revs = uncredited d caller wanted s t in
    unless (exclusive_refusal d t caller.client (new_type d s t (unwrap_or (last_or None revs) 0)) ∷ []) (integrate_revs d caller change s t revs)
