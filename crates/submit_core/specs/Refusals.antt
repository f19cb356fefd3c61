-- The refusals of a submit, part by part (Command-Line Reference, "p4 submit"). The order is this project's own choice.
use Rattle.std.specs.Prelude.{ℕ, ◌==◌, Bool, false, not, ◌&&◌, List, [], ◌∷◌, Option, Some, None}
use Rattle.std.specs.List.{list_any}
use Rattle.std.specs.Option.{option_map_or}
use Rattle.depot_rows.specs.depot_path.Bytes.{same}
use Rattle.depot_rows.specs.depot_model.declared.request.Request.{Request}
use Rattle.depot_rows.specs.depot_model.declared.refusal.Refusal.{Refusal}
use Rattle.depot_rows.specs.depot_model.declared.refusal.Refusal.TheVariants.{Locked, Stale, MustResolve, NoContent}
use Rattle.depot_rows.specs.depot_model.Asking.{to_write}
use Rattle.depot_rows.specs.depot_model.Deeds.{Deed, Opening}
use Rattle.depot_rows.specs.depot_model.Opened.{is_moved_with}
use Rattle.depot_rows.specs.depot_model.Revisions.{head}
use Rattle.depot_rows.specs.depot_model.Step.{refuse_if}
use Rattle.depot_rows.specs.depot_model.Steps.Opening.{right_refusal}
use Rattle.depot_rows.specs.depot_model.Steps.Submitting.{is_unpaid, lacks_content, lock_refusal, move_refusal, resolves_of}

-- another client has the lock
abbrev pub locked_by : List ℕ → List ℕ → Option (List ℕ) → Option Refusal
locked_by own path None = None
locked_by own path (Some client) = refuse_if (not (same client own)) (Locked path client)

-- an opening names the path as its other end, and is in the change
abbrev pub in_same_change : ℕ → List ℕ → Option Opening → Bool
in_same_change n path o = option_map_or (λ (p : Opening). is_moved_with path p && (p.change == n)) o false

-- the refusals of a file by right, lock and base
abbrev pub sooner_refusals : List Deed → Request → Opening → List (Option Refusal)
sooner_refusals d request o =
    right_refusal to_write d request.caller o.path
    ∷ lock_refusal d o
    ∷ refuse_if (not (o.base == head d o.path)) (Stale o.path o.base (head d o.path))
    ∷ []

-- those by resolve, move and content
abbrev pub later_refusals : List Deed → Request → Opening → List (Option Refusal)
later_refusals d request o =
    refuse_if (list_any is_unpaid (resolves_of d o)) (MustResolve o.path)
    ∷ move_refusal d o
    ∷ refuse_if (lacks_content d request o) (NoContent o.path)
    ∷ []
