-- What is done with a file by its opening, and which opened files arguments name.
use Rattle.std.proofs.Common.{◌≡◌, ℕ, Bool, true, false, List, Option, Some, None, ◌∙◌}
use Rattle.std.specs.Prelude.{filter}
use Rattle.std.specs.List.{list_all}
use Rattle.depot_rows.specs.depot_model.declared.command.FileArgument.{FileArgument}
use Rattle.depot_rows.specs.depot_model.declared.request.Caller.{Caller}
use Rattle.depot_rows.specs.depot_model.declared.request.Request.{Request}
use Rattle.depot_rows.specs.depot_model.Arguments.{names, opened_by, over_all}
use Rattle.depot_rows.specs.depot_model.Deeds.{Deed, Opening}
use Rattle.depot_rows.specs.depot_model.Opened.{opened}
use Rattle.depot_rows.specs.depot_model.Step.{Step as ModelStep, nothing}
use Rattle.depot_rows.specs.depot_model.Steps.Reverting.{is_selected}
use Rattle.depot_rows.specs.depot_model.Steps.Shelving.{opened_in, shelve_opening}
use Rattle.depot_rows.specs.depot_model.WellFormed.{asks_head}
use Rattle.named_files.specs.Sets.{at_head}
use Rattle.named_files.proofs.Heads.{over_all_heads}
use Rattle.named_files.proofs.Selection.{both_tests}
use Rattle.shelf_ops.specs.Shelved.{is_at_head}

-- what is done with a file by its opening
abbrev pub by_opening : List Deed → Request → Bool → Option Opening → ModelStep
by_opening d request replaces found = elim found [ None ↦ nothing | Some o ↦ shelve_opening d request replaces o ]

-- ---- the loop over the opened files that arguments name is the model's

pub over_opened : (d : List Deed) (caller : Caller) (n : ℕ) (missing : FileArgument → ModelStep) (act : FileArgument → List ℕ → ModelStep) (arguments : List FileArgument)
    → list_all asks_head arguments ≡ true
    → over_all (λ a. filter (is_at_head caller n d a) (opened_by d caller.client)) missing act arguments ≡ over_all (opened_in d caller n) missing act arguments
over_opened d caller n missing act arguments asks =
    (λ i.
    over_all (λ a. both_tests (names false d caller (at_head a.spec)) (λ path. is_selected (Some n) (opened d caller.client path)) (opened_by d caller.client) i) missing act arguments)
    ∙ over_all_heads d caller (filter (λ path. is_selected (Some n) (opened d caller.client path)) (opened_by d caller.client)) missing act arguments asks
