-- The file of a target's text.
use Rattle.std.proofs.Common.{◌≡◌, ℕ, Bool, true, false, List, Option, Some, None, ◌∙◌}
use Rattle.std.specs.Prelude.{not, if◌then◌else◌}
use Rattle.depot_rows.specs.depot_path.Path.{is_path}
use Rattle.depot_rows.specs.view_map.Mapping.{files_at}
use Rattle.depot_rows.specs.view_map.declared.line.ViewLine.{ViewLine}
use Rattle.depot_rows.specs.depot_model.declared.command.PatternArgument.{PatternArgument}
use Rattle.depot_rows.specs.depot_model.declared.request.Caller.{Caller}
use Rattle.depot_rows.specs.depot_model.Arguments.{in_client_syntax}
use Rattle.depot_rows.specs.depot_model.Asking.{view}
use Rattle.depot_rows.specs.depot_model.Deeds.{Deed}
use Rattle.depot_rows.specs.depot_model.Steps.Adding.{first_live}
use Rattle.depot_rows.specs.depot_model.Steps.Targets.{target_at}

module _ (d : List Deed) (caller : Caller) (to : PatternArgument) (text : List ℕ) where
  abbrev pub file_by : List ViewLine → List ℕ → Option (List ℕ)
  file_by lines path = if in_client_syntax caller.client to.pattern then first_live d (files_at lines path) else Some path

  pub target_is : (lines : List ViewLine) (path : List ℕ) (file : Option (List ℕ)) → lines ≡ view d caller.client → Some path ≡ (if is_path text then Some text else None)
      → file ≡ file_by lines path → file ≡ target_at d caller to text
  target_is lines path file is read found = found ∙ go (is_path text) read
    where
      go : (b : Bool) → Some path ≡ (if b then Some text else None) → file_by lines path ≡ (if not b then None else file_by (view d caller.client) text)
      go true e = let one : path ≡ text = cc in λ i. file_by (is i) (one i)
      go false e = absurd cc

  abbrev none : Option (List ℕ)
  none = None

  pub no_target : None ≡ (if is_path text then Some text else None) → None ≡ target_at d caller to text
  no_target read = go (is_path text) read
    where
      go : (b : Bool) → none ≡ (if b then Some text else None) → none ≡ (if not b then None else file_by (view d caller.client) text)
      go true e = absurd cc
      go false e = e
