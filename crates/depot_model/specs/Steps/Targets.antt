-- The target of a source, where the texts of one argument's specifiers are put into another (Command-Line Reference, "p4 integrate", "p4 move").
use Rattle.std.specs.Prelude.{ℕ, List, [], if◌then◌else◌, Option, Some, None, unwrap_or, not}
use Rattle.db_records.specs.depot_path.Path.{is_path}
use Rattle.db_records.specs.depot_path.Fit.{texts, filled}
use Rattle.view_map.specs.Specifiers.{answering}
use Rattle.view_map.specs.Mapping.{files_at}
use Rattle.depot_model.specs.declared.request.Caller.{Caller}
use Rattle.depot_model.specs.declared.command.FileArgument.{FileArgument}
use Rattle.depot_model.specs.declared.command.PatternArgument.{PatternArgument}
use Rattle.depot_model.specs.Deeds.{Deed}
use Rattle.depot_model.specs.Asking.{view}
use Rattle.depot_model.specs.Choice.{shown}
use Rattle.depot_model.specs.Arguments.{in_client_syntax}
use Rattle.depot_model.specs.Steps.Adding.{first_live}

-- the text whose specifiers' texts are put into TO
abbrev pub source_text : List Deed → Caller → FileArgument → List ℕ → Option (List ℕ)
source_text d caller from path = if in_client_syntax caller.client from.spec.pattern then shown d caller from.spec.wanted path else Some path

abbrev pub target_text : List Deed → Caller → FileArgument → PatternArgument → List ℕ → List ℕ
target_text d caller from to path =
    let text = unwrap_or (source_text d caller from path) path in
    filled to.pattern (answering from.spec.pattern to.pattern (unwrap_or (texts from.spec.pattern text) []))

-- the target, or nothing where it is no path or no file has that client path
abbrev pub target_at : List Deed → Caller → PatternArgument → List ℕ → Option (List ℕ)
target_at d caller to text =
    if not (is_path text) then None else
    (if in_client_syntax caller.client to.pattern then first_live d (files_at (view d caller.client) text) else Some text)
