use Rattle.std.proofs.Common.{◌≡◌, ℕ, List, [], ap, ◌∙◌, map}
use Rattle.std.specs.Prelude.{flat_map}
use Rattle.depot_rows.specs.depot_path.Path.{printed}
use Rattle.depot_rows.specs.depot_path.declared.piece.Piece.{Piece}
use Rattle.depot_rows.specs.depot_model.Arguments.{submitted}
use Rattle.depot_rows.specs.depot_model.declared.request.Caller.{Caller}
use Rattle.depot_rows.specs.depot_model.Deeds.{Deed}
use Rattle.depot_rows.specs.depot_model.Steps.History.{directories as above, dirs_of, seen_paths}
use Rattle.history_query.specs.Directories.{all_fitting, directories_of}
use Rattle.history_query.proofs.Above.{seen_directories}
use Rattle.history_query.proofs.Fitting.{all_fit}
use Rattle.history_query.proofs.directories.directories.Goals as goal

told : (d : List Deed) (caller : Caller) (pattern : List Piece) → all_fitting pattern (flat_map (directories_of d caller pattern) (submitted d)) [] ≡ map printed (dirs_of d caller pattern)
told d caller pattern =
    ap (λ (ds : List (List ℕ)). all_fitting pattern ds []) (seen_directories d caller pattern) ∙ all_fit pattern (flat_map above (seen_paths d caller pattern))

pub returns : goal.returns
returns c = λ d sound asked has.
    c.in_ok-texts.ensures ∙ c.in_ok-set.ensures d c.args.caller.now sound asked has ∙ told d c.args.caller.now c.args.pattern.now

pub returns-2 : goal.returns-2
returns-2 c = λ d sound asked has. c.in_ok-texts-2.ensures ∙ c.in_ok-set-2.ensures d sound asked has ∙ told d c.args.caller.now c.args.pattern.now
