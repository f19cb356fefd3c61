use Rattle.std.proofs.Common.{ℕ, List, Option, sym, ap, ◌∙◌}
use Rattle.std.specs.Prelude.{unwrap_or}
use Rattle.depot_rows.specs.depot_model.Steps.Editing.{had_type}
use Rattle.opened_files.proofs.had.first_type.Goals as goal

pub returns-in_ok-file_type-in-Some : goal.returns-in_ok-file_type-in-Some
returns-in_ok-file_type-in-Some c = λ d had revisions.
    c.in_ok-file_type-in-Some.ensures ∙ ap (λ (o : Option (List ℕ)). unwrap_or o (had_type d c.args.caller.now c.args.path.now)) (sym c.in-Some.is)

pub returns-in_ok-file_type-in-None : goal.returns-in_ok-file_type-in-None
returns-in_ok-file_type-in-None c = λ d had revisions.
    c.in_ok-file_type-in-None.ensures d had revisions ∙ ap (λ (o : Option (List ℕ)). unwrap_or o (had_type d c.args.caller.now c.args.path.now)) (sym c.in-None.is)
