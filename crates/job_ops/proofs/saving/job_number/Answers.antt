use Rattle.std.proofs.Common.{ℕ, List, Option, ap, ◌∙◌}
use Rattle.std.specs.Prelude.{drop, unwrap_or}
use Rattle.depot_rows.specs.depot_path.Digits.{number_of, up_to}
use Rattle.job_ops.proofs.Numbering.{at_most}
use Rattle.job_ops.proofs.saving.job_number.Goals as goal

pub returns : goal.returns
returns c =
    c.unwrap_or.ensures
    ∙ ap (λ (found : Option ℕ). unwrap_or found 999999) (c.value_up_to.ensures.value ∙ ap (λ (digits : List ℕ). up_to 999999 (number_of digits)) c.digits_in.ensures)
    ∙ at_most (number_of (drop 3 c.args.name.now))
