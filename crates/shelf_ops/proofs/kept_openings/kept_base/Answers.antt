use Rattle.std.proofs.Common.{◌≤◌, ℕ, List, sym, ap, subst, ◌∙◌}
use Rattle.depot_rows.specs.depot_path.Digits.{number_of}
use Rattle.shelf_ops.proofs.kept_openings.kept_base.Goals as goal

pub returns : goal.returns
returns c = λ fits.
    c.number_in-base.ensures (subst (λ (w : List ℕ). number_of w ≤ 4294967295) (sym c.form_value-digits.ensures) fits) ∙ ap number_of c.form_value-digits.ensures
