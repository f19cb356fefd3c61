use Rattle.std.proofs.Common.{ℕ, List, subst}
use Rattle.std.specs.Prelude.{◌==◌}
use Rattle.depot_rows.specs.depot_model.Fixes.{closes, fixed_job, renumbers_where}
use Rattle.job_fixes.specs.Telling.{Tells}
use Rattle.job_fixes.proofs.Telling.{tells_on}
use Rattle.submit_core.proofs.fixes.add_closing.Goals as goal

pub returns : goal.returns
returns c = λ d sound has.
    let n = c.args.change in
    let m = c.args.number in
    let form = c.args.form.now in
    tells_on c.args.deeds.now c.renumber_where.new.deeds c.close.new.deeds (renumbers_where (n == m) n m form) (closes d (fixed_job form)) c.in_ok-renumber_where.ensures
    (subst (λ (name : List ℕ). Tells c.renumber_where.new.deeds c.close.new.deeds (closes d name)) c.form_value.ensures (c.in_ok-close.ensures d sound has))
