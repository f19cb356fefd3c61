use Rattle.std.proofs.Common.{ℕ, List, Option, ap, ◌∙◌}
use Rattle.std.specs.Prelude.{decimal, option_map}
use Rattle.job_fixes.specs.Fixes.{fixes_among, names_asked}
use Rattle.job_fixes.proofs.FixNames.{among_asked}
use Rattle.job_fixes.proofs.FixRows.{fixes_are}
use Rattle.job_fixes.proofs.fixes.fixes_asked.Goals as goal

pub returns : goal.returns
returns c = λ d sound has.
    let job = c.args.job.now in
    c.in_ok-forms.ensures d sound has
    ∙ ap (λ (digits : Option (List ℕ)). fixes_among d digits job c.as_slice.result.now) c.in_ok-change.ensures
    ∙ ap (fixes_among d (option_map decimal c.args.change) job)
    (c.as_slice.ensures ∙ c.in_ok-names.ensures d has ∙ ap (λ (digits : Option (List ℕ)). names_asked d digits job) c.in_ok-change.ensures)
    ∙ among_asked d sound (option_map decimal c.args.change) job
    ∙ fixes_are d c.args.change job
