use Rattle.std.proofs.Common.{List, length, ap, ◌∙◌}
use Rattle.std.specs.Prelude.{nat_lt}
use Rattle.depot_rows.specs.declared.deed.Deed.{Deed}
use Rattle.file_steps.specs.Limits.{files_changed}
use Rattle.file_steps.proofs.Counting.{kept_within, refused_over}
use Rattle.file_steps.proofs.limits.within_files.Goals as goal

pub returns-then-many : goal.returns-then-many
returns-then-many c = λ all d e model made.
    refused_over all d e model c.args.step made c.in_ok-many.many
    (c.in_ok-many.ensures ∙ ap (λ (x : List Deed). nat_lt 10000 (length (files_changed x))) c.as_slice.ensures) c.if-many.true c.in_ok-row.row c.in_ok-row.ensures
    c.in_ok-refused.refused c.in_ok-refused.ensures

pub returns : goal.returns
returns c = λ all d e model made.
    kept_within all d e model c.args.step made c.in_ok-many.many
    (c.in_ok-many.ensures ∙ ap (λ (x : List Deed). nat_lt 10000 (length (files_changed x))) c.as_slice.ensures) c.if-many.false
