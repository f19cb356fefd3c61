use Rattle.std.proofs.Common.{◌+◌, ℕ, List, ◌++◌, drop, filter, ap, sym, ◌∙◌, append_assoc, []}
use Rattle.std.specs.List.{cons_option, filter_map}
use Rattle.depot_rows.specs.spec_form.Form.{FormValue}
use Rattle.depot_rows.specs.depot_model.Deeds.{FixForm}
use Rattle.depot_rows.specs.depot_model.Latest.{spec}
use Rattle.job_fixes.specs.Fixes.{is_asked}
use Rattle.job_fixes.proofs.FixRows.{one_more}
use Rattle.job_fixes.proofs.Steps.{back}
use Rattle.job_fixes.proofs.fixes.fixes_named.Goals as goal

pub loop-name-preserved : goal.loop-name-preserved
loop-name-preserved c = λ d sound has.
    let f = spec d FixForm in
    let test = is_asked c.args.change.now c.args.job.now in
    let names = c.args.names.now in
    let i = c.loop-name.name-index in
    let name = c.name-item.result in
    let rest = drop (i + 1) names in
    let before = c.loop-name.forms in
    ap (λ (l : List FormValue). l ++ filter test (filter_map f rest)) (c.in_ok-add_fix.ensures d sound has)
    ∙ append_assoc before (filter test (cons_option (f name) [])) (filter test (filter_map f rest))
    ∙ ap (λ (l : List FormValue). before ++ l) (one_more f test name rest ∙ ap (λ (ps : List (List ℕ)). filter test (filter_map f ps)) (sym (back names i name c.loop-name-test.true c.name-item.is)))
    ∙ c.loop-name.invariant d sound has
