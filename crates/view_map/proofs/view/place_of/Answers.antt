use Rattle.std.proofs.Common.{◌≡◌, ◌-◌, sym, ◌∙◌, subst, arith, OnErr, IfOk, Result, Ok, Err}
use Rattle.view_map.specs.declared.mapped.Mapped.{Mapped}
use Rattle.view_map.proofs.Placing.{excluded, placed, none_takes, depot_fits, path_fits}
use Rattle.view_map.proofs.view.place_of.Goals as goal

on_err_holds : {T E : Type 0} (r : Result T E) (P : Type 0) → P → OnErr r P
on_err_holds (Ok x) P p = tt
on_err_holds (Err x) P p = p

pub returns-then-matches-clause-value : goal.returns-then-matches-clause-value
returns-then-matches-clause-value c =
    sym (
    excluded c.args.lines.now c.args.file.now c.loop-at.at (c.loop-at.at - 1) c.index-lines-at.result (omega arith) c.index-lines-at.is c.loop-at.invariant
    (sym c.is_exclusion.ensures ∙ c.if-is_exclusion.true) (sym c.matches.ensures ∙ c.if-matches.true)
    )

pub returns-in_err-path-clause-memory : goal.returns-in_err-path-clause-memory
returns-in_err-path-clause-memory c =
    on_err_holds c.from_residual.result _ (
    depot_fits c.args.lines.now c.args.file.now c.loop-at.at (c.loop-at.at - 1) c.index-lines-at.result (omega arith) c.loop-at.invariant.low c.index-lines-at.is c.in_err-path.ensures.memory
    )

pub returns-in-Some-clause-value : goal.returns-in-Some-clause-value
returns-in-Some-clause-value c =
    let there : c.in_ok-path.field-0 ≡ _ = c.in_ok-path.ensures.value in
    let e = placed c.args.lines.now c.lines_after.result.now c.args.file.now c.in-Some.path c.loop-at.at (c.loop-at.at - 1) c.index-lines-at.result
    (omega arith) c.index-lines-at.is c.lines_after.ensures c.loop-at.invariant (sym c.is_exclusion.ensures ∙ c.if-is_exclusion.false) (sym there ∙ c.in-Some.is) in
    subst (λ (m : Mapped). IfOk c.place.result (λ place. place ≡ m)) (sym e) c.place.ensures

pub returns-in-Some-clause-memory : goal.returns-in-Some-clause-memory
returns-in-Some-clause-memory c =
    let there : c.in_ok-path.field-0 ≡ _ = c.in_ok-path.ensures.value in
    on_err_holds c.place.result _ (
    depot_fits c.args.lines.now c.args.file.now c.loop-at.at (c.loop-at.at - 1) c.index-lines-at.result (omega arith) c.loop-at.invariant.low c.index-lines-at.is
    (path_fits c.index-lines-at.result c.args.file.now c.in-Some.path (sym there ∙ c.in-Some.is))
    )

pub returns-clause-value : goal.returns-clause-value
returns-clause-value c =
    sym (none_takes c.args.lines.now c.args.file.now c.loop-at.at c.loop-at-test.false c.loop-at.invariant)
