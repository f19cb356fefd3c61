use Rattle.std.proofs.Common.{[], ◌∷◌, ap, ◌∙◌, sym, subst, true, false}
use Rattle.depot_rows.specs.table_changes.Changed.{AllRows}
use Rattle.depot_rows.specs.table_changes.Drafts.{rows_of_draft}
use Rattle.replica_pull.specs.Feed.{Fit, changed_cut, HasMade}
use Rattle.replica_pull.proofs.Fitting.{fit_more, fitted_more, changed_more}
use Rattle.replica_pull.proofs.feed.make_fitting.Goals as goal

pub returns-then-not-made-clause-next : goal.returns-then-not-made-clause-next
returns-then-not-made-clause-next c = λ below fit.
    let rules = c.args.filter.now in
    let old = rows_of_draft c.args.draft.now in
    let change = c.index-changes-i.result in
    let not : HasMade rules (rows_of_draft c.loop-i.draft) (rows_of_draft c.make_change.new.draft) change false = subst (HasMade rules (rows_of_draft c.loop-i.draft) (rows_of_draft c.make_change.new.draft) change) c.if-not-made.true c.in_ok-made.ensures in
    not.0 (subst (λ (rows : AllRows). Fit rules rows (change ∷ [])) (sym c.loop-i.invariant.rows) (fitted_more rules old c.args.changes.now c.loop-i.i change below c.index-changes-i.is fit))

pub loop-i-preserved : goal.loop-i-preserved
loop-i-preserved c =
    let rules = c.args.filter.now in
    let old = rows_of_draft c.args.draft.now in
    let changes = c.args.changes.now in
    let change = c.index-changes-i.result in
    let made : HasMade rules (rows_of_draft c.loop-i.draft) (rows_of_draft c.make_change.new.draft) change true = subst (HasMade rules (rows_of_draft c.loop-i.draft) (rows_of_draft c.make_change.new.draft) change) c.if-not-made.false c.in_ok-made.ensures in
    record {
      fit = fit_more rules old changes c.loop-i.i change c.loop-i-test.true c.index-changes-i.is c.loop-i.invariant.fit (subst (λ (rows : AllRows). Fit rules rows (change ∷ [])) c.loop-i.invariant.rows made.0);
      rows = made.1 ∙ ap (λ (rows : AllRows). changed_cut rules rows (change ∷ [])) c.loop-i.invariant.rows ∙ sym (changed_more rules old changes c.loop-i.i change c.loop-i-test.true c.index-changes-i.is);
    }
