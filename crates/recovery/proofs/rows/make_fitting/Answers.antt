use Rattle.std.proofs.Common.{◌≡◌, ap, ◌∙◌, sym, subst, Bool, true, false}
use Rattle.depot_rows.specs.table_changes.Changed.{FitsIn, changed_in, AllRows}
use Rattle.depot_rows.specs.table_changes.Drafts.{rows_of_draft}
use Rattle.recovery.proofs.Fits.{fits_more, fitted_more, changed_more}
use Rattle.recovery.proofs.rows.make_fitting.Goals as goal

not_both : {b : Bool} → b ≡ false → b ≡ true → ⊥
not_both e h = cc

pub returns-then-not-fits-clause-next : goal.returns-then-not-fits-clause-next
returns-then-not-fits-clause-next c = λ below fit.
    let fits : FitsIn (rows_of_draft c.loop-i.draft) c.index-changes-i.result =
    subst (λ (rows : AllRows). FitsIn rows c.index-changes-i.result) (sym c.loop-i.invariant.rows)
    (fitted_more (rows_of_draft c.args.draft.now) c.args.changes.now c.loop-i.i c.index-changes-i.result below c.index-changes-i.is fit) in
    not_both c.if-not-fits.true (c.fits.ensures.1 fits)

pub loop-i-preserved : goal.loop-i-preserved
loop-i-preserved c =
    let old = rows_of_draft c.args.draft.now in
    let changes = c.args.changes.now in
    let change = c.index-changes-i.result in
    let fits = subst (λ (rows : AllRows). FitsIn rows change) c.loop-i.invariant.rows (c.fits.ensures.0 c.if-not-fits.false) in
    record {
      fit = fits_more old changes c.loop-i.i change c.loop-i-test.true c.index-changes-i.is c.loop-i.invariant.fit fits;
      rows =
          c.in_ok-change.ensures.ok
          ∙ ap (λ (rows : AllRows). changed_in rows change) c.loop-i.invariant.rows
          ∙ sym (changed_more old changes c.loop-i.i change c.loop-i-test.true c.index-changes-i.is);
    }
