use Rattle.std.proofs.Common.{sym, ap, subst, ◌∙◌, ◌+◌, drop}
use Rattle.table_changes.specs.Changed.{AllFitIn, AllRows, changed_by}
use Rattle.table_changes.specs.Drafts.{rows_of_draft}
use Rattle.table_changes.proofs.Changes.{fit_more, changed_more, changed_all}
use Rattle.table_changes.proofs.changing.change_tables.Goals as goal

pub loop-change-init : goal.loop-change-init
loop-change-init c = record {
  fit = let Fit : AllRows → Type 0 = λ rows. AllFitIn rows c.args.changes.now in subst Fit (sym c.in_ok-draft.ensures.rows) c.requires;
  rows = ap (λ (rows : AllRows). changed_by rows c.args.changes.now) c.in_ok-draft.ensures.rows;
  end = c.in_ok-draft.ensures.end;
}

pub change-requires : goal.change-requires
change-requires c = (fit_more c.args.changes.now c.loop-change.change-index c.change-item.result c.loop-change-test.true c.change-item.is (rows_of_draft c.loop-change.draft) c.loop-change.invariant.fit).0

pub loop-change-preserved : goal.loop-change-preserved
loop-change-preserved c =
    let changes = c.args.changes.now in
    let i = c.loop-change.change-index in
    let change = c.change-item.result in
    let so_far = c.loop-change.invariant in
    let Fit : AllRows → Type 0 = λ rows. AllFitIn rows (drop (i + 1) changes) in
    record {
      fit = subst Fit (sym c.in_ok-change.ensures.ok) (fit_more changes i change c.loop-change-test.true c.change-item.is (rows_of_draft c.loop-change.draft) so_far.fit).1;
      rows = ap (λ (rows : AllRows). changed_by rows (drop (i + 1) changes)) c.in_ok-change.ensures.ok
          ∙ (sym (changed_more changes i change c.loop-change-test.true c.change-item.is (rows_of_draft c.loop-change.draft)) ∙ so_far.rows);
      end = c.change.ensures.end ∙ so_far.end;
    }

pub returns-clause-rows : goal.returns-clause-rows
returns-clause-rows c =
    c.in_ok-made.ensures.rows ∙ (sym (changed_all c.args.changes.now c.loop-change.change-index c.loop-change-test.false (rows_of_draft c.loop-change.draft)) ∙ c.loop-change.invariant.rows)
