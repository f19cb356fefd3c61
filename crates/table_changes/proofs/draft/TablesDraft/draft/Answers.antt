use Rattle.std.proofs.Common.{◌≡◌, ℕ, get_or, ap, subst, ◌∙◌}
use Rattle.table_store.specs.Rows.{TableRows}
use Rattle.table_changes.proofs.Drafts.{own_at, read_at}
use Rattle.table_changes.proofs.draft.TablesDraft.draft.Goals as goal

pub returns-clause-table : goal.returns-clause-table
returns-clause-table c =
    let self = c.args.self.now in
    let draft = c.index.result.now in
    let At : ℕ → Type 0 = λ at. draft ≡ get_or self.drafts.items at draft in
    ap (λ (d : TableRows). d.table) (read_at self.drafts.items self.in_order c.args.table draft (subst At c.number.ensures c.index.ensures)) ∙ own_at self.drafts.items self.in_order c.args.table
