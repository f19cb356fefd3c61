use Rattle.std.proofs.Common.{◌≡◌, ℕ, OnOk, get_or, set, ap, subst, sym, ◌∙◌}
use Rattle.table_store.specs.db_records.Table.{table_number}
use Rattle.table_changes.specs.Changed.{changed_in}
use Rattle.table_changes.specs.InOrder.{all_numbers, numbers_of}
use Rattle.table_changes.proofs.Drafts.{fits_at, order_after, rows_after, rows_at}
use Rattle.table_changes.proofs.draft.TablesDraft.take.Goals as goal

pub take-requires : goal.take-requires
take-requires c =
    let self = c.args.self.now in
    let old = c.index_mut.result.now in
    let At : ℕ → Type 0 = λ at. old ≡ get_or self.drafts.items at old in
    fits_at self.drafts.items self.in_order c.args.change old (subst At (c.number.ensures ∙ ap table_number c.table.ensures) c.index_mut.ensures.value) c.requires

pub invariant_of-self-clause-in_order : goal.invariant_of-self-clause-in_order
invariant_of-self-clause-in_order c =
    let self = c.args.self.now in
    let old = c.index_mut.result.now in
    let at_is = c.number.ensures ∙ ap table_number c.table.ensures in
    let At : ℕ → Type 0 = λ at. old ≡ get_or self.drafts.items at old in
    let Ordered : ℕ → Type 0 = λ at. numbers_of (set self.drafts.items at c.take.new.self) ≡ all_numbers in
    subst Ordered (sym at_is) (order_after self.drafts.items self.in_order c.args.change old (subst At at_is c.index_mut.ensures.value) c.take.new.self c.take.result c.take.ensures.ok c.take.ensures.err)

pub returns-clause-ok : goal.returns-clause-ok
returns-clause-ok c =
    let self = c.args.self.now in
    let old = c.index_mut.result.now in
    let at_is = c.number.ensures ∙ ap table_number c.table.ensures in
    let At : ℕ → Type 0 = λ at. old ≡ get_or self.drafts.items at old in
    let Changed : ℕ → Type 0 = λ at. OnOk c.take.result (rows_at (set self.drafts.items at c.take.new.self) ≡ changed_in (rows_at self.drafts.items) c.args.change) in
    subst Changed (sym at_is) (rows_after self.drafts.items self.in_order c.args.change old (subst At at_is c.index_mut.ensures.value) c.take.new.self c.take.result c.take.ensures.ok)
