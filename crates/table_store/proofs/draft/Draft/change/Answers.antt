use Rattle.std.proofs.Common.{◌≡◌, OnOk, subst, sym}
use Rattle.db_records.specs.declared.change.Change.{Change}
use Rattle.table_store.specs.Rows.{Fits, changed_once, with_rows}
use Rattle.table_store.proofs.draft.Draft.change.Goals as goal

pub take-requires : goal.take-requires
take-requires c = subst (λ (change : Change). Fits c.args.self.now change) (sym c.in_ok-copy.ensures) c.requires

pub returns-clause-ok : goal.returns-clause-ok
returns-clause-ok c =
    let old = c.args.self.now in
    subst (λ (change : Change). OnOk c.take.result (c.take.new.self ≡ with_rows old (changed_once old.rows change))) c.in_ok-copy.ensures c.take.ensures.ok
