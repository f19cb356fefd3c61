use Rattle.std.proofs.Common.{◌≡◌, OnOk, subst, sym}
use Rattle.table_store.specs.db_records.declared.change.Change.{Change}
use Rattle.table_changes.specs.Changed.{FitsIn, changed_in}
use Rattle.table_changes.specs.Drafts.{rows_of_draft}
use Rattle.table_changes.proofs.draft.TablesDraft.change.Goals as goal

pub take-requires : goal.take-requires
take-requires c = subst (λ (change : Change). FitsIn (rows_of_draft c.args.self.now) change) (sym c.in_ok-copy.ensures) c.requires

pub returns-clause-ok : goal.returns-clause-ok
returns-clause-ok c =
    let rows = rows_of_draft c.args.self.now in
    subst (λ (change : Change). OnOk c.take.result (rows_of_draft c.take.new.self ≡ changed_in rows change)) c.in_ok-copy.ensures c.take.ensures.ok
