use Rattle.std.proofs.Common.{ap, ◌∙◌}
use Rattle.table_store.specs.Rows.{TableRows}
use Rattle.table_store.specs.Tables.{version_of}
use Rattle.table_changes.proofs.Drafts.{drafts_more, numbers_more}
use Rattle.table_changes.proofs.draft.TablesDraft.of.Goals as goal

pub loop-table-preserved : goal.loop-table-preserved
loop-table-preserved c =
    let at = c.loop-table in
    let draft = c.in_ok-draft.field-0 in
    rw c.in_ok-push.ensures.items record {
      drafts = drafts_more (version_of c.args.tables.now) at.drafts.items at.table-index draft c.loop-table-test.true at.invariant.drafts (c.in_ok-draft.ensures ∙ c.version.ensures.rows);
      numbers = numbers_more at.drafts.items at.table-index draft c.loop-table-test.true at.invariant.numbers (ap (λ (v : TableRows). v.table) c.in_ok-draft.ensures ∙ c.version.ensures.table);
    }
