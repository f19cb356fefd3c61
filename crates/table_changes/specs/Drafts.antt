-- The rows of a draft of all tables.
use Rattle.table_store.specs.db_records.declared.table.TableId.{TableId}
use Rattle.table_store.specs.Rows.{TableRows}
use Rattle.table_changes.specs.Changed.{AllRows}
use Rattle.table_changes.specs.InOrder.{draft_at}
use Rattle.table_changes.specs.declared.draft.TablesDraft.{TablesDraft}

-- the draft of a table
abbrev pub draft_of : TablesDraft → TableId → TableRows
draft_of draft table = draft_at draft.drafts.items table

abbrev pub rows_of_draft : TablesDraft → AllRows
rows_of_draft draft table = (draft_of draft table).rows
