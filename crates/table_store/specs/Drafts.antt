-- The rows of a draft.
use Rattle.table_store.specs.Rows.{TableRows}
use Rattle.table_store.specs.declared.draft.DraftRows.{DraftRows}
use Rattle.table_store.specs.declared.draft.DraftRows.TheVariants.{Unchanged, Changed}

abbrev pub rows_drafted : DraftRows → TableRows
rows_drafted (Unchanged version) = version
rows_drafted (Changed trees) = trees
