use Rattle.std.proofs.Common.{◌≡◌, map, take}
use Rattle.table_store.specs.db_records.Table.{all_tables}
use Rattle.table_store.specs.Tables.{version_of}
use Rattle.table_changes.specs.InOrder.{all_numbers, numbers_of}
use Rattle.table_changes.proofs.draft.TablesDraft.of.Given as goal

abbrev pub invariant-loop-table : goal.invariant-loop-table
invariant-loop-table l =
    record {
      drafts : l.drafts.items ≡ map (version_of l.tables) (take l.table-index all_tables);
      numbers : numbers_of l.drafts.items ≡ take l.table-index all_numbers;
    }
