-- What was gathered, beside another end of the archive.
use Rattle.std.proofs.Common.{◌≡◌, sym, subst}
use Rattle.depot_model.specs.db_records.declared.table.TableId.{TableId}
use Rattle.std.specs.List.{AllByRecursion}
use Rattle.table_changes.specs.Changed.{AllRows, rows_of}
use Rattle.table_changes.specs.table_store.Tables.{version_of}
use Rattle.table_changes.specs.table_store.declared.tables.Tables.{Tables}
use Rattle.table_locks.specs.Gathered.{AllHeldSeen, HasSeen, IsShown}
use Rattle.table_locks.specs.declared.gathered.Gathered.{Gathered}

module _ {N : Type 0} (old : Gathered N) (tables : Tables) (versions : (table : TableId) → version_of tables table ≡ version_of old.tables table) where
  abbrev with_tables : Gathered N
  with_tables = record { held = old.held; peeks = old.peeks; tables = tables }

  same_rows : rows_of old.tables ≡ rows_of tables
  same_rows = λ i table. (sym (versions table) i).rows

  -- the versions are still those that were seen
  pub shown_still : (start : AllRows) → IsShown start old → IsShown start with_tables
  shown_still start shown = record {
    held = subst (λ (rows : AllRows). AllHeldSeen start rows old.held.items) same_rows shown.held;
    peeks = subst (λ (rows : AllRows). AllByRecursion (HasSeen start rows) old.peeks.items) same_rows shown.peeks;
  }
