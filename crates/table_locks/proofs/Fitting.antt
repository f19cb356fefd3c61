-- Changes of tables that are held.
use Rattle.std.proofs.Common.{◌≡◌, true, List, [], ◌∷◌, sym, ap, subst}
use Rattle.std.specs.Prelude.{◌==◌, if◌then◌else◌}
use Rattle.std.specs.List.{AllByRecursion}
use Rattle.std.proofs.lemmas.Bool.{and_parts}
use Rattle.depot_model.specs.db_records.Record.{table_of}
use Rattle.depot_model.specs.db_records.Table.{table_number}
use Rattle.depot_model.specs.db_records.declared.change.Change.{Change}
use Rattle.depot_model.specs.db_records.declared.record.Record.{Record}
use Rattle.depot_model.specs.db_records.declared.table.TableId.{TableId}
use Rattle.locked_tables.specs.Held.{known_of, table_held}
use Rattle.locked_tables.specs.Known.{IsStill}
use Rattle.locked_tables.specs.Taken.{rows_after}
use Rattle.locked_tables.specs.declared.held_table.HeldTable.{HeldTable}
use Rattle.locked_tables.specs.declared.taken.Taken.{Taken}
use Rattle.table_changes.specs.Changed.{AllFitIn, AllRows, changed_in, rows_of}
use Rattle.table_changes.specs.table_store.Rows.{Fits, changed_once}
use Rattle.table_locks.specs.Confirmed.{IsConfirmed}
use Rattle.table_locks.specs.Prepared.{are_held, is_held}
use Rattle.table_locks.specs.declared.confirmed.Confirmed.{Confirmed}
use Rattle.table_locks.specs.declared.gathered.Gathered.{Gathered}
use Rattle.table_locks.proofs.Seen.{rows_now}

module _ {N : Type 0} where
  -- tables that know the whole order are after it as they are after what they know
  pub still_known : (start : AllRows) (order : List Taken) (held : List (HeldTable N)) → AllByRecursion (λ (h : HeldTable N). (known_of h).list ≡ order) held
      → AllByRecursion (λ (h : HeldTable N). IsStill start order (known_of h)) held
  still_known start order [] known = tt
  still_known start order (h ∷ held) known = (ap (λ (l : List Taken). rows_after start l (table_held h)) (sym known.0), still_known start order held known.1)

  -- whether changes fit depends on the rows of their tables alone
  fits_alike : (held : List (HeldTable N)) (changes : List Change) (rows other : AllRows) → ((table : TableId) → is_held held table ≡ true → rows table ≡ other table) → are_held held changes ≡ true
      → AllFitIn rows changes → AllFitIn other changes
  fits_alike held [] rows other same all fits = tt
  fits_alike held (change ∷ changes) rows other same all fits =
      let parts = and_parts (is_held held (table_of change.row)) (are_held held changes) all in (
        subst (λ (r : List Record). Fits (record { table = table_of change.row; rows = r }) change) (same (table_of change.row) parts.0) fits.0,
        fits_alike held changes (changed_in rows change) (changed_in other change)
            (λ table is. ap (λ (r : List Record). if table_number table == table_number (table_of change.row) then changed_once r change else r) (same table is)) parts.1 fits.1,
      )

  -- changes of held tables that fit what was gathered fit the tables after the whole order
  pub fits_now : (start : AllRows) (order : List Taken) (gathered : Gathered N) (confirmed : Confirmed N) (changes : List Change) → IsConfirmed start order gathered confirmed
      → are_held confirmed.held.items changes ≡ true → AllFitIn (rows_of confirmed.tables) changes → AllFitIn (rows_after start order) changes
  fits_now start order gathered confirmed changes is all fits =
      fits_alike confirmed.held.items changes (rows_of confirmed.tables) (rows_after start order)
      (λ table held. rows_now (λ (h : HeldTable N). known_of h) start (rows_of confirmed.tables) order confirmed.held.items is.shown (still_known start order confirmed.held.items is.known) table held) all fits
