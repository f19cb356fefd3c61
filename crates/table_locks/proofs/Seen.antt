-- The versions of tables that were seen.
use Rattle.std.proofs.Common.{◌≡◌, ◌≢◌, Bool, true, false, List, [], ◌∷◌, refl, sym, ap, subst, ◌∙◌}
use Rattle.std.specs.Prelude.{◌||◌}
use Rattle.std.specs.List.{AllByRecursion, list_any}
use Rattle.std.proofs.lemmas.Bool.{eqb-true, false≢true, or_parts}
use Rattle.depot_model.specs.db_records.Table.{table_number}
use Rattle.depot_model.specs.db_records.declared.table.TableId.{TableId}
use Rattle.locked_tables.specs.Known.{IsStill, TableKnown}
use Rattle.locked_tables.specs.Taken.{rows_after}
use Rattle.locked_tables.specs.declared.taken.Taken.{Taken}
use Rattle.table_changes.specs.Changed.{AllRows, rows_of}
use Rattle.table_changes.specs.table_store.Rows.{TableRows}
use Rattle.table_changes.specs.table_store.Tables.{version_of}
use Rattle.table_changes.specs.table_store.declared.tables.Tables.{Tables}
use Rattle.table_locks.specs.Gathered.{HasSeen, is_of}
use Rattle.table_locks.proofs.Tables.{apart_number, same_number}

-- a version that is put in its place is what was seen of its table
pub shown_new : (start : AllRows) (new : Tables) (version : TableRows) (known : TableKnown) → version ≡ record { table = known.table; rows = rows_after start known.list known.table }
    → version_of new version.table ≡ version → HasSeen start (rows_of new) known
shown_new start new version known is put =
    ap (λ (t : TableId). (version_of new t).rows) (sym (ap (λ (v : TableRows). v.table) is)) ∙ (ap (λ (v : TableRows). v.rows) put ∙ ap (λ (v : TableRows). v.rows) is)

module _ {X : Type 0} (known : X → TableKnown) where
  -- it leaves what was seen of other tables
  pub shown_put : (start : AllRows) (old new : Tables) (table : TableId) → ((t : TableId) → t ≢ table → version_of new t ≡ version_of old t) → (xs : List X)
      → list_any (λ x. is_of table (known x)) xs ≡ false → AllByRecursion (λ x. HasSeen start (rows_of old) (known x)) xs → AllByRecursion (λ x. HasSeen start (rows_of new) (known x)) xs
  shown_put start old new table others [] none seen = tt
  shown_put start old new table others (x ∷ xs) none seen =
      let parts = or_parts (is_of table (known x)) (list_any (λ y. is_of table (known y)) xs) none in (
        ap (λ (v : TableRows). v.rows) (others (known x).table (apart_number (known x).table table parts.0)) ∙ seen.0,
        shown_put start old new table others xs parts.1 seen.1,
      )

  -- what was seen and is still so is what is after all places
  pub rows_now : (start rows : AllRows) (order : List Taken) (xs : List X) → AllByRecursion (λ x. HasSeen start rows (known x)) xs → AllByRecursion (λ x. IsStill start order (known x)) xs
      → (table : TableId) → list_any (λ x. is_of table (known x)) xs ≡ true → rows table ≡ rows_after start order table
  rows_now start rows order [] seen still table e = absurd (false≢true e)
  rows_now start rows order (x ∷ xs) seen still table e = go (is_of table (known x)) refl e (λ h. rows_now start rows order xs seen.1 still.1 table h)
    where
      go : (b : Bool) → is_of table (known x) ≡ b → (b || list_any (λ y. is_of table (known y)) xs) ≡ true → (list_any (λ y. is_of table (known y)) xs ≡ true → rows table ≡ rows_after start order table) → rows table ≡ rows_after start order table
      go true is h rest =
          let same : (known x).table ≡ table = same_number (known x).table table (eqb-true (table_number (known x).table) (table_number table) is) in
          subst (λ (t : TableId). rows t ≡ rows_after start order t) same (seen.0 ∙ sym still.0)
      go false is h rest = rest h
