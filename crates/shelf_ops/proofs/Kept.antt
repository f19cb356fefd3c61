-- The files that are kept in a change are those of the rows of its forms that are kept.
use Rattle.std.proofs.Common.{◌≡◌, ℕ, Bool, true, false, List, [], ◌∷◌, ◌++◌, Option, Some, None, refl, sym, ap, subst, ◌∙◌, append_assoc}
use Rattle.std.specs.Prelude.{◌&&◌, codes, decimal, filter, is_some, option_and_then}
use Rattle.std.specs.List.{list_any}
use Rattle.depot_rows.specs.depot_path.Bytes.{same}
use Rattle.depot_rows.specs.depot_path.Path.{is_path, printed}
use Rattle.depot_rows.specs.db_records.Key.{key_table}
use Rattle.depot_rows.specs.db_records.declared.key.Key.{Key}
use Rattle.depot_rows.specs.db_records.declared.key.Key.TheVariants as keys
use Rattle.depot_rows.specs.db_records.declared.record.Record.{Record}
use Rattle.depot_rows.specs.db_records.declared.table.TableId.{TableId}
use Rattle.depot_rows.specs.db_records.declared.table.TableId.TheVariants as tables
use Rattle.depot_rows.specs.table_store.Rows.{AllOfTable, IsRising, TableRows, row_at}
use Rattle.depot_rows.specs.spec_form.Form.{FormValue}
use Rattle.depot_rows.specs.depot_model.Arguments.{paths_of}
use Rattle.depot_rows.specs.depot_model.Deeds.{Deed, ShelfForm}
use Rattle.depot_rows.specs.depot_model.Latest.{spec, when}
use Rattle.depot_rows.specs.depot_model.Records.{record_of}
use Rattle.depot_rows.specs.depot_model.Rules.{IsSound}
use Rattle.depot_rows.specs.depot_model.Shelves.{is_kept, kept, kept_paths, shelf_name, shelf_paths}
use Rattle.depot_rows.specs.Standing.{unplaced_at}
use Rattle.depot_rows.proofs.Keys.{same-self}
use Rattle.depot_rows.proofs.Sorted.{filter_rises}
use Rattle.named_files.proofs.Rising.{in_filter, one_list, told_rise}
use Rattle.row_reads.proofs.FormsRead.{form_there}
use Rattle.depot_facts.proofs.Found.{shelf_among}
use Rattle.shelf_ops.specs.ShelfRows.{beginning, shelf_files}
use Rattle.shelf_ops.proofs.Listed.{files_rise, in_files}
use Rattle.depot_facts.proofs.Listed.{any_of}
use Rattle.depot_facts.proofs.PathsTold.{shelf_told}

module _ (d : List Deed) (sound : IsSound d) (n : ℕ) where
  -- a file that is kept has a form, and deeds speak of it
  has_form : (z : List ℕ) → is_some (kept d n z) ≡ true → is_some (spec d ShelfForm (shelf_name n z)) ≡ true
  has_form z = go (spec d ShelfForm (shelf_name n z))
    where
      go : (o : Option FormValue) → is_some (option_and_then (λ form. when (is_kept form) form) o) ≡ true → is_some o ≡ true
      go None e = e
      go (Some form) e = refl

  is_told : (z : List ℕ) → is_path z ≡ true → is_some (kept d n z) ≡ true → list_any (same z) (paths_of (shelf_paths n) d) ≡ true
  is_told z is some = go (spec d ShelfForm (shelf_name n z)) refl (has_form z some)
    where
      go : (o : Option FormValue) → spec d ShelfForm (shelf_name n z) ≡ o → is_some o ≡ true → list_any (same z) (paths_of (shelf_paths n) d) ≡ true
      go None e h = absurd cc
      go (Some form) e h = any_of (same z) (paths_of (shelf_paths n) d) z (shelf_among d sound n z is form e) (same-self z)

  name_is : (z : List ℕ) → beginning n ++ printed z ≡ shelf_name n z
  name_is z = append_assoc (decimal n) (0x20 ∷ []) (printed z)

  both : (a b k : Bool) → (k ≡ true → a ≡ true) → (k ≡ true → b ≡ true) → (a && k) ≡ (b && k)
  both a b true p q = λ i. (p refl ∙ sym (q refl)) i && true
  both a b false p q = none a ∙ sym (none b)
    where
      none : (x : Bool) → (x && false) ≡ false
      none true = refl
      none false = refl

  files_kept : (rows : List Record) → IsRising rows → AllOfTable tables.Domain rows → ((key : Key) → key_table key ≡ tables.Domain → unplaced_at rows key ≡ record_of d key)
      → filter (λ path. is_some (kept d n path)) (shelf_files (beginning n) rows) ≡ kept_paths d n
  files_kept rows up of has =
      one_list (filter test (shelf_files (beginning n) rows)) (kept_paths d n)
      (filter_rises test (shelf_files (beginning n) rows) (files_rise (beginning n) rows up of))
      (filter_rises test (paths_of (shelf_paths n) d) (told_rise (shelf_paths n) (shelf_told n) d sound.paths))
      (λ z is.
      in_filter z test (shelf_files (beginning n) rows)
      ∙ both (list_any (same z) (shelf_files (beginning n) rows)) (list_any (same z) (paths_of (shelf_paths n) d)) (test z) (in_rows z is) (is_told z is)
      ∙ sym (in_filter z test (paths_of (shelf_paths n) d)))
    where
      test : List ℕ → Bool
      test path = is_some (kept d n path)

      in_rows : (z : List ℕ) → is_path z ≡ true → is_some (kept d n z) ≡ true → list_any (same z) (shelf_files (beginning n) rows) ≡ true
      in_rows z is some =
          in_files (beginning n) z is rows of
          ∙ ap (λ (name : List ℕ). is_some (row_at (keys.Domain (codes "shelf") name) rows)) (name_is z)
          ∙ form_there ShelfForm d (shelf_name n z) (row_at (keys.Domain (codes "shelf") (shelf_name n z)) rows) (has (keys.Domain (codes "shelf") (shelf_name n z)) refl)
          ∙ has_form z some

pub kept_told : (d : List Deed) → IsSound d → (n : ℕ) → (version : TableRows) (rows : List Record) → version.rows ≡ rows → version.table ≡ tables.Domain
    → AllOfTable version.table version.rows → IsRising version.rows → ((key : Key) → key_table key ≡ tables.Domain → unplaced_at rows key ≡ record_of d key)
    → filter (λ path. is_some (kept d n path)) (shelf_files (beginning n) rows) ≡ kept_paths d n
kept_told d sound n version rows are is of up has =
    let P : TableId → Type 0 = λ t. AllOfTable t rows in
    let Q : List Record → Type 0 = λ rs. AllOfTable version.table rs in
    files_kept d sound n rows (subst IsRising are up) (subst P is (subst Q are of)) has
