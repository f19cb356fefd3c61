-- Changes that are exactly what a step makes differ in some tables are that in all, where they are of no other tables, and those have the same rows.
use Rattle.std.proofs.Common.{◌≡◌, Bool, true, false, List, [], ◌∷◌, Option, Some, None, refl, sym, ap, subst, ◌∙◌}
use Rattle.std.specs.Prelude.{if◌then◌else◌, option_map}
use Rattle.std.specs.List.{AllByRecursion}
use Rattle.std.proofs.lemmas.Bool.{true≢false}
use Rattle.depot_rows.specs.db_records.Key.{key_table}
use Rattle.depot_rows.specs.db_records.Record.{table_of}
use Rattle.depot_rows.specs.db_records.declared.change.Change.{Change}
use Rattle.depot_rows.specs.db_records.declared.change.Op.{Op}
use Rattle.depot_rows.specs.db_records.declared.key.Key.{Key}
use Rattle.depot_rows.specs.db_records.declared.record.Record.{Record}
use Rattle.depot_rows.specs.db_records.declared.table.TableId.{TableId}
use Rattle.depot_rows.specs.table_store.Rows.{row_at}
use Rattle.depot_rows.specs.table_changes.Changed.{AllRows, changed_by}
use Rattle.depot_rows.specs.depot_model.Deeds.{Deed}
use Rattle.depot_rows.specs.depot_model.Records.{is_at, record_of, unplaced}
use Rattle.depot_rows.specs.Standing.{HasRows, Stand, row_in, unplaced_at}
use Rattle.depot_rows.proofs.Keys.{at-is}
use Rattle.row_changes.specs.Differences.{AreDifferences, LeadsTo, change_at, changed_key}
use Rattle.row_changes.proofs.Kept.{row_after, row_left, stored-after}
use Rattle.needed_tables.specs.Needed.{AgreeOnChanged}
use Rattle.needed_tables.proofs.Fitting.{fit_alike}

-- where a depot stays as the rows have it nothing is to be changed
pub stays_so : (before after : Option Record) (change : Option Change) → after ≡ option_map unplaced before → change ≡ None → LeadsTo before after change
stays_so before after change same none =
    subst (λ (x : Option Record). LeadsTo before x change) (sym same) (subst (LeadsTo before (option_map unplaced before)) (sym none) (go before))
  where
    go : (b : Option Record) → LeadsTo b (option_map unplaced b) None
    go None = refl
    go (Some old) = refl

-- a change leaves the row to which it leads
leaves : (before after : Option Record) (change : Option Change) → LeadsTo before after change → option_map unplaced (row_after change before) ≡ after
leaves None None change leads = ap (λ (c : Option Change). option_map unplaced (row_after c None)) leads
leaves None (Some new) None leads = absurd leads
leaves None (Some new) (Some change) leads = ap (λ (op : Op). option_map unplaced (row_left op change.row)) leads.0 ∙ ap Some leads.1
leaves (Some old) None change leads = ap (λ (c : Option Change). option_map unplaced (row_after c (Some old))) leads
leaves (Some old) (Some new) None leads = ap Some leads
leaves (Some old) (Some new) (Some change) leads = ap (λ (op : Op). option_map unplaced (row_left op change.row)) leads.1 ∙ ap Some leads.2

module _ (needed : TableId → Bool) (changes : List Change) (own : AllByRecursion (λ (change : Change). needed (table_of change.row) ≡ true) changes) where
  -- no change is at a key of another table
  pub unchanged : (key : Key) → needed (key_table key) ≡ false → change_at changes key ≡ None
  unchanged key away = go changes own
    where
      go : (cs : List Change) → AllByRecursion (λ (change : Change). needed (table_of change.row) ≡ true) cs → change_at cs key ≡ None
      go [] own = refl
      go (c ∷ cs) own = at (is_at key (changed_key c)) refl (go cs own.1)
        where
          at : (b : Bool) → is_at key (changed_key c) ≡ b → change_at cs key ≡ None → (if b then Some c else change_at cs key) ≡ None
          at true here later = absurd (true≢false (sym own.0 ∙ (ap (λ (k : Key). needed (key_table k)) (sym (at-is key (changed_key c) here)) ∙ away)))
          at false apart later = later

-- tables that agree on those that are needed
module _ (rows all : AllRows) (needed : TableId → Bool) (agree : (table : TableId) → needed table ≡ true → rows table ≡ all table) where
  pub same_row : (key : Key) → needed (key_table key) ≡ true → row_in rows key ≡ row_in all key
  same_row key is = ap (row_at key) (agree (key_table key) is)

  pub same_rows : (d : List Deed) (table : TableId) → needed table ≡ true → HasRows all d table → HasRows rows d table
  same_rows d table is has = λ key own. ap (λ (l : List Record). unplaced_at l key) (agree table is) ∙ has key own

  agree_changed : (changes : List Change) → AllByRecursion (λ (change : Change). needed (table_of change.row) ≡ true) changes → AgreeOnChanged rows all changes
  agree_changed [] own = tt
  agree_changed (c ∷ cs) own = (agree (table_of c.row) own.0, agree_changed cs own.1)

  module _ (d e : List Deed) (stand : Stand all d) (stay : (key : Key) → needed (key_table key) ≡ false → record_of e key ≡ record_of d key)
      (changes : List Change) (own : AllByRecursion (λ (change : Change). needed (table_of change.row) ≡ true) changes) (differ : AreDifferences rows d e changes) where
    each : (key : Key) → HasRows all d (key_table key) → LeadsTo (row_in all key) (record_of e key) (change_at changes key)
    each key has = go (needed (key_table key)) refl
      where
        go : (b : Bool) → needed (key_table key) ≡ b → LeadsTo (row_in all key) (record_of e key) (change_at changes key)
        go true is = subst (λ (row : Option Record). LeadsTo row (record_of e key) (change_at changes key)) (same_row key is)
            (differ.each key (same_rows d (key_table key) is has))
        go false away = stays_so (row_in all key) (record_of e key) (change_at changes key) (stay key away ∙ sym (has key refl)) (unchanged needed changes own key away)

    left : (table : TableId) → HasRows (changed_by all changes) e table
    left table key is =
        ap (λ (t : TableId). option_map unplaced (row_at key (changed_by all changes t))) (sym is)
        ∙ (ap (option_map unplaced) (stored-after all changes differ.rising key)
        ∙ leaves (row_in all key) (record_of e key) (change_at changes key) (each key (stand.each (key_table key))))

    pub differ_alike : AreDifferences all d e changes
    differ_alike = record {
      each = each;
      rising = differ.rising;
      fit = fit_alike rows all changes (agree_changed changes own) differ.fit;
      left = λ table has. left table;
    }
