-- The changes of an outcome tell which tables a commit changes.
use Rattle.std.proofs.Common.{◌≡◌, ◌⊎◌, ℕ, Bool, true, false, cond, eqb, List, [], ◌∷◌, Option, Some, None, refl, sym, ap, subst, ◌∙◌, inl, inr}
use Rattle.std.specs.Prelude.{option_map}
use Rattle.std.specs.Ordering.{is_eq}
use Rattle.std.proofs.lemmas.Bool.Decides.{Decides-eqb}
use Rattle.std.specs.declared.cmp.Ordering.{Ordering}
use Rattle.std.specs.declared.cmp.Ordering.TheVariants.{Less, Equal, Greater}
use Rattle.std.proofs.lemmas.Bool.{or_parts}
use Rattle.depot_rows.specs.db_records.Key.{key_cmp, key_table}
use Rattle.depot_rows.specs.db_records.Record.{key_of, table_of}
use Rattle.depot_rows.specs.db_records.Table.{table_number}
use Rattle.depot_rows.specs.db_records.declared.change.Change.{Change}
use Rattle.depot_rows.specs.db_records.declared.key.Key.{Key}
use Rattle.depot_rows.specs.db_records.declared.record.Record.{Record}
use Rattle.depot_rows.specs.db_records.declared.record.Record.TheVariants as records
use Rattle.depot_rows.specs.db_records.declared.table.TableId.{TableId}
use Rattle.depot_rows.proofs.db_records.Order.{keys_equal}
use Rattle.depot_rows.specs.table_changes.Changed.{AllRows}
use Rattle.depot_rows.specs.depot_model.Deeds.{Deed}
use Rattle.depot_rows.specs.depot_model.Records.{record_of, unplaced, is_at}
use Rattle.depot_rows.specs.depot_model.Tables.{is_in}
use Rattle.depot_rows.specs.depot_model.declared.lock.LockId.TheVariants.{Table}
use Rattle.depot_rows.specs.Standing.{Stand, row_in}
use Rattle.row_changes.specs.Differences.{AreDifferences, LeadsTo, change_at, changed_key}
use Rattle.lock_machine.specs.Runs.{AreChanged}
use Rattle.lock_core.specs.Works.{is_changed}
use Rattle.lock_machine.proofs.Places.{some_is, either_true, true_or_false}
use Rattle.lock_machine.proofs.Orderly.{same_lock}

same : (a b : ℕ) → eqb a b ≡ true → a ≡ b
same a b e = (Decides-eqb a b).0 e

itself : (a : ℕ) → eqb a a ≡ true
itself a = (Decides-eqb a a).1 refl

-- tables with one number are one
same_table : (a b : TableId) → eqb (table_number a) (table_number b) ≡ true → a ≡ b
same_table a b e = own (same_lock (Table a) (Table b) e)
  where
    own : {a b : TableId} → Table a ≡ Table b → a ≡ b
    own e = cc

of_table : (row : Record) → key_table (key_of row) ≡ table_of row
of_table (records.Counter r) = refl
of_table (records.Group r) = refl
of_table (records.Protect r) = refl
of_table (records.Domain r) = refl
of_table (records.Have r) = refl
of_table (records.Label r) = refl
of_table (records.Integed r) = refl
of_table (records.Resolve r) = refl
of_table (records.Working r) = refl
of_table (records.Change r) = refl
of_table (records.Rev r) = refl

same_key : (a b : Key) → is_at a b ≡ true → a ≡ b
same_key a b at = go (key_cmp a b) refl at
  where
    go : (o : Ordering) → key_cmp a b ≡ o → is_eq o ≡ true → a ≡ b
    go Less is at = absurd cc
    go Equal is at = (keys_equal a b).0 is
    go Greater is at = absurd cc

itself_at : (key : Key) → is_at key key ≡ true
itself_at key = ap is_eq ((keys_equal key key).1 refl)

-- no change is at a key of a table of which there is none
none_at : (changes : List Change) (key : Key) → is_changed changes (key_table key) ≡ false → change_at changes key ≡ None
none_at [] key none = refl
none_at (change ∷ changes) key none =
    let parts = or_parts (eqb (table_number (table_of change.row)) (table_number (key_table key))) (is_changed changes (key_table key)) none in
    go (is_at key (changed_key change)) refl parts.0 (none_at changes key parts.1)
  where
    go : (b : Bool) → is_at key (changed_key change) ≡ b → eqb (table_number (table_of change.row)) (table_number (key_table key)) ≡ false → change_at changes key ≡ None
        → cond (is_at key (changed_key change)) (Some change) (change_at changes key) ≡ None
    go true at apart rest =
        let table : table_of change.row ≡ key_table key = sym (of_table change.row) ∙ ap key_table (sym (same_key key (changed_key change) at)) in
        absurd (let both : true ≡ false = sym (ap (λ t. eqb (table_number t) (table_number (key_table key))) table ∙ itself (table_number (key_table key))) ∙ apart in cc)
    go false at apart rest = ap (λ b. cond b (Some change) (change_at changes key)) at ∙ rest

-- a change is at its own key
one_at : (changes : List Change) (table : TableId) → is_changed changes table ≡ true → (key : Key) × (change : Change) × (key_table key ≡ table) × (change_at changes key ≡ Some change)
one_at [] table has = absurd cc
one_at (change ∷ changes) table has =
    by (eqb (table_number (table_of change.row)) (table_number table)) refl (either_true (eqb (table_number (table_of change.row)) (table_number table)) (is_changed changes table) has) (one_at changes table)
  where
    by : (b : Bool) → eqb (table_number (table_of change.row)) (table_number table) ≡ b
        → (eqb (table_number (table_of change.row)) (table_number table) ≡ true) ⊎ (is_changed changes table ≡ true)
        → (is_changed changes table ≡ true → (key : Key) × (found : Change) × (key_table key ≡ table) × (change_at changes key ≡ Some found))
        → (key : Key) × (found : Change) × (key_table key ≡ table) × (change_at (change ∷ changes) key ≡ Some found)
    by b is (inl here) rest = (
      changed_key change,
      change,
      of_table change.row ∙ same_table (table_of change.row) table here,
      ap (λ c. cond c (Some change) (change_at changes (changed_key change))) (itself_at (changed_key change)),
    )
    by b is (inr later) rest =
        let more = rest later in
        elim (true_or_false (is_at more.0 (changed_key change))) [
          | inl at ↦ (more.0, change, more.2, ap (λ c. cond c (Some change) (change_at changes more.0)) at)
          | inr apart ↦ (more.0, more.1, more.2, ap (λ c. cond c (Some change) (change_at changes more.0)) apart ∙ more.3)
        ]

lead_none : (row now : Option Record) → LeadsTo row now None → option_map unplaced row ≡ now
lead_none None None leads = refl
lead_none None (Some new) leads = absurd leads
lead_none (Some old) None leads = absurd cc
lead_none (Some old) (Some new) leads = ap (λ (r : Record). Some r) leads

lead_some : (row now : Option Record) (change : Change) → LeadsTo row now (Some change) → option_map unplaced row ≡ now → ⊥
lead_some None None change leads same = absurd cc
lead_some None (Some new) change leads same = cc
lead_some (Some old) None change leads same = cc
lead_some (Some old) (Some new) change leads same = leads.0 (some_is same)

-- the tables of the changes are those of which some row differs
pub tells : (all : AllRows) (d e : List Deed) (changes : List Change) (changed : List TableId) → Stand all d → AreDifferences all d e changes → ((table : TableId) → is_in changed table ≡ is_changed changes table)
    → AreChanged d e changed
tells all d e changes changed stand differences numbers = record {
  same = λ key is.
      let none = none_at changes key (sym (numbers (key_table key)) ∙ is) in
      let P : Option Change → Type 0 = LeadsTo (row_in all key) (record_of e key) in
      sym (stand.each (key_table key) key refl) ∙ lead_none (row_in all key) (record_of e key) (subst P none (differences.each key (stand.each (key_table key))));
  differ = λ table has.
      let one = one_at changes table (sym (numbers table) ∙ has) in
      let P : Option Change → Type 0 = LeadsTo (row_in all one.0) (record_of e one.0) in
      (one.0, one.2, λ same. lead_some (row_in all one.0) (record_of e one.0) one.1 (subst P one.3 (differences.each one.0 (stand.each (key_table one.0)))) (stand.each (key_table one.0) one.0 refl ∙ same));
}
