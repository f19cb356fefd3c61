-- The changes from the rows of a sound depot to those of another have texts.
use Rattle.std.proofs.Common.{◌≡◌, ◌⊎◌, Bool, true, false, List, [], ◌∷◌, Option, Some, None, refl, sym, ap, subst, ◌∙◌, inl, inr}
use Rattle.std.specs.Prelude.{All, map, option_map, if◌then◌else◌}
use Rattle.std.specs.List.{AllByRecursion}
use Rattle.std.specs.List.Sorted.{IsStrictlySortedBy}
use Rattle.std.specs.declared.cmp.Ordering.TheVariants.{Less, Equal}
use Rattle.std.proofs.lemmas.List.Elements.{recursion_from_All}
use Rattle.depot_rows.proofs.db_records.Order.{keys_equal}
use Rattle.depot_rows.specs.db_records.Key.{key_cmp, key_table}
use Rattle.depot_rows.specs.db_records.declared.change.Change.{Change}
use Rattle.depot_rows.specs.db_records.declared.change.Op.TheVariants.{Remove}
use Rattle.depot_rows.specs.db_records.declared.key.Key.{Key}
use Rattle.depot_rows.specs.db_records.declared.record.Record.{Record}
use Rattle.record_text.specs.Grammar.{IsRecord}
use Rattle.journal_groups.specs.Groups.{AreRecords}
use Rattle.depot_rows.specs.table_changes.Changed.{AllRows}
use Rattle.depot_rows.specs.depot_model.Deeds.{Deed}
use Rattle.depot_rows.specs.depot_model.Records.{record_of, unplaced, is_at}
use Rattle.depot_rows.specs.depot_model.Rules.{IsSound}
use Rattle.depot_rows.proofs.Keys.{at-is, at-self}
use Rattle.depot_rows.specs.Standing.{Stand, row_in}
use Rattle.row_changes.specs.Differences.{AreDifferences, LeadsTo, change_at, changed_key}
use Rattle.row_texts.proofs.Rows.{row_has_text}
use Rattle.row_texts.specs.Texts.{IsOf64Bits, is_counted}

-- ---- each change is the one at its key

not_below : (key : Key) → key_cmp key key ≡ Less → ⊥
not_below key less = let same : key_cmp key key ≡ Equal = (keys_equal key key).1 refl in cc

pub own_change : (changes : List Change) → IsStrictlySortedBy key_cmp (map changed_key changes) → AllByRecursion (λ change. change_at changes (changed_key change) ≡ Some change) changes
unfolding IsStrictlySortedBy
own_change [] rising = tt
own_change (c ∷ cs) rising = (ap (λ (b : Bool). if b then Some c else change_at cs (changed_key c)) (at-self (changed_key c) (changed_key c) refl), later cs rising.0 (own_change cs rising.1))
  where
    passed : (x : Change) → key_cmp (changed_key c) (changed_key x) ≡ Less → (b : Bool) → is_at (changed_key x) (changed_key c) ≡ b
        → change_at cs (changed_key x) ≡ Some x → (if b then Some c else change_at cs (changed_key x)) ≡ Some x
    passed x less true e found =
        absurd (not_below (changed_key c) (subst (λ (key : Key). key_cmp (changed_key c) key ≡ Less) (at-is (changed_key x) (changed_key c) e) less))
    passed x less false e found = found

    later : (xs : List Change) → AllByRecursion (λ key. key_cmp (changed_key c) key ≡ Less) (map changed_key xs)
        → AllByRecursion (λ x. change_at cs (changed_key x) ≡ Some x) xs → AllByRecursion (λ x. change_at (c ∷ cs) (changed_key x) ≡ Some x) xs
    later [] above all = tt
    later (x ∷ xs) above all = (passed x above.0 (is_at (changed_key x) (changed_key c)) refl all.0, later xs above.1 all.1)

-- ---- its row is one of the depot after, or of that before

row_of : (old new : Option Record) (change : Change) → LeadsTo old new (Some change) → (new ≡ Some (unplaced change.row)) ⊎ (old ≡ Some change.row)
row_of None None change leads = absurd cc
row_of None (Some new) change leads = inl (ap Some (sym leads.1))
row_of (Some old) None change leads = let is : change ≡ record { op = Remove; row = old } = cc in inr (ap (λ (c : Change). Some c.row) (sym is))
row_of (Some old) (Some new) change leads = inl (ap Some (sym leads.2))

module _ (all : AllRows) (d e : List Deed) (changes : List Change) (stand : Stand all d) (sound : IsSound e) (differences : AreDifferences all d e changes) where
  row_before : (change : Change) → row_in all (changed_key change) ≡ Some change.row → record_of d (changed_key change) ≡ Some (unplaced change.row)
  row_before change is = sym (stand.each (key_table (changed_key change)) (changed_key change) refl) ∙ ap (option_map unplaced) is

  has_text : (change : Change) → change_at changes (changed_key change) ≡ Some change → IsOf64Bits change.row → is_counted change.row ≡ true → IsRecord change.row
  has_text change own typed counted =
      go (row_of (row_in all (changed_key change)) (record_of e (changed_key change)) change
      (subst (LeadsTo (row_in all (changed_key change)) (record_of e (changed_key change))) own (differences.each (changed_key change) (stand.each (key_table (changed_key change))))))
    where
      go : (record_of e (changed_key change) ≡ Some (unplaced change.row)) ⊎ (row_in all (changed_key change) ≡ Some change.row) → IsRecord change.row
      go (inl after_it) = row_has_text e sound change.row after_it typed counted
      go (inr before) = row_has_text d stand.sound change.row (row_before change before) typed counted

  all_have : (cs : List Change) → AllByRecursion (λ change. change_at changes (changed_key change) ≡ Some change) cs → AllByRecursion (λ (change : Change). IsOf64Bits change.row) cs
      → AllByRecursion (λ (change : Change). is_counted change.row ≡ true) cs → AreRecords cs
  all_have [] own typed counted = tt
  all_have (c ∷ cs) own typed counted = (has_text c own.0 typed.0 counted.0, all_have cs own.1 typed.1 counted.1)

  pub changes_have_texts : All (λ (change : Change). IsOf64Bits change.row) changes → All (λ (change : Change). is_counted change.row ≡ true) changes → AreRecords changes
  changes_have_texts typed counted =
      all_have changes (own_change changes differences.rising) (recursion_from_All (λ (change : Change). IsOf64Bits change.row) changes typed)
      (recursion_from_All (λ (change : Change). is_counted change.row ≡ true) changes counted)
