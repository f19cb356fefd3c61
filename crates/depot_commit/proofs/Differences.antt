-- What the changes between the rows of two depots tell.
use Rattle.std.proofs.Common.{◌≡◌, Bool, true, false, cond, List, [], ◌∷◌, Option, Some, None, refl, sym, ◌∙◌}
use Rattle.std.specs.Prelude.{option_map}
use Rattle.std.specs.List.{AllByRecursion}
use Rattle.depot_rows.specs.db_records.Key.{key_table}
use Rattle.depot_rows.specs.db_records.declared.change.Change.{Change}
use Rattle.depot_rows.specs.db_records.declared.key.Key.{Key}
use Rattle.depot_rows.specs.db_records.declared.record.Record.{Record}
use Rattle.depot_rows.specs.table_changes.Changed.{AllRows}
use Rattle.depot_rows.specs.depot_model.Deeds.{Deed}
use Rattle.depot_rows.specs.depot_model.Records.{record_of, is_at, unplaced, SameRows}
use Rattle.depot_rows.proofs.Keys.{at-self}
use Rattle.depot_rows.specs.Standing.{Stand, row_in}
use Rattle.row_changes.specs.Differences.{AreDifferences, LeadsTo, change_at, changed_key}

-- no change leads from a row to itself
no_lead : (row : Option Record) (now : Option Record) (change : Option Change) → now ≡ option_map unplaced row → LeadsTo row now change → change ≡ None
no_lead None None change is leads = leads
no_lead None (Some new) change is leads = absurd cc
no_lead (Some old) None change is leads = absurd cc
no_lead (Some old) (Some new) None is leads = refl
no_lead (Some old) (Some new) (Some change) is leads = absurd (leads.0 (let e : new ≡ unplaced old = cc in sym e))

none_here : {A : Type 0} (b : Bool) (change : A) (rest : Option A) → cond b (Some change) rest ≡ None → (b ≡ false) × (rest ≡ None)
none_here true change rest none = absurd cc
none_here false change rest none = (refl, none)

none_at : (changes : List Change) (key : Key) → change_at changes key ≡ None → AllByRecursion (λ change. is_at key (changed_key change) ≡ false) changes
none_at [] key none = tt
none_at (change ∷ changes) key none =
    let here = none_here (is_at key (changed_key change)) change (change_at changes key) none in
    (here.0, none_at changes key here.1)

self_at : (key : Key) → is_at key key ≡ false → ⊥
self_at key is = let e = at-self key key refl in cc

module _ (rows : AllRows) (d e : List Deed) (whole : List Change) (stand : Stand rows d) (differences : AreDifferences rows d e whole) where
  abbrev pub Differs : Change → Type 0
  Differs change = record_of e (changed_key change) ≡ record_of d (changed_key change) → ⊥

  no_change : (key : Key) → record_of e key ≡ record_of d key → change_at whole key ≡ None
  no_change key same = no_lead (row_in rows key) (record_of e key) (change_at whole key) (same ∙ sym (stand.each (key_table key) key refl)) (differences.each key (stand.each (key_table key)))

  -- each change is of a row that differs
  pub all_differ : AllByRecursion Differs whole
  all_differ = go whole (λ key none. none_at whole key none)
    where
      go : (changes : List Change) → ((key : Key) → change_at whole key ≡ None → AllByRecursion (λ change. is_at key (changed_key change) ≡ false) changes) → AllByRecursion Differs changes
      go [] none = tt
      go (change ∷ changes) none = (λ same. self_at (changed_key change) (none (changed_key change) (no_change (changed_key change) same)).0, go changes (λ key is. (none key is).1))

-- where no row differs there is no change
pub no_changes : (rows : AllRows) (d e : List Deed) (changes : List Change) → Stand rows d → SameRows d e → AreDifferences rows d e changes → changes ≡ []
no_changes rows d e changes stand same differences = go changes (all_differ rows d e changes stand differences)
  where
    go : (changes : List Change) → AllByRecursion (λ change. record_of e (changed_key change) ≡ record_of d (changed_key change) → ⊥) changes → changes ≡ []
    go [] differ = refl
    go (change ∷ changes) differ = absurd (differ.0 (sym (same (changed_key change))))
