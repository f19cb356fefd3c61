-- Where the spots of a depot's rows end doesn't fall when it takes a command: the row of a revision stays as it was put.
use Rattle.std.proofs.Common.{◌≡◌, ◌≤◌, ℕ, zero, suc, Bool, true, false, List, [], ◌∷◌, ◌++◌, Option, Some, None, Result, Ok, Err, refl, sym, ap, subst, ◌∙◌, cond, arith}
use Rattle.std.specs.Prelude.{filter, option_map}
use Rattle.std.specs.List.{AllByRecursion}
use Rattle.std.specs.Ordering.{is_eq, is_gt, is_lt}
use Rattle.std.specs.declared.cmp.Ordering.{Ordering}
use Rattle.std.specs.declared.cmp.Ordering.TheVariants.{Equal, Greater, Less}
use Rattle.row_texts.proofs.Changes.{own_change}
use Rattle.row_changes.specs.Differences.{AreDifferences, LeadsTo, change_at, changed_key}
use Rattle.depot_rows.specs.db_records.Key.{key_cmp}
use Rattle.depot_rows.specs.db_records.Record.{key_of}
use Rattle.depot_rows.specs.db_records.declared.change.Change.{Change}
use Rattle.depot_rows.specs.db_records.declared.change.Op.{Op}
use Rattle.depot_rows.specs.db_records.declared.change.Op.TheVariants.{Put}
use Rattle.depot_rows.specs.db_records.declared.key.Key.{Key}
use Rattle.depot_rows.specs.db_records.declared.key.Key.TheVariants as keys
use Rattle.depot_rows.specs.db_records.declared.record.Record.{Record}
use Rattle.depot_rows.specs.db_records.declared.record.Record.TheVariants.{Rev as RevRow}
use Rattle.depot_rows.specs.db_records.declared.table.TableId.TheVariants.{Rev}
use Rattle.depot_rows.specs.depot_model.Deeds.{Deed, Land}
use Rattle.depot_rows.specs.depot_model.Records.{at_path, record_of, rev_record, unplaced}
use Rattle.depot_rows.specs.depot_model.Revisions.{Revision, entries_at, revision, revisions}
use Rattle.depot_rows.specs.depot_model.Step.{after}
use Rattle.depot_rows.specs.depot_path.Bytes.{same}
use Rattle.depot_rows.specs.depot_path.Path.{path_of, printed}
use Rattle.depot_rows.specs.Standing.{HasRows, row_in}
use Rattle.depot_rows.specs.table_changes.Changed.{AllFitIn, AllRows, FitsIn, changed_by, changed_in}
use Rattle.depot_rows.specs.table_store.Rows.{FitsAt, changed_once, is_above, is_below, row_at}
use Rattle.depot_facts.proofs.Listed.{get_left}
use Rattle.recovery.specs.Holding.{spots_end}

-- ---- rows that are put

ends_front : (xs ys : List Record) → spots_end xs ≤ spots_end (xs ++ ys)
ends_front [] ys = omega arith
ends_front (x ∷ xs) ys = let rest = ends_front xs ys in omega (arith, rest)

ends_behind : (xs ys : List Record) → spots_end ys ≤ spots_end (xs ++ ys)
ends_behind [] ys = omega arith
ends_behind (x ∷ xs) ys = let rest = ends_behind xs ys in omega (arith, rest)

-- where no row has the key, each is below or above it
ends_parts : (key : Key) (rows : List Record) (place : ℕ) → row_at key rows ≡ None → spots_end (filter (is_below key) rows) ≤ place → spots_end (filter (is_above key) rows) ≤ place → spots_end rows ≤ place
ends_parts key [] place none below above = omega arith
ends_parts key (row ∷ rows) place none below above = go (key_cmp (key_of row) key) (ends_parts key rows place) none below above
  where
    go : (o : Ordering) → (row_at key rows ≡ None → spots_end (filter (is_below key) rows) ≤ place → spots_end (filter (is_above key) rows) ≤ place → spots_end rows ≤ place)
        → cond (is_eq o) (Some row) (row_at key rows) ≡ None → spots_end (cond (is_lt o) (row ∷ filter (is_below key) rows) (filter (is_below key) rows)) ≤ place
        → spots_end (cond (is_gt o) (row ∷ filter (is_above key) rows) (filter (is_above key) rows)) ≤ place → spots_end (row ∷ rows) ≤ place
    go Less rest none below above = let le = rest none (omega (arith, below)) above in omega (arith, below, le)
    go Equal rest none below above = absurd cc
    go Greater rest none below above = let le = rest none below (omega (arith, above)) in omega (arith, above, le)

-- the row of a revision is put, and neither replaced nor removed
abbrev IsPutIfRev : Op → Record → Type 0
IsPutIfRev op (RevRow row) = op ≡ Put
IsPutIfRev op _ = Unit {0}

ends_put : (rows : List Record) (row : Record) → row_at (key_of row) rows ≡ None → spots_end rows ≤ spots_end (changed_once rows (record { op = Put; row = row }))
ends_put rows row none =
    let below = filter (is_below (key_of row)) rows in
    let above = filter (is_above (key_of row)) rows in
    let front = ends_front below ((row ∷ []) ++ above) in
    let last = ends_behind (row ∷ []) above in
    let behind = ends_behind below ((row ∷ []) ++ above) in
    ends_parts (key_of row) rows (spots_end (below ++ ((row ∷ []) ++ above))) none front (omega (arith, last, behind))

ends_in : (rows : AllRows) (op : Op) (row : Record) → FitsIn rows (record { op = op; row = row }) → IsPutIfRev op row → spots_end (rows Rev) ≤ spots_end (changed_in rows (record { op = op; row = row }) Rev)
ends_in rows op (RevRow row) fits put =
    let none : row_at (key_of (RevRow row)) (rows Rev) ≡ None = subst (λ (o : Op). FitsAt o (RevRow row) (row_at (key_of (RevRow row)) (rows Rev))) put fits.at_key in
    subst (λ (o : Op). spots_end (rows Rev) ≤ spots_end (changed_once (rows Rev) (record { op = o; row = RevRow row }))) (sym put) (ends_put (rows Rev) (RevRow row) none)
ends_in rows op _ fits put = omega arith

ends_by : (rows : AllRows) (changes : List Change) → AllFitIn rows changes → AllByRecursion (λ (change : Change). IsPutIfRev change.op change.row) changes → spots_end (rows Rev) ≤ spots_end (changed_by rows changes Rev)
ends_by rows [] fits puts = omega arith
ends_by rows (change ∷ changes) fits puts =
    let one = ends_in rows change.op change.row fits.0 puts.0 in
    let rest = ends_by (changed_in rows change) changes fits.1 puts.1 in
    omega (arith, one, rest)

-- ---- a revision stays

stays_once : (deed : Deed) (d : List Deed) (path : List ℕ) (n : ℕ) (r : Revision) → revision d path n ≡ Some r → revision (deed ∷ d) path n ≡ Some r
stays_once deed d path zero r is = absurd cc
stays_once (Land landing) d path (suc n) r is = get_left (revisions d path) (entries_at path landing) n r is
stays_once _ d path (suc n) r is = is

revision_stays : (deeds d : List Deed) (path : List ℕ) (n : ℕ) (r : Revision) → revision d path n ≡ Some r → revision (after d deeds) path n ≡ Some r
revision_stays [] d path n r is = is
revision_stays (deed ∷ deeds) d path n r is = revision_stays deeds (deed ∷ d) path n r (stays_once deed d path n r is)

abbrev none : Option Record
none = None

at_path_stays : (text : List ℕ) (f g : List ℕ → Option Record) → ((path : List ℕ) (r : Record) → f path ≡ Some r → g path ≡ Some r) → (r : Record) → at_path text f ≡ Some r → at_path text g ≡ Some r
at_path_stays text f g stays r is = go (path_of text) is
  where
    by_test : (b : Bool) (path : List ℕ) → cond b (f path) none ≡ Some r → cond b (g path) none ≡ Some r
    by_test true path e = stays path r e
    by_test false path e = absurd cc

    go : {F : Type 0} (q : Result (List ℕ) F) → (elim q [ Err fault ↦ none | Ok path ↦ cond (same (printed path) text) (f path) none ]) ≡ Some r
        → (elim q [ Err fault ↦ none | Ok path ↦ cond (same (printed path) text) (g path) none ]) ≡ Some r
    go (Err fault) e = absurd cc
    go (Ok path) e = by_test (same (printed path) text) path e

row_stays : (deeds d : List Deed) (text : List ℕ) (n : ℕ) (r : Record) → record_of d (keys.Rev text n) ≡ Some r → record_of (after d deeds) (keys.Rev text n) ≡ Some r
row_stays deeds d text n r is =
    at_path_stays text (λ path. option_map (rev_record n) (revision d path n)) (λ path. option_map (rev_record n) (revision (after d deeds) path n)) (λ path row e. go path row (revision d path n) refl e) r is
  where
    go : (path : List ℕ) (row : Record) (o : Option Revision) → revision d path n ≡ o → option_map (rev_record n) o ≡ Some row → option_map (rev_record n) (revision (after d deeds) path n) ≡ Some row
    go path row None at e = absurd cc
    go path row (Some v) at e = ap (option_map (rev_record n)) (revision_stays deeds d path n v at) ∙ e

-- ---- so its row is put once

module _ (rows : AllRows) (d deeds : List Deed) (changes : List Change) (has : HasRows rows d Rev) (differences : AreDifferences rows d (after d deeds) changes) where
  lead_puts : (change : Change) (key : Key) → ((r : Record) → record_of d key ≡ Some r → record_of (after d deeds) key ≡ Some r) → (old new : Option Record) → option_map unplaced old ≡ record_of d key
      → record_of (after d deeds) key ≡ new → LeadsTo old new (Some change) → change.op ≡ Put
  lead_puts change key stays None None was now lead = absurd cc
  lead_puts change key stays None (Some r) was now lead = lead.0
  lead_puts change key stays (Some old) None was now lead = let still = sym (stays (unplaced old) (sym was)) ∙ now in absurd cc
  lead_puts change key stays (Some old) (Some r) was now lead =
      let still : Some (unplaced old) ≡ Some r = sym (stays (unplaced old) (sym was)) ∙ now in
      let one : unplaced old ≡ r = cc in
      absurd (lead.0 one)

  row_put : (op : Op) (row : Record) → change_at changes (key_of row) ≡ Some (record { op = op; row = row }) → IsPutIfRev op row
  row_put op (RevRow row) own =
      let key = key_of (RevRow row) in
      lead_puts (record { op = op; row = RevRow row }) key (row_stays deeds d row.path row.rev) (row_in rows key) (record_of (after d deeds) key) (has key refl) refl
      (subst (LeadsTo (row_in rows key) (record_of (after d deeds) key)) own (differences.each key has))
  row_put op _ own = tt

  rows_put : (some : List Change) → AllByRecursion (λ (change : Change). change_at changes (changed_key change) ≡ Some change) some → AllByRecursion (λ (change : Change). IsPutIfRev change.op change.row) some
  rows_put [] own = tt
  rows_put (change ∷ some) own = (row_put change.op change.row own.0, rows_put some own.1)

  pub ends_rise : spots_end (rows Rev) ≤ spots_end (changed_by rows changes Rev)
  ends_rise = ends_by rows changes differences.fit (rows_put changes (own_change changes differences.rising))
