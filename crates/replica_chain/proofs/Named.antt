-- The contents of rows after changes, by those that the changes name, and what bytes say of contents that have the same ones at the front.
use Rattle.std.proofs.Common.{◌≡◌, ℕ, zero, suc, ◌+◌, ◌≤◌, ◌<◌, get_or, Bool, true, false, cond, eqb, List, [], ◌∷◌, ◌++◌, length, take, drop, refl, sym, ap, subst, ◌∙◌, append_assoc, arith}
use Rattle.std.proofs.lemmas.List.{take-append-drop, take_all, take_more}
use Rattle.std.specs.List.{AllByRecursion, filter}
use Rattle.depot_rows.specs.db_records.Record.{key_of, table_of}
use Rattle.depot_rows.specs.db_records.Table.{table_number}
use Rattle.depot_rows.specs.db_records.declared.change.Change.{Change}
use Rattle.depot_rows.specs.db_records.declared.change.Op.{Op}
use Rattle.depot_rows.specs.db_records.declared.change.Op.TheVariants.{Put, Replace, Remove}
use Rattle.depot_rows.specs.db_records.declared.record.Record.{Record}
use Rattle.depot_rows.specs.db_records.declared.record.Record.TheVariants.{Rev as RevRow}
use Rattle.depot_rows.specs.db_records.declared.rows.RevRecord.{RevRecord}
use Rattle.depot_rows.specs.db_records.declared.table.TableId.TheVariants.{Rev}
use Rattle.depot_rows.specs.table_changes.Changed.{AllRows, changed_by, changed_in}
use Rattle.depot_rows.specs.table_store.Rows.{changed_once, is_above, is_below, left_by}
use Rattle.recovery.specs.Contents.{AreWhole, HasDigested, IsWhole}
use Rattle.recovery.specs.Holding.{spot_end, spots_end}
use Rattle.replica_chain.specs.Copying.{HasAllNamed, HasNamed, named_end, named_ends}
use Rattle.replica_chain.proofs.Chains.{same_at}
use Rattle.recovery.proofs.OneGroup.{all-push}
use Rattle.replica_chain.proofs.Spots.{revision_end}

-- ---- rows after changes

module _ (P : Record → Type 0) where
  all_append : (xs ys : List Record) → AllByRecursion P xs → AllByRecursion P ys → AllByRecursion P (xs ++ ys)
  all_append [] ys first second = second
  all_append (x ∷ xs) ys first second = (first.0, all_append xs ys first.1 second)

  all_filter : (test : Record → Bool) (xs : List Record) → AllByRecursion P xs → AllByRecursion P (filter test xs)
  all_filter test [] all = tt
  all_filter test (x ∷ xs) all = go (test x) (all_filter test xs all.1)
    where
      go : (b : Bool) → AllByRecursion P (filter test xs) → AllByRecursion P (cond b (x ∷ filter test xs) (filter test xs))
      go true rest = (all.0, rest)
      go false rest = rest

  all_once : (rows : List Record) (change : Change) → AllByRecursion P rows → AllByRecursion P (left_by change.op change.row) → AllByRecursion P (changed_once rows change)
  all_once rows change all put =
      all_append (filter (is_below (key_of change.row)) rows) (left_by change.op change.row ++ filter (is_above (key_of change.row)) rows)
      (all_filter (is_below (key_of change.row)) rows all)
      (all_append (left_by change.op change.row) (filter (is_above (key_of change.row)) rows) put (all_filter (is_above (key_of change.row)) rows all))

  all_changed : (rows : AllRows) (changes : List Change) → AllByRecursion P (rows Rev) → AllByRecursion (λ (change : Change). AllByRecursion P (left_by change.op change.row)) changes → AllByRecursion P (changed_by rows changes Rev)
  all_changed rows [] all puts = all
  all_changed rows (change ∷ changes) all puts =
      all_changed (changed_in rows change) changes (go (eqb (table_number Rev) (table_number (table_of change.row)))) puts.1
    where
      go : (b : Bool) → AllByRecursion P (cond b (changed_once (rows Rev) change) (rows Rev))
      go true = all_once (rows Rev) change all puts.0
      go false = all

-- ---- where their spots end

ends_of : (rows : List Record) (place : ℕ) → spots_end rows ≤ place → AllByRecursion (λ (row : Record). spot_end row ≤ place) rows
ends_of [] place le = tt
ends_of (row ∷ rows) place le = (omega (arith, le), ends_of rows place (omega (arith, le)))

of_ends : (rows : List Record) (place : ℕ) → AllByRecursion (λ (row : Record). spot_end row ≤ place) rows → spots_end rows ≤ place
of_ends [] place all = omega arith
of_ends (row ∷ rows) place all = let rest = of_ends rows place all.1 in let one = all.0 in omega (arith, one, rest)

left_end : (op : Op) (row : Record) (place : ℕ) → named_end op row ≤ place → AllByRecursion (λ (r : Record). spot_end r ≤ place) (left_by op row)
left_end Put row place le = (le, tt)
left_end Replace row place le = (le, tt)
left_end Remove row place le = tt

left_ends : (changes : List Change) (place : ℕ) → named_ends changes ≤ place → AllByRecursion (λ (change : Change). AllByRecursion (λ (r : Record). spot_end r ≤ place) (left_by change.op change.row)) changes
left_ends [] place le = tt
left_ends (change ∷ changes) place le = (left_end change.op change.row place (omega (arith, le)), left_ends changes place (omega (arith, le)))

-- no spot of the rows after changes ends behind those before and those that the changes name
pub ends_changed : (rows : AllRows) (changes : List Change) (place : ℕ) → spots_end (rows Rev) ≤ place → named_ends changes ≤ place → spots_end (changed_by rows changes Rev) ≤ place
ends_changed rows changes place le named =
    of_ends (changed_by rows changes Rev) place (all_changed (λ (row : Record). spot_end row ≤ place) rows changes (ends_of (rows Rev) place le) (left_ends changes place named))

-- ---- contents

put_whole : (file : List ℕ) (op : Op) (row : Record) → (op ≡ Remove → ⊥) → HasNamed file (record { op = op; row = row }) → IsWhole file row
put_whole file op (RevRow row) stays named = λ live. named row (record { of_revision = record { is = refl; stays = stays }; live = live })
put_whole file op _ stays named = tt

left_whole : (file : List ℕ) (op : Op) (row : Record) → HasNamed file (record { op = op; row = row }) → AreWhole file (left_by op row)
left_whole file Put row named = (put_whole file Put row (λ e. cc) named, tt)
left_whole file Replace row named = (put_whole file Replace row (λ e. cc) named, tt)
left_whole file Remove row named = tt

left_wholes : (file : List ℕ) (changes : List Change) → HasAllNamed file changes → AllByRecursion (λ (change : Change). AreWhole file (left_by change.op change.row)) changes
left_wholes file [] named = tt
left_wholes file (change ∷ changes) named = (left_whole file change.op change.row named.0, left_wholes file changes named.1)

-- where a file has the contents of the rows, and those that changes name, it has those of the rows after them
pub whole_changed : (file : List ℕ) (rows : AllRows) (changes : List Change) → AreWhole file (rows Rev) → HasAllNamed file changes → AreWhole file (changed_by rows changes Rev)
whole_changed file rows changes whole named = all_changed (IsWhole file) rows changes whole (left_wholes file changes named)

-- ---- bytes that are the same at the front

module _ (file other : List ℕ) (place : ℕ) (same : take place other ≡ take place file) (long : place ≤ length other) where
  digested_there : (row : RevRecord) → row.at + row.length ≤ place → HasDigested file row → HasDigested other row
  digested_there row le has = record {
    bytes = has.bytes;
    there = record { within = omega (arith, le, long); is = same_at file other place row.at row.length same le ∙ has.there.is };
    digested = has.digested;
  }

  row_there : (row : Record) → spot_end row ≤ place → IsWhole file row → IsWhole other row
  row_there (RevRow row) le whole = λ live. digested_there row le (whole live)
  row_there _ le whole = tt

  pub whole_there : (rows : List Record) → spots_end rows ≤ place → AreWhole file rows → AreWhole other rows
  whole_there [] le whole = tt
  whole_there (row ∷ rows) le whole = (row_there row (omega (arith, le)) whole.0, whole_there rows (omega (arith, le)) whole.1)

  named_at : (change : Change) → named_end change.op change.row ≤ place → HasNamed file change → HasNamed other change
  named_at change le named = λ row of. let end = revision_end change row of.of_revision in digested_there row (omega (arith, end, le)) (named row of)

  pub named_there : (changes : List Change) → named_ends changes ≤ place → HasAllNamed file changes → HasAllNamed other changes
  named_there [] le named = tt
  named_there (change ∷ changes) le named = (named_at change (omega (arith, le)) named.0, named_there changes (omega (arith, le)) named.1)

-- ---- changes one after another

-- a change names no spot that ends behind those of all
pub one_end : (changes : List Change) (i : ℕ) (change : Change) → i < length changes → change ≡ get_or changes i change → named_end change.op change.row ≤ named_ends changes
one_end [] i change within is = absurd (omega (arith, within))
one_end (x ∷ changes) zero change within is = let same : named_end change.op change.row ≡ named_end x.op x.row = ap (λ (c : Change). named_end c.op c.row) is in omega (arith, same)
one_end (x ∷ changes) (suc i) change within is = let rest = one_end changes i change (omega (arith, within)) is in omega (arith, rest)

pub named_more : (file : List ℕ) (changes : List Change) (i : ℕ) (change : Change) → i < length changes → change ≡ get_or changes i change → HasAllNamed file (take i changes) → HasNamed file change → HasAllNamed file (take (i + 1) changes)
named_more file changes i change within is all one =
    subst (HasAllNamed file) (sym (take_more changes i change within ∙ ap (λ (c : Change). take i changes ++ c ∷ []) (sym is))) (all-push (HasNamed file) (take i changes) change all one)

-- the change of a list that stands at a place, with those before and behind it
pub parts_at : (changes : List Change) (i : ℕ) (change : Change) → i < length changes → change ≡ get_or changes i change → changes ≡ take i changes ++ change ∷ drop (i + 1) changes
parts_at changes i change within is =
    sym (take-append-drop (i + 1) changes)
    ∙ ap (λ (l : List Change). l ++ drop (i + 1) changes) (take_more changes i change within ∙ ap (λ (c : Change). take i changes ++ c ∷ []) (sym is))
    ∙ append_assoc (take i changes) (change ∷ []) (drop (i + 1) changes)

pub named_all : (file : List ℕ) (changes : List Change) (i : ℕ) → length changes ≤ i → HasAllNamed file (take i changes) → HasAllNamed file changes
named_all file changes i le all = subst (HasAllNamed file) (take_all i changes le) all
