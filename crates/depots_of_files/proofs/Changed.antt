-- The rows that files hold have a text, so no line of the protections has the number 0.
use Rattle.std.proofs.Common.{◌≡◌, ◌⊎◌, Bool, true, false, List, [], ◌∷◌, ◌++◌, Option, Some, None, inl, inr, refl, subst, arith}
use Rattle.std.specs.Prelude.{if◌then◌else◌, ◌==◌, option_map, filter}
use Rattle.std.specs.List.{AllByRecursion}
use Rattle.depot_rows.specs.db_records.Record.{key_of, table_of}
use Rattle.depot_rows.specs.db_records.Table.{table_number}
use Rattle.depot_rows.specs.db_records.declared.change.Change.{Change}
use Rattle.depot_rows.specs.db_records.declared.change.Op.{Op}
use Rattle.depot_rows.specs.db_records.declared.change.Op.TheVariants.{Put, Replace, Remove}
use Rattle.depot_rows.specs.db_records.declared.key.Key.TheVariants as keys
use Rattle.depot_rows.specs.db_records.declared.record.Record.{Record}
use Rattle.depot_rows.specs.db_records.declared.record.Record.TheVariants as records
use Rattle.depot_rows.specs.db_records.declared.table.TableId.{TableId}
use Rattle.depot_rows.specs.db_records.declared.table.TableId.TheVariants as tables
use Rattle.depot_rows.specs.table_store.Rows.{is_at, is_below, is_above, row_at, changed_once, left_by}
use Rattle.depot_rows.specs.table_changes.Changed.{AllRows, changed_by, changed_in, no_rows}
use Rattle.depot_rows.specs.depot_model.Records.{unplaced}
use Rattle.depot_rows.specs.Standing.{unplaced_at}
use Rattle.depot_rows.proofs.Entries.{In}
use Rattle.depot_rows.proofs.Keys.{at-is}
use Rattle.depot_facts.proofs.Listed.{in_append, in_filter, in_flat, found_in}
use Rattle.journal_groups.specs.Groups.{IsGroup}
use Rattle.record_text.specs.Grammar.{IsRecord}
use Rattle.disk_journal.specs.Images.{Committed}
use Rattle.recovery.specs.Holding.{HasAllRows, joined}

-- a row after a change was there, or is the change's
in_once : (rows : List Record) (change : Change) (r : Record) → In (changed_once rows change) r → In rows r ⊎ (change.row ≡ r)
in_once rows change r h = go (in_append below (left ++ above) r h)
  where
    below : List Record
    below = filter (is_below (key_of change.row)) rows

    above : List Record
    above = filter (is_above (key_of change.row)) rows

    left : List Record
    left = left_by change.op change.row

    of_left : (op : Op) → In (left_by op change.row) r → change.row ≡ r
    of_left Put (inl e) = e
    of_left Put (inr h) = absurd h
    of_left Replace (inl e) = e
    of_left Replace (inr h) = absurd h
    of_left Remove h = absurd h

    behind : In left r ⊎ In above r → In rows r ⊎ (change.row ≡ r)
    behind (inl k) = inr (of_left change.op k)
    behind (inr k) = inl (in_filter (is_above (key_of change.row)) rows r k).0

    go : In below r ⊎ In (left ++ above) r → In rows r ⊎ (change.row ≡ r)
    go (inl k) = inl (in_filter (is_below (key_of change.row)) rows r k).0
    go (inr k) = behind (in_append left above r k)

-- a change that has the row
abbrev Changes : List Change → Record → Type 0
Changes changes r = (change : Change) × (In changes change × (change.row ≡ r))

in_changed : (rows : AllRows) (changes : List Change) (table : TableId) (r : Record) → In (changed_by rows changes table) r → In (rows table) r ⊎ Changes changes r
in_changed rows [] table r h = inl h
in_changed rows (change ∷ changes) table r h = go (in_changed (changed_in rows change) changes table r h)
  where
    first : (b : Bool) → In (if b then changed_once (rows table) change else rows table) r → In (rows table) r ⊎ (change.row ≡ r)
    first true k = in_once (rows table) change r k
    first false k = inl k

    whole : In (rows table) r ⊎ (change.row ≡ r) → In (rows table) r ⊎ Changes (change ∷ changes) r
    whole (inl k) = inl k
    whole (inr e) = inr (change, (inl refl, e))

    go : In (changed_in rows change table) r ⊎ Changes changes r → In (rows table) r ⊎ Changes (change ∷ changes) r
    go (inl k) = whole (first (table_number table == table_number (table_of change.row)) k)
    go (inr k) = inr (k.0, (inr k.1.0, k.1.1))

pub all_in : {A : Type 0} (P : A → Type 0) (xs : List A) (x : A) → AllByRecursion P xs → In xs x → P x
all_in P [] x all h = absurd h
all_in P (y ∷ ys) x all (inl e) = subst P e all.0
all_in P (y ∷ ys) x all (inr h) = all_in P ys x all.1 h

module _ (was : Committed) (rows : AllRows) (has : HasAllRows was rows) where
  change_is_record : (change : Change) → In (has.puts ++ joined has.groups) change → IsRecord change.row
  change_is_record change h = go (in_append has.puts (joined has.groups) change h)
    where
      in_group : (group : List Change) → In (has.puts ∷ has.groups) group → In group change → IsRecord change.row
      in_group group h k = all_in (λ (c : Change). IsRecord c.row) group change (all_in IsGroup (has.puts ∷ has.groups) group has.are.are_groups h).0 k

      go : In has.puts change ⊎ In (joined has.groups) change → IsRecord change.row
      go (inl k) = in_group has.puts (inl refl) k
      go (inr k) =
          let group = in_flat (λ (changes : List Change). changes) has.groups change k in
          in_group group.0 (inr group.1.0) group.1.1

  row_is_record : (table : TableId) (r : Record) → In (rows table) r → IsRecord r
  row_is_record table r h = go (in_changed no_rows (has.puts ++ joined has.groups) table r (subst (λ (rs : List Record). In rs r) (has.rows_are table) h))
    where
      go : In (no_rows table) r ⊎ Changes (has.puts ++ joined has.groups) r → IsRecord r
      go (inl k) = absurd k
      go (inr k) = subst IsRecord k.1.1 (change_is_record k.0 k.1.0)

  pub no_line_zero : unplaced_at (rows tables.Protect) (keys.Protect 0) ≡ None
  no_line_zero = go (row_at (keys.Protect 0) (rows tables.Protect)) refl
    where
      never : (r : Record) → key_of r ≡ keys.Protect 0 → IsRecord r → ⊥
      never (records.Protect x) e record_is = let number : x.line ≡ 0 = cc in let low = record_is.0.0.0 in omega (arith, low, number)
      never (records.Counter x) e record_is = cc
      never (records.Group x) e record_is = cc
      never (records.Domain x) e record_is = cc
      never (records.Have x) e record_is = cc
      never (records.Label x) e record_is = cc
      never (records.Integed x) e record_is = cc
      never (records.Resolve x) e record_is = cc
      never (records.Working x) e record_is = cc
      never (records.Change x) e record_is = cc
      never (records.Rev x) e record_is = cc

      go : (o : Option Record) → row_at (keys.Protect 0) (rows tables.Protect) ≡ o → option_map unplaced o ≡ None
      go None e = refl
      go (Some r) e =
          let f = found_in (is_at (keys.Protect 0)) (rows tables.Protect) r e in
          absurd (never r (at-is (key_of r) (keys.Protect 0) f.1) (row_is_record tables.Protect r f.0))
