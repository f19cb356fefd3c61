-- The next versions of held tables.
use Rattle.std.proofs.Common.{◌≡◌, ℕ, Bool, true, false, List, [], ◌∷◌, Option, Some, None, IfSome, refl, sym, ap, subst, ◌∙◌}
use Rattle.std.specs.Prelude.{◌==◌, ◌||◌, ◌&&◌, if◌then◌else◌}
use Rattle.std.proofs.Math.Bool.{and-false}
use Rattle.std.proofs.lemmas.Bool.{eqb-true, eq-eqb, true≢false, false≢true}
use Rattle.depot_model.specs.db_records.Record.{table_of}
use Rattle.depot_model.specs.db_records.Table.{table_number}
use Rattle.depot_model.specs.db_records.declared.change.Change.{Change}
use Rattle.depot_model.specs.db_records.declared.record.Record.{Record}
use Rattle.depot_model.specs.db_records.declared.table.TableId.{TableId}
use Rattle.locked_tables.specs.Held.{AllNext, IsNext, OnlyChange, known_of, lane_next, lanes_next, table_held}
use Rattle.locked_tables.specs.Known.{TableKnown}
use Rattle.locked_tables.specs.Taken.{rows_after}
use Rattle.locked_tables.specs.declared.held_table.HeldTable.{HeldTable}
use Rattle.locked_tables.proofs.Rows.{changed_alike}
use Rattle.order_words.specs.Lanes.{is_among}
use Rattle.table_changes.specs.Changed.{AllRows, changed_by, changed_in}
use Rattle.table_changes.specs.table_store.Rows.{TableRows, changed_once}
use Rattle.table_locks.specs.Confirmed.{tables_of}
use Rattle.table_locks.specs.Gathered.{AllHeldSeen, HasSeen}
use Rattle.table_locks.specs.Prepared.{AllFollow, Follows, are_held, is_changed, is_held, next_of}
use Rattle.table_locks.proofs.Tables.{same_number}

and_kept : (a b : Bool) → (a ≡ true → b ≡ true) → (a && b) ≡ a
and_kept true b h = h refl
and_kept false b h = refl

eq_turned : (a b : ℕ) (c : Bool) → (a == b) ≡ c → (b == a) ≡ c
eq_turned a b true e = eq-eqb b a (sym (eqb-true a b e))
eq_turned a b false e = go (b == a) refl
  where
    go : (d : Bool) → (b == a) ≡ d → d ≡ false
    go true is = absurd (true≢false (sym (eq-eqb a b (sym (eqb-true b a is))) ∙ e))
    go false is = refl

-- a table of which no row changes stays as it is
pub changed_apart : (table : TableId) (changes : List Change) (rows : AllRows) → is_changed changes table ≡ false → changed_by rows changes table ≡ rows table
changed_apart table [] rows e = refl
changed_apart table (change ∷ changes) rows e = go (table_number (table_of change.row) == table_number table) refl e (λ h. changed_apart table changes (changed_in rows change) h)
  where
    go : (b : Bool) → (table_number (table_of change.row) == table_number table) ≡ b → (b || is_changed changes table) ≡ false → (is_changed changes table ≡ false → changed_by (changed_in rows change) changes table ≡ changed_in rows change table) → changed_by (changed_in rows change) changes table ≡ rows table
    go true is h rest = absurd (true≢false h)
    go false is h rest =
        rest h
        ∙ ap (λ (b : Bool). if b then changed_once (rows table) change else rows table) (eq_turned (table_number (table_of change.row)) (table_number table) false is)

-- the version that is to follow is the table after the changes
abbrev FollowsIn : List Change → AllRows → Option TableRows → TableKnown → Type 0
FollowsIn changes start next known = IfSome next (λ v. v ≡ record { table = known.table; rows = changed_by (rows_after start known.list) changes known.table })

next_in : (changes : List Change) (after start rows : AllRows) → after ≡ changed_by rows changes → (known : TableKnown) → HasSeen start rows known → (b : Bool)
    → FollowsIn changes start (if b then Some (record { table = known.table; rows = after known.table }) else None) known
next_in changes after start rows made known seen true =
    let left : after known.table ≡ changed_by (rows_after start known.list) changes known.table = ap (λ (r : AllRows). r known.table) made ∙ changed_alike known.table changes rows (rows_after start known.list) seen in
    ap (λ (r : List Record). record { table = known.table; rows = r }) left
next_in changes after start rows made known seen false = tt

module _ {N : Type 0} (changes : List Change) where
  -- where the table of each change is held, so is each of which a row changes
  pub held_changed : (held : List (HeldTable N)) (table : TableId) (some : List Change) → are_held held some ≡ true → is_changed some table ≡ true → is_held held table ≡ true
  held_changed held table [] all e = absurd (false≢true e)
  held_changed held table (change ∷ some) all e = go (table_number (table_of change.row) == table_number table) (is_held held (table_of change.row)) refl refl all e (λ rest more. held_changed held table some rest more)
    where
      go : (b h : Bool) → (table_number (table_of change.row) == table_number table) ≡ b → is_held held (table_of change.row) ≡ h → (h && are_held held some) ≡ true → (b || is_changed some table) ≡ true → (are_held held some ≡ true → is_changed some table ≡ true → is_held held table ≡ true) → is_held held table ≡ true
      go true true is has rest e on = ap (is_held held) (sym (same_number (table_of change.row) table (eqb-true (table_number (table_of change.row)) (table_number table) is))) ∙ has
      go false true is has rest e on = on rest e
      go true false is has rest e on = absurd (false≢true rest)
      go false false is has rest e on = absurd (false≢true rest)

  module _ (after : AllRows) where
    -- the lanes of the next versions are those of the held tables of which a row changes
    lanes_are : (olds news : List (HeldTable N)) → AllFollow after changes olds news → (table : TableId) → is_among (table_number table) (lanes_next news) ≡ (is_changed changes table && is_held olds table)
    lanes_are [] [] follow table = sym (and-false (is_changed changes table))
    lanes_are [] (n ∷ news) follow table = absurd follow
    lanes_are (o ∷ olds) [] follow table = absurd follow
    lanes_are (o ∷ olds) (n ∷ news) follow table =
        let lanes : lanes_next (n ∷ news) ≡ lane_next (next_of after changes (table_held o)) (table_held o) (lanes_next news) = λ i. lane_next (follow.0.next i) (follow.0.known i).table (lanes_next news) in
        ap (is_among (table_number table)) lanes ∙ go (is_changed changes (table_held o)) (table_number (table_held o) == table_number table) refl refl (lanes_are olds news follow.1 table)
      where
        go : (c b : Bool) → is_changed changes (table_held o) ≡ c → (table_number (table_held o) == table_number table) ≡ b
            → is_among (table_number table) (lanes_next news) ≡ (is_changed changes table && is_held olds table)
            → is_among (table_number table) (lane_next (if c then Some (record { table = table_held o; rows = after (table_held o) }) else None) (table_held o) (lanes_next news)) ≡ (is_changed changes table && (b || is_held olds table))
        go true true has is rest =
            let same = same_number (table_held o) table (eqb-true (table_number (table_held o)) (table_number table) is) in
            ap (λ (z : Bool). z || is_among (table_number table) (lanes_next news)) (eq_turned (table_number (table_held o)) (table_number table) true is)
            ∙ sym (ap (λ (z : Bool). z && true) (ap (is_changed changes) (sym same) ∙ has))
        go true false has is rest = ap (λ (z : Bool). z || is_among (table_number table) (lanes_next news)) (eq_turned (table_number (table_held o)) (table_number table) false is) ∙ rest
        go false true has is rest =
            let same = same_number (table_held o) table (eqb-true (table_number (table_held o)) (table_number table) is) in
            let none : is_changed changes table ≡ false = ap (is_changed changes) (sym same) ∙ has in
            rest ∙ (ap (λ (z : Bool). z && is_held olds table) none ∙ sym (ap (λ (z : Bool). z && true) none))
        go false false has is rest = rest

    pub lanes_exact : (olds news : List (HeldTable N)) → AllFollow after changes olds news → are_held olds changes ≡ true → (table : TableId) → is_among (table_number table) (lanes_next news) ≡ is_changed changes table
    lanes_exact olds news follow all table = lanes_are olds news follow table ∙ and_kept (is_changed changes table) (is_held olds table) (held_changed olds table changes all)

    -- no other tables change
    pub only_next : (olds news : List (HeldTable N)) → AllFollow after changes olds news → are_held olds changes ≡ true → OnlyChange changes (lanes_next news)
    only_next olds news follow all = λ table none rows. changed_apart table changes rows (sym (lanes_exact olds news follow all table) ∙ none)

    -- the tables are held still
    pub tables_follow : (olds news : List (HeldTable N)) → AllFollow after changes olds news → tables_of news ≡ tables_of olds
    tables_follow [] [] follow = refl
    tables_follow [] (n ∷ news) follow = absurd follow
    tables_follow (o ∷ olds) [] follow = absurd follow
    tables_follow (o ∷ olds) (n ∷ news) follow = λ i. (follow.0.known i).table ∷ tables_follow olds news follow.1 i

    module _ (start rows : AllRows) (made : after ≡ changed_by rows changes) where
      next_one : (old new : HeldTable N) → Follows after changes old new → HasSeen start rows (known_of old) → IsNext start changes new
      next_one old new follow seen =
          subst (λ (next : Option TableRows). FollowsIn changes start next (known_of new)) (sym follow.next)
          (subst (FollowsIn changes start (next_of after changes (table_held old))) (sym follow.known) (next_in changes after start rows made (known_of old) seen (is_changed changes (table_held old))))

      -- each next version is the table after the changes
      pub all_next : (olds news : List (HeldTable N)) → AllFollow after changes olds news → AllHeldSeen start rows olds → AllNext start changes news
      all_next [] [] follow seen = tt
      all_next [] (n ∷ news) follow seen = absurd follow
      all_next (o ∷ olds) [] follow seen = absurd follow
      all_next (o ∷ olds) (n ∷ news) follow seen = (next_one o n follow.0 seen.0, all_next olds news follow.1 seen.1)
