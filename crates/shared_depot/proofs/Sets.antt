-- The tables that are held are of the request's set.
use Rattle.std.proofs.Common.{◌≡◌, Bool, true, false, cond, List, [], ◌∷◌, refl, sym, ap, ◌∙◌}
use Rattle.std.specs.Prelude.{◌&&◌, ◌||◌, filter}
use Rattle.std.specs.List.{list_any}
use Rattle.std.proofs.lemmas.Bool.{eqb-true, true≢false, and_parts}
use Rattle.command_needs.specs.Sets.{AreOfWords, has_table}
use Rattle.command_needs.specs.declared.needs.Needs.{Needs}
use Rattle.depot_rows.specs.db_records.Record.{table_of}
use Rattle.depot_rows.specs.db_records.Table.{all_tables, table_number}
use Rattle.depot_rows.specs.db_records.declared.change.Change.{Change}
use Rattle.depot_rows.specs.db_records.declared.table.TableId.{TableId}
use Rattle.depot_rows.specs.depot_model.Tables.{needs_table}
use Rattle.depot_rows.specs.depot_model.declared.request.Request.{Request}
use Rattle.locked_tables.specs.Held.{table_held}
use Rattle.locked_tables.specs.declared.held_table.HeldTable.{HeldTable}
use Rattle.needed_tables.specs.Needed.{AreNeeded}
use Rattle.table_locks.proofs.Sets.{needs_same}
use Rattle.table_locks.proofs.Tables.{any-map, is_table, same_number}
use Rattle.table_locks.specs.Gathered.{tables_held}
use Rattle.table_locks.specs.Prepared.{are_held, is_held}
use Rattle.table_locks.specs.Ways.{holds_table}
use Rattle.table_locks.specs.declared.gathered.Gathered.{Gathered}

module _ {X : Type 0} (same p : X → Bool) (Q : Type 0) (found : (x : X) → same x ≡ true → p x ≡ true → Q) where
  -- what is found among those that pass a test is found at one that passes it
  from_filter : (xs : List X) → list_any same (filter p xs) ≡ true → Q
  from_filter [] e = absurd (true≢false (sym e))
  from_filter (x ∷ xs) e = go (p x) refl e (λ h. from_filter xs h)
    where
      here : p x ≡ true → (s : Bool) → same x ≡ s → (s || list_any same (filter p xs)) ≡ true → (list_any same (filter p xs) ≡ true → Q) → Q
      here passes true is h rest = found x is passes
      here passes false is h rest = rest h

      go : (b : Bool) → p x ≡ b → list_any same (cond b (x ∷ filter p xs) (filter p xs)) ≡ true → (list_any same (filter p xs) ≡ true → Q) → Q
      go true passes h rest = here passes (same x) refl h rest
      go false fails h rest = rest h

module _ {N : Type 0} (g : Gathered N) (whole : Bool) (needs : Needs) (held : tables_held g ≡ filter (holds_table whole needs) all_tables) (request : Request) (set : AreOfWords request.command needs) where
  -- a held table is one of the set
  in_set : (table : TableId) → is_held g.held.items table ≡ true → needs_table request.command table ≡ true
  in_set table has = needed (from_filter (is_table table) (holds_table whole needs) (holds_table whole needs table ≡ true) (λ x is holds. ap (holds_table whole needs) (sym (same_table x is)) ∙ holds) all_tables among)
    where
      same_table : (x : TableId) → is_table table x ≡ true → x ≡ table
      same_table x is = same_number x table (eqb-true (table_number x) (table_number table) is)

      among : list_any (is_table table) (filter (holds_table whole needs) all_tables) ≡ true
      among = ap (list_any (is_table table)) (sym held) ∙ (any-map (is_table table) (λ (h : HeldTable N). table_held h) g.held.items ∙ has)

      taken : (w whole r : Bool) → (w || (whole && r)) ≡ true → (r || w) ≡ true
      taken true whole true e = refl
      taken true whole false e = refl
      taken false true true e = refl
      taken false true false e = absurd (true≢false (sym e))
      taken false false r e = absurd (true≢false (sym e))

      needed : holds_table whole needs table ≡ true → needs_table request.command table ≡ true
      needed holds = sym (needs_same needs request.command set table) ∙ taken (has_table needs.writes table) whole (has_table needs.reads table) holds

  -- changes of held tables are of tables of the set
  pub changes_in_set : (changes : List Change) → are_held g.held.items changes ≡ true → AreNeeded request changes
  changes_in_set [] all = tt
  changes_in_set (c ∷ cs) all = (
    in_set (table_of c.row) (and_parts (is_held g.held.items (table_of c.row)) (are_held g.held.items cs) all).0,
    changes_in_set cs (and_parts (is_held g.held.items (table_of c.row)) (are_held g.held.items cs) all).1,
  )
