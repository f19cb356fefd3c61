-- What was gathered has the set of a request.
use Rattle.std.proofs.Common.{◌≡◌, Bool, true, false, not, Result, Ok, Err, refl, sym, ap, ◌∙◌}
use Rattle.std.specs.Prelude.{◌||◌, ◌&&◌, filter}
use Rattle.std.specs.List.{list_any}
use Rattle.std.proofs.lemmas.Bool.{or_left, or_right}
use Rattle.command_needs.specs.Sets.{AreOfWords, needs_table}
use Rattle.command_needs.specs.declared.needs.Needs.{Needs}
use Rattle.depot_model.specs.db_records.Table.{all_tables}
use Rattle.depot_model.specs.db_records.declared.table.TableId.{TableId}
use Rattle.depot_model.specs.Tables as model
use Rattle.depot_model.specs.declared.command.Command.{Command}
use Rattle.depot_model.specs.declared.request.Request.{Request}
use Rattle.depot_model.specs.declared.request.WordFault.{WordFault}
use Rattle.locked_tables.specs.Held.{known_of, table_held}
use Rattle.locked_tables.specs.Known.{TableKnown}
use Rattle.locked_tables.specs.declared.held_table.HeldTable.{HeldTable}
use Rattle.table_locks.specs.Gathered.{Covers, has_table, is_of, tables_held, tables_seen}
use Rattle.table_locks.specs.Ways.{holds_table, looks_at}
use Rattle.table_locks.specs.declared.gathered.Gathered.{Gathered}
use Rattle.table_locks.proofs.Tables.{among_passing, any-map, in_all, is_table}

-- a table is needed where the request needs it
pub needs_same : (needs : Needs) (asked : Result Command WordFault) → AreOfWords asked needs → (table : TableId) → needs_table needs table ≡ model.needs_table asked table
needs_same needs (Ok command) are table = λ i. are.reads table i || are.writes table i
needs_same needs (Err fault) are table = λ i. are.reads table i || are.writes table i

module _ {N : Type 0} (g : Gathered N) (table : TableId) where
  -- a table is held, or was looked at, where it is among those
  pub held_by : list_any (λ (h : HeldTable N). is_of table (known_of h)) g.held.items ≡ list_any (is_table table) (tables_held g)
  held_by = sym (any-map (is_table table) (λ (h : HeldTable N). table_held h) g.held.items)

  pub seen_by : list_any (is_of table) g.peeks.items ≡ list_any (is_table table) (tables_seen g)
  seen_by = sym (any-map (is_table table) (λ (known : TableKnown). known.table) g.peeks.items)

module _ {N : Type 0} (g : Gathered N) (whole : Bool) (needs : Needs) (held : tables_held g ≡ filter (holds_table whole needs) all_tables) (seen : tables_seen g ≡ filter (looks_at whole needs) all_tables) where
  passes : (p : TableId → Bool) (table : TableId) → p table ≡ true → list_any (is_table table) (filter p all_tables) ≡ true
  passes p table has = among_passing p table all_tables ∙ (λ i. has i && in_all table i)

  in_held : (table : TableId) → holds_table whole needs table ≡ true → list_any (λ (h : HeldTable N). is_of table (known_of h)) g.held.items ≡ true
  in_held table has = held_by g table ∙ (ap (list_any (is_table table)) held ∙ passes (holds_table whole needs) table has)

  in_seen : (table : TableId) → looks_at whole needs table ≡ true → list_any (is_of table) g.peeks.items ≡ true
  in_seen table has = seen_by g table ∙ (ap (list_any (is_table table)) seen ∙ passes (looks_at whole needs) table has)

  -- a table of the set is held or seen
  has_needed : (table : TableId) → needs_table needs table ≡ true → has_table g table ≡ true
  has_needed table need = go (holds_table whole needs table) refl
    where
      go : (b : Bool) → holds_table whole needs table ≡ b → has_table g table ≡ true
      go true e = or_left (list_any (λ (h : HeldTable N). is_of table (known_of h)) g.held.items) (list_any (is_of table) g.peeks.items) (in_held table e)
      go false e = or_right (list_any (λ (h : HeldTable N). is_of table (known_of h)) g.held.items) (list_any (is_of table) g.peeks.items)
          (in_seen table (let looks : looks_at whole needs table ≡ true = λ i. need i && not (e i) in looks))

  -- what was gathered has each table of the set
  pub covers : (request : Request) → AreOfWords request.command needs → Covers g request
  covers request set = λ table touched. has_needed table (needs_same needs request.command set table ∙ touched)
