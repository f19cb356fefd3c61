-- The needs of a request as the list of its set.
use Rattle.std.proofs.Common.{◌≡◌, Bool, true, false, List, [], ◌∷◌, map, Result, Ok, Err, refl, ap, ◌∙◌}
use Rattle.std.specs.Prelude.{◌==◌, ◌||◌, ◌&&◌, cond, filter, slice_get, unwrap_or}
use Rattle.std.proofs.lemmas.Bool.{eqb-true}
use Rattle.std.proofs.lemmas.Map.Views.{any-filter_same}
use Rattle.depot_model.specs.Tables as model
use Rattle.depot_model.specs.Tables.{Need, is_in, need_for, needs_of, set_locks}
use Rattle.depot_model.specs.db_records.Table.{all_tables, table_number}
use Rattle.depot_model.specs.db_records.declared.table.TableId.{TableId}
use Rattle.depot_model.specs.db_records.declared.table.TableId.TheVariants as ids
use Rattle.depot_model.specs.declared.command.Command.{Command}
use Rattle.depot_model.specs.declared.lock.LockId.{LockId}
use Rattle.depot_model.specs.declared.lock.LockId.TheVariants.{Table, Archive, Journal}
use Rattle.depot_model.specs.declared.request.Request.{Request}
use Rattle.depot_model.specs.declared.request.WordFault.{WordFault}
use Rattle.command_needs.specs.Sets.{AreNone, AreOf, AreOfWords, has_table, locks_in, need_in, tables_in, takes, writes_behind}
use Rattle.command_needs.specs.declared.needs.Needs.{Needs}
use Rattle.command_needs.specs.declared.table_set.TableSet.{TableSet}

module _ (needs : Needs) where
  module _ (command : Command) (are : AreOf command needs) where
    taken : (lock : LockId) → takes needs lock ≡ model.takes command lock
    taken (Table table) = λ i. are.reads table i || are.writes table i
    taken Archive = λ i. are.reads_archive i || are.writes_archive i
    taken Journal = refl

    written : (lock : LockId) → writes_behind needs lock ≡ model.writes_behind command lock
    written (Table table) = are.writes table
    written Archive = are.writes_archive
    written Journal = refl

    listed_for : map (need_in needs) (locks_in needs) ≡ map (need_for command) (filter (model.takes command) set_locks)
    listed_for = λ i. map (λ (lock : LockId). record { lock = lock; writes = written lock i }) (filter (λ (lock : LockId). taken lock i) set_locks)

  none_taken : AreNone needs → (lock : LockId) → takes needs lock ≡ false
  none_taken are (Table table) = λ i. are.reads table i || are.writes table i
  none_taken are Archive = λ i. are.reads_archive i || are.writes_archive i
  none_taken are Journal = refl

  none_listed : AreNone needs → (locks : List LockId) → filter (takes needs) locks ≡ []
  none_listed are [] = refl
  none_listed are (lock ∷ locks) = ap (λ (b : Bool). cond b (lock ∷ filter (takes needs) locks) (filter (takes needs) locks)) (none_taken are lock) ∙ none_listed are locks

  pub listed : (request : Request) → AreOfWords request.command needs → map (need_in needs) (locks_in needs) ≡ needs_of request
  listed request are = go request.command are
    where
      go : (asked : Result Command WordFault) → AreOfWords asked needs
          → map (need_in needs) (locks_in needs) ≡ (elim asked as (λ _. List Need) [ Err fault ↦ [] | Ok command ↦ map (need_for command) (filter (model.takes command) set_locks) ])
      go (Ok command) are = listed_for command are
      go (Err fault) are = ap (map (need_in needs)) (none_listed are set_locks)

-- ---- the tables of a set

in_all : (table : TableId) → is_in all_tables table ≡ true
in_all ids.Counter = refl
in_all ids.Group = refl
in_all ids.Protect = refl
in_all ids.Domain = refl
in_all ids.Have = refl
in_all ids.Label = refl
in_all ids.Integed = refl
in_all ids.Resolve = refl
in_all ids.Working = refl
in_all ids.Change = refl
in_all ids.Rev = refl

and_true : (a b : Bool) → b ≡ true → (a && b) ≡ a
and_true true b e = e
and_true false b e = refl

pub in_tables : (set : TableSet) (table : TableId) → is_in (tables_in set) table ≡ has_table set table
in_tables set table =
    any-filter_same (λ (other : TableId). table_number other == table_number table) (has_table set) (has_table set table)
    (λ other is. ap (λ n. unwrap_or (slice_get set.has n) false) (eqb-true (table_number other) (table_number table) is)) all_tables
    ∙ and_true (has_table set table) (is_in all_tables table) (in_all table)
