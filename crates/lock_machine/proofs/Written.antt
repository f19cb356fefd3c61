-- A request changes rows of no other tables than those that its set writes.
use Rattle.std.proofs.Common.{◌≡◌, Bool, true, false, cond, List, [], ◌∷◌, map, Result, Ok, Err, refl, sym, ap, subst, ◌∙◌, inl, inr}
use Rattle.std.specs.Prelude.{filter, ◌&&◌, ◌||◌}
use Rattle.std.specs.List.{list_any}
use Rattle.std.proofs.lemmas.Bool.{or_left, or_right}
use Rattle.depot_model.specs.db_records.Key.{key_table}
use Rattle.depot_model.specs.db_records.declared.key.Key.{Key}
use Rattle.depot_model.specs.db_records.declared.table.TableId.{TableId}
use Rattle.depot_model.specs.db_records.declared.table.TableId.TheVariants as tables
use Rattle.depot_model.specs.Commands.{whole_step, step}
use Rattle.depot_model.specs.Common.{word_refusal}
use Rattle.depot_model.specs.Deeds.{Deed}
use Rattle.depot_model.specs.Records.{record_of}
use Rattle.depot_model.specs.Step.{Step, after, refuses}
use Rattle.depot_model.specs.Tables.{Need, needs_of, need_for, own_tables, reads, reads_archive, set_locks, takes, writes, writes_archive, writes_behind}
use Rattle.depot_model.specs.declared.command.Command.{Command}
use Rattle.depot_model.specs.declared.lock.LockId.{LockId}
use Rattle.depot_model.specs.declared.lock.LockId.TheVariants.{Table, Archive, Journal}
use Rattle.depot_model.specs.declared.request.Request.{Request}
use Rattle.depot_model.specs.declared.request.WordFault.{WordFault}
use Rattle.step_tables.proofs.Rows.{rows_stay}
use Rattle.step_tables.proofs.Whole.{step_stays}
use Rattle.lock_machine.specs.Machine.{is_lock}
use Rattle.lock_machine.specs.Orderly.{is_written}
use Rattle.lock_machine.proofs.Places.{true_or_false}
use Rattle.lock_machine.proofs.Orderly.{same_lock}

-- ---- what a set writes

module _ (command : Command) where
  abbrev needs_among : List LockId → List Need
  needs_among locks = map (need_for command) (filter (takes command) locks)

  taken : (lock : LockId) → writes_behind command lock ≡ true → takes command lock ≡ true
  taken (Table table) written = or_right (reads command table) (writes command table) written
  taken Archive written = or_right (reads_archive command) (writes_archive command) written
  taken Journal written = absurd cc

  later_kept : (lock other : LockId) (locks : List LockId) (kept : Bool) → is_written (needs_among locks) lock ≡ true
      → is_written (map (need_for command) (cond kept (other ∷ filter (takes command) locks) (filter (takes command) locks))) lock ≡ true
  later_kept lock other locks true later = or_right (writes_behind command other && is_lock other lock) (is_written (needs_among locks) lock) later
  later_kept lock other locks false later = later

  -- what the command writes is written by its set
  in_set : (lock : LockId) (locks : List LockId) → list_any (λ other. is_lock other lock) locks ≡ true → writes_behind command lock ≡ true → is_written (needs_among locks) lock ≡ true
  in_set lock [] has written = absurd cc
  in_set lock (other ∷ locks) has written = go (is_lock other lock) (takes command other) refl refl (λ more. in_set lock locks more written)
    where
      go : (here kept : Bool) → is_lock other lock ≡ here → takes command other ≡ kept → (list_any (λ l. is_lock l lock) locks ≡ true → is_written (needs_among locks) lock ≡ true)
          → is_written (map (need_for command) (cond (takes command other) (other ∷ filter (takes command) locks) (filter (takes command) locks))) lock ≡ true
      go true kept is keeps more =
          let P : Bool → Type 0 = λ b. is_written (map (need_for command) (cond b (other ∷ filter (takes command) locks) (filter (takes command) locks))) lock ≡ true in
          let own : writes_behind command other ≡ true = ap (writes_behind command) (same_lock other lock is) ∙ written in
          subst P (sym (taken other own)) (or_left (writes_behind command other && is_lock other lock) (is_written (needs_among locks) lock) (λ i. own i && is i))
      go false kept is keeps more =
          let P : Bool → Type 0 = λ b. is_written (map (need_for command) (cond b (other ∷ filter (takes command) locks) (filter (takes command) locks))) lock ≡ true in
          let later = more (let rest : (false || list_any (λ l. is_lock l lock) locks) ≡ true = (ap (λ b. b || list_any (λ l. is_lock l lock) locks) (sym is) ∙ has) in rest) in
          subst P (sym keeps) (later_kept lock other locks kept later)

numbered : (table : TableId) → list_any (λ lock. is_lock lock (Table table)) set_locks ≡ true
numbered tables.Counter = refl
numbered tables.Group = refl
numbered tables.Protect = refl
numbered tables.Domain = refl
numbered tables.Have = refl
numbered tables.Label = refl
numbered tables.Integed = refl
numbered tables.Resolve = refl
numbered tables.Working = refl
numbered tables.Change = refl
numbered tables.Rev = refl

abbrev set_for : Result Command WordFault → List Need
set_for asked = elim asked [ Err fault ↦ [] | Ok command ↦ map (need_for command) (filter (takes command) set_locks) ]

abbrev step_for : List Deed → Request → Result Command WordFault → Step
step_for d request asked = elim asked [ Err fault ↦ refuses (word_refusal fault) | Ok command ↦ whole_step d request command ]

-- a request leaves the rows of each table that its set doesn't write
pub writes_alone : (d : List Deed) (request : Request) (key : Key) → is_written (needs_of request) (Table (key_table key)) ≡ false → record_of (after d (step d request).deeds) key ≡ record_of d key
writes_alone d request key alone = go request.command refl
  where
    go : (asked : Result Command WordFault) → request.command ≡ asked → record_of (after d (step d request).deeds) key ≡ record_of d key
    go (Err fault) is = ap (λ (asked : Result Command WordFault). record_of (after d (step_for d request asked).deeds) key) is
    go (Ok command) is =
        let none : is_written (set_for (Ok command)) (Table (key_table key)) ≡ false = ap (λ (asked : Result Command WordFault). is_written (set_for asked) (Table (key_table key))) (sym is) ∙ alone in
        elim (true_or_false (writes command (key_table key))) [
          | inl written ↦ absurd (let both : true ≡ false = sym (in_set command (Table (key_table key)) set_locks (numbered (key_table key)) written) ∙ none in cc)
          | inr clear ↦ rows_stay (own_tables command).written key clear d (step d request).deeds (step_stays d request command is).each
        ]
