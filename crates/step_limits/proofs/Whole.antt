-- The step of every request but a checkpoint leaves the generation.
use Rattle.std.proofs.Common.{◌≡◌, ◌≢◌, ◌≤◌, ℕ, Bool, true, false, List, [], ◌∷◌, ◌++◌, Option, Some, None, Result, Ok, Err, refl, sym, ap, subst, arith}
use Rattle.std.specs.Prelude.{◌&&◌, not, codes, unwrap_or, option_map, IfOk}
use Rattle.std.specs.Option.{option_flatten, option_or}
use Rattle.depot_model.specs.depot_path.Bytes.{same}
use Rattle.depot_model.specs.db_records.Key.{key_table}
use Rattle.depot_model.specs.db_records.declared.key.Key.{Key}
use Rattle.depot_model.specs.db_records.declared.key.Key.TheVariants as keys
use Rattle.depot_model.specs.db_records.declared.record.Record.TheVariants.{Counter as CounterRow}
use Rattle.depot_model.specs.About.{about}
use Rattle.depot_model.specs.Commands.{own_step, whole_step, step}
use Rattle.depot_model.specs.Common.{common_refusals, last_refusals, word_refusal}
use Rattle.depot_model.specs.Deeds.{Deed, Count}
use Rattle.depot_model.specs.Latest.{latest, when, count_said}
use Rattle.depot_model.specs.Records.{record_of}
use Rattle.depot_model.specs.Rules.{value_of}
use Rattle.depot_model.specs.Step.{Step, after, refuses, unless}
use Rattle.depot_model.specs.Tables.{own_tables, is_in}
use Rattle.depot_model.specs.WellFormed.{is_command, is_free}
use Rattle.depot_model.specs.declared.command.Command.{Command}
use Rattle.depot_model.specs.declared.command.Command.TheVariants.{CounterSet, CounterDelete, ChangeSave, SubmitChange, SubmitDefault, Checkpoint}
use Rattle.depot_model.specs.declared.refusal.Refusal.{Refusal}
use Rattle.depot_model.specs.declared.request.Request.{Request}
use Rattle.depot_model.specs.declared.request.WordFault.{WordFault}
use Rattle.step_tables.proofs.Rows.{rows_stay}
use Rattle.step_tables.proofs.Whole.{step_stays}
use Rattle.step_limits.proofs.Plain.{ArePlain, all_leave}
use Rattle.step_limits.proofs.Writing.{submit_plain, submit_change_plain, change_save_plain}
use Rattle.step_limits.specs.Limits.{CountsNoGeneration, generation_in}

module _ (Q : List Deed → Type 0) (nothing_done : Q []) where
  unless_from : (tests : List (Option Refusal)) (step : Step) → Q step.deeds → Q (unless tests step).deeds
  unless_from [] step h = h
  unless_from (None ∷ tests) step h = unless_from tests step h
  unless_from (Some why ∷ tests) step h = nothing_done

  -- what holds of no deed and of those of a command's own step holds of the step of its request
  pub step_from : (d : List Deed) (request : Request) (command : Command) → request.command ≡ Ok command
      → Q (own_step d request command).deeds → Q (step d request).deeds
  step_from d request command e own =
      subst (λ (r : Result Command WordFault). Q (elim r as (λ _. Step) [ Err fault ↦ refuses (word_refusal fault) | Ok c ↦ whole_step d request c ]).deeds)
      (sym e) (unless_from (common_refusals d request.caller (about command) ++ last_refusals d command) (own_step d request command) own)

module _ (d : List Deed) (request : Request) where
  abbrev done : List Deed
  done = (step d request).deeds

  -- a row of a table that a command doesn't write stays
  row_stays : (command : Command) → request.command ≡ Ok command → (key : Key) → is_in (own_tables command).written (key_table key) ≡ false
      → record_of (after d done) key ≡ record_of d key
  row_stays command e key away = rows_stay (own_tables command).written key away d done (step_stays d request command e).each

  -- ---- the generation

  abbrev Same : List Deed → Type 0
  Same deeds = generation_in (after d deeds) ≡ generation_in d

  counted : (name : List ℕ) (value : Option ℕ) → is_free name ≡ true → Same (Count name value ∷ [])
  counted name value free =
      ap (λ (b : Bool). value_of (option_map (λ v. CounterRow (record { name = codes "journal"; value = v })) (option_flatten (option_or (when b value) (latest (count_said (codes "journal")) d)))))
      (other (same name (codes "change")) (same name (codes "journal")) free)
    where
      other : (a b : Bool) → (not a && not b) ≡ true → b ≡ false
      other a false h = refl
      other true true h = absurd cc
      other false true h = absurd cc

  any_number : (n : ℕ) → 0 ≤ n
  any_number n = omega arith

  abbrev none_small : 0 ≤ 1
  none_small = omega arith

  plain_same : (deeds : List Deed) → ArePlain 0 deeds → Same deeds
  plain_same deeds plain = (all_leave 0 d deeds plain).generation

  pub generation_stays : (command : Command) → request.command ≡ Ok command → is_command command ≡ true → command ≢ Checkpoint → Same done
  generation_stays (CounterSet name value) e formed other = step_from Same refl d request (CounterSet name value) e (counted name (Some value) formed)
  generation_stays (CounterDelete name) e formed other = step_from Same refl d request (CounterDelete name) e (counted name None formed)
  generation_stays ChangeSave e formed other =
      step_from Same refl d request ChangeSave e
      (plain_same _ (change_save_plain 0 none_small d request (λ n none. any_number n) (unwrap_or request.input [])))
  generation_stays (SubmitChange n) e formed other =
      step_from Same refl d request (SubmitChange n) e (plain_same _ (submit_change_plain 0 none_small d request n))
  generation_stays (SubmitDefault text) e formed other =
      step_from Same refl d request (SubmitDefault text) e (plain_same _ (submit_plain 0 none_small d request 0 text))
  generation_stays Checkpoint e formed other = absurd (other refl)
  generation_stays command e formed other = ap value_of (row_stays command e (keys.Counter (codes "journal")) refl)

  -- ---- requests

  -- words that are no command do nothing
  abbrev Told : Result Command WordFault → List Deed
  Told asked = (elim asked as (λ _. Step) [ Err fault ↦ refuses (word_refusal fault) | Ok c ↦ whole_step d request c ]).deeds

  pub request_keeps_generation : IfOk request.command CountsNoGeneration → Same done
  request_keeps_generation asked = go request.command refl asked
    where
      go : (r : Result Command WordFault) → request.command ≡ r → IfOk r CountsNoGeneration → Same done
      go (Ok command) e h = generation_stays command e h.0 h.1
      go (Err fault) e h = subst (λ (r : Result Command WordFault). Same (Told r)) (sym e) refl
