-- A request that doesn't write the table of revisions submits nothing.
use Rattle.std.proofs.Common.{◌≡◌, ℕ, false, List, [], ◌∷◌, ◌++◌, Option, Some, None, Result, Ok, Err, refl}
use Rattle.depot_rows.specs.db_records.declared.table.TableId.TheVariants.{Rev}
use Rattle.depot_rows.specs.table_changes.Changed.{AllRows}
use Rattle.depot_rows.specs.depot_model.About.{about}
use Rattle.depot_rows.specs.depot_model.Commands.{own_step, whole_step, step}
use Rattle.depot_rows.specs.depot_model.Common.{common_refusals, last_refusals, word_refusal}
use Rattle.depot_rows.specs.depot_model.Deeds.{Deed}
use Rattle.depot_rows.specs.depot_model.Step.{Step, refuses, unless}
use Rattle.depot_rows.specs.depot_model.Tables.{writes, writes_table}
use Rattle.depot_rows.specs.depot_model.declared.command.Command.{Command}
use Rattle.depot_rows.specs.depot_model.declared.command.Command.TheVariants.{SubmitChange, SubmitDefault}
use Rattle.depot_rows.specs.depot_model.declared.refusal.Refusal.{Refusal}
use Rattle.depot_rows.specs.depot_model.declared.request.Request.{Request}
use Rattle.depot_rows.specs.depot_model.declared.request.WordFault.{WordFault}
use Rattle.step_stores.specs.Stored.{NothingLands}
use Rattle.command_core.specs.Families.{is_submit}
use Rattle.command_core.specs.Outcomes.{IsOutcome}
use Rattle.command_core.specs.declared.outcome.Outcome.{Outcome}
use Rattle.command_core.proofs.Storing.{own_lands_nothing}

submits_not : (command : Command) → writes command Rev ≡ false → is_submit command ≡ false
submits_not (SubmitChange n) away = absurd cc
submits_not (SubmitDefault text) away = absurd cc
submits_not _ away = refl

unless_lands : (tests : List (Option Refusal)) (told : Step) → NothingLands told.deeds → NothingLands (unless tests told).deeds
unless_lands [] told h = h
unless_lands (None ∷ tests) told h = unless_lands tests told h
unless_lands (Some why ∷ tests) told h = tt

module _ (d : List Deed) (request : Request) where
  whole_lands : (command : Command) → writes command Rev ≡ false → NothingLands (whole_step d request command).deeds
  whole_lands command away = unless_lands (common_refusals d request.caller (about command) ++ last_refusals d command) (own_step d request command)
      (own_lands_nothing d request command (submits_not command away))

  lands_nothing : writes_table request.command Rev ≡ false → NothingLands (step d request).deeds
  lands_nothing away = go request.command away
    where
      go : (asked : Result Command WordFault) → writes_table asked Rev ≡ false
          → NothingLands (elim asked as (λ _. Step) [ Err fault ↦ refuses (word_refusal fault) | Ok command ↦ whole_step d request command ]).deeds
      go (Ok command) away = whole_lands command away
      go (Err fault) away = tt

  -- so nothing is stored
  pub stores_nothing : (all : AllRows) (from : ℕ) (outcome : Outcome) → writes_table request.command Rev ≡ false → IsOutcome all from d request outcome → outcome.stores ≡ []
  stores_nothing all from outcome away is = is.nothing_stored (lands_nothing away)
