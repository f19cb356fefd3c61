-- What a request does in the tables of a depot. This project's own choice.
use Rattle.std.specs.Prelude.{◌≡◌, ℕ, IsTrue, List, [], map, Result, Ok, Err, IfOk}
use Rattle.std.specs.List.{list_any}
use Rattle.depot_rows.specs.db_records.declared.table.TableId.{TableId}
use Rattle.depot_rows.specs.db_records.declared.table.TableId.TheVariants.{Rev, Working}
use Rattle.depot_rows.specs.table_changes.Changed.{AllRows}
use Rattle.depot_rows.specs.depot_model.declared.command.Command.{Command}
use Rattle.depot_rows.specs.depot_model.declared.request.Request.{Request}
use Rattle.depot_rows.specs.depot_model.declared.request.WordFault.{WordFault}
use Rattle.depot_rows.specs.depot_model.Commands.{step}
use Rattle.depot_rows.specs.depot_model.Deeds.{Deed}
use Rattle.depot_rows.specs.depot_model.Step.{Step as ModelStep, after}
use Rattle.depot_rows.specs.depot_model.Tables.{touches}
use Rattle.depot_rows.specs.depot_model.WellFormed.{asks_rightly, is_command}
use Rattle.depot_rows.specs.Standing.{HasRows}
use Rattle.row_changes.specs.Differences.{AreDifferences}
use Rattle.row_changes.specs.Locking.{is_hold}
use Rattle.reply_rows.specs.declared.step.Step.{Step}
use Rattle.reply_rows.specs.Made.{ComeFrom, contents_of, waiting}
use Rattle.step_stores.specs.Stored.{IsStoring, NothingLands}
use Rattle.stored_contents.specs.Placed.{StandAfter}
use Rattle.command_core.specs.declared.outcome.Outcome.{Outcome}

-- the tables that a command reads or writes have the rows of a depot
abbrev pub HasTouched : AllRows → List Deed → Command → Type 0
HasTouched rows d command = (table : TableId) → IsTrue (touches command table) → HasRows rows d table

-- so have those that a request needs; words that are no command need none
abbrev pub HasNeededBy : AllRows → List Deed → Result Command WordFault → Type 0
HasNeededBy rows d (Ok command) = HasTouched rows d command
HasNeededBy rows d (Err fault) = Unit {0}

abbrev pub HasNeeded : AllRows → List Deed → Request → Type 0
HasNeeded rows d request = HasNeededBy rows d request.command

-- a command keeps what its words promise
abbrev pub IsFormed : Command → Type 0
IsFormed command = IsTrue (is_command command) × IsTrue (asks_rightly command)

-- so does the command of a request, where it has one
abbrev pub IsFormedBy : Request → Type 0
IsFormedBy request = IfOk request.command IsFormed

-- A step of the code is the model's, and its contents are stored from a place of the archive on; where one of its deeds locks a file, the table of
-- opened files is the depot's.
pub record IsStep (all : AllRows) (from : ℕ) (d : List Deed) (model : ModelStep) (step : Step) : Type 0 where
  pub is_made : IsStoring all from d model step
  pub opened : IsTrue (list_any is_hold step.deeds) → HasRows all d Working

-- The reply is the step's but for the contents of its rows, which are given or stand at the spots that are read; the changes are exactly what its
-- deeds make differ; and what is stored, from a place of the archive on, are the contents of new revisions that no older one has at its spot.
pub record IsOutcome (rows : AllRows) (from : ℕ) (d : List Deed) (request : Request) (outcome : Outcome) : Type 0 where
  pub reply : outcome.reply.rows ≡ map waiting (step d request).rows
  pub changes : AreDifferences rows d (after d (step d request).deeds) outcome.changes
  pub contents : HasRows rows d Rev → StandAfter rows from d (after d (step d request).deeds) outcome.stores outcome.changes
  pub nothing_stored : NothingLands (step d request).deeds → outcome.stores ≡ []
  pub reads : ComeFrom rows d (contents_of (step d request).rows) outcome.reads
