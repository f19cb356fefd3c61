-- What a commit needs, and what it leaves.
use Rattle.std.specs.Prelude.{◌≡◌, ◌≢◌, ℕ, Bool, true, false, List, [], if◌then◌else◌}
use Rattle.depot_rows.specs.db_records.declared.change.Change.{Change}
use Rattle.journal_groups.specs.Groups.{AreRecords}
use Rattle.command_core.specs.Outcomes.{IsOutcome}
use Rattle.command_core.specs.declared.outcome.Outcome.{Outcome}
use Rattle.depot_rows.specs.table_changes.Changed.{AllRows, changed_by}
use Rattle.depot_rows.specs.depot_model.Commands.{step}
use Rattle.depot_rows.specs.depot_model.Deeds.{Deed}
use Rattle.depot_rows.specs.depot_model.Step.{after}
use Rattle.depot_rows.specs.depot_model.declared.order.Answer.{Answer}
use Rattle.depot_rows.specs.depot_model.declared.order.Place.{Place}
use Rattle.depot_rows.specs.depot_model.declared.request.Request.{Request}
use Rattle.depot_rows.specs.Standing.{Stand}
use Rattle.row_changes.specs.Differences.{AreDifferences}
use Rattle.depot_commit.specs.Opening.{opens_generation}
use Rattle.depot_commit.specs.Writing.{next_if}
use Rattle.step_limits.specs.Limits.{generation_in}

-- Changes of these rows are those of a request: they have a text, they are what differs between these rows and each depot with these rows after the
-- request's step, and the rows after them are those of that depot. Where there are some, that depot is of the next generation if the request opens one,
-- and else of the same.
pub record AreChangesOf (rows : AllRows) (request : Request) (changes : List Change) : Type 0 where
  pub records : AreRecords changes
  pub differences : (d : List Deed) → Stand rows d → AreDifferences rows d (after d (step d request).deeds) changes
  pub stand : (d : List Deed) → Stand rows d → Stand (changed_by rows changes) (after d (step d request).deeds)
  pub generation : (d : List Deed) → Stand rows d → changes ≢ [] → generation_in (after d (step d request).deeds) ≡ next_if (opens_generation request) (generation_in d)

-- the answer to a place: the reply, or that of a fault
pub record IsToldAt (place : Place) (reply of_fault : List ℕ) (answer : Answer) : Type 0 where
  pub place_is : answer.place ≡ record place { fault = answer.place.fault }
  pub reply_is : answer.reply ≡ (if answer.place.fault then of_fault else reply)

-- an outcome is a request's for each depot with these rows, what it stores being put from a place of the archive on
abbrev pub IsOutcomeOf : AllRows → ℕ → Request → Outcome → Type 0
IsOutcomeOf rows from request outcome = (d : List Deed) → Stand rows d → IsOutcome rows from d request outcome

-- the rows after a place: those after the changes, or at a fault place those before
abbrev pub AreRowsAfter : AllRows → List Change → Bool → AllRows → Type 0
AreRowsAfter rows changes false now = now ≡ changed_by rows changes
AreRowsAfter rows changes true now = now ≡ rows
