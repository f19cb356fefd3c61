-- What the outcome of a request promises to who gives it its place.
use Rattle.std.proofs.Common.{◌≡◌, ℕ, Bool, true, false, List, [], ◌∷◌, Result, Ok, Err, refl, sym, ap, subst, ◌∙◌}
use Rattle.std.specs.Prelude.{All, if◌then◌else◌}
use Rattle.depot_rows.specs.db_records.declared.change.Change.{Change}
use Rattle.command_core.specs.Outcomes.{HasNeeded}
use Rattle.command_core.specs.declared.outcome.Outcome.{Outcome}
use Rattle.depot_rows.specs.db_records.declared.table.TableId.TheVariants.{Rev}
use Rattle.depot_rows.specs.table_changes.Changed.{AllFitIn, AllRows}
use Rattle.depot_rows.specs.depot_model.Commands.{step}
use Rattle.depot_rows.specs.depot_model.Deeds.{Deed}
use Rattle.depot_rows.specs.depot_model.Places.{Placed, taken, told_at}
use Rattle.depot_rows.specs.depot_model.Printed.{printed}
use Rattle.depot_rows.specs.depot_model.Records.{record_of}
use Rattle.depot_rows.specs.depot_model.Rows.{disk_row}
use Rattle.depot_rows.specs.depot_model.Step.{after}
use Rattle.depot_rows.specs.depot_model.declared.order.Answer.{Answer}
use Rattle.depot_rows.specs.depot_model.declared.command.Command.{Command}
use Rattle.depot_rows.specs.depot_model.declared.request.Request.{Request}
use Rattle.depot_rows.specs.depot_model.declared.request.WordFault.{WordFault}
use Rattle.depot_rows.specs.Standing.{Stand}
use Rattle.row_changes.specs.Differences.{AreDifferences}
use Rattle.row_texts.specs.Texts.{IsOf64Bits, is_counted}
use Rattle.sound_requests.specs.Asked.{is_typed}
use Rattle.session_loop.specs.Taking.{Answers, IsProper, place_by, placed_by}
use Rattle.stored_contents.specs.Placed.{StandAfter}
use Rattle.depot_commit.specs.Committing.{AreChangesOf, IsOutcomeOf, IsToldAt}
use Rattle.depot_commit.specs.Telling.{IsTold}
use Rattle.depot_commit.specs.declared.telling.Told.{Told}
use Rattle.depot_commit.proofs.Differences.{no_changes}
use Rattle.depot_commit.proofs.Laws.{sound_after, generation_after, are_records}

-- the tables that it needs have the rows of the depot
pub has_needed : (rows : AllRows) (d : List Deed) (request : Request) → Stand rows d → HasNeeded rows d request
has_needed rows d request stand = go request.command refl
  where
    go : (command : Result Command WordFault) → request.command ≡ command → HasNeeded rows d request
    go (Ok command) is = rw is (λ table touched. stand.each table)
    go (Err fault) is = rw is tt

-- what differs after its step, whichever depot has the rows, are changes of it
pub are_changes : (rows : AllRows) (d : List Deed) (request : Request) (changes : List Change) → Stand rows d → IsProper request → is_typed request ≡ true
    → ((e : List Deed) → Stand rows e → AreDifferences rows e (after e (step e request).deeds) changes) → All (λ (change : Change). IsOf64Bits change.row) changes
    → All (λ (change : Change). is_counted change.row ≡ true) changes → AreChangesOf rows request changes
are_changes rows d request changes stand proper typed differences small counted = record {
  records = are_records rows d request changes proper typed stand (differences d stand) small counted;
  differences = differences;
  stand = λ e here. record { sound = sound_after request proper typed e here.sound; each = λ table. (differences e here).left table (here.each table) };
  generation = λ e here some. generation_after request proper e (λ none. some (nothing_changed e here none));
}
  where
    -- no deed changes nothing
    nothing_changed : (e : List Deed) → Stand rows e → (step e request).deeds ≡ [] → changes ≡ []
    nothing_changed e here none =
        no_changes rows e (after e (step e request).deeds) changes here (λ key. ap (λ (deeds : List Deed). record_of (after e deeds) key) (sym none)) (differences e here)

-- ---- what is told of an outcome

module _ {rows : AllRows} {from : ℕ} {d : List Deed} {request : Request} {outcome : Outcome} {told : Told} (stand : Stand rows d) (is : IsOutcomeOf rows from request outcome) (t : IsTold outcome request.number told) where
  abbrev next : List Deed
  next = after d (step d request).deeds

  pub told_changes : IsProper request → is_typed request ≡ true → AreChangesOf rows request told.changes
  told_changes proper typed =
      are_changes rows d request told.changes stand proper typed
      (λ e here. subst (AreDifferences rows e (after e (step e request).deeds)) (sym t.changes) (is e here).changes) t.small t.counted

  pub told_fits : AllFitIn rows told.changes
  told_fits = subst (AllFitIn rows) (sym t.changes) (is d stand).changes.fit

  pub told_placed : StandAfter rows from d next told.stores told.changes
  told_placed =
      subst (λ (stores : List (List ℕ)). StandAfter rows from d next stores told.changes) (sym t.stores)
      (subst (StandAfter rows from d next outcome.stores) (sym t.changes) ((is d stand).contents (stand.each Rev)))

-- ---- the answer

pub answers : {start : List Deed} {places : List Placed} {request : Request} {reply of_fault : List ℕ} {answer : Answer} → (answer.place.fault ≡ false → reply ≡ printed (step (taken step start places) request).rows request.number) → of_fault ≡ printed (disk_row ∷ []) request.number
    → IsToldAt (place_by request false) reply of_fault answer → Answers start places request answer
answers {start} {places} {request} {reply} {of_fault} {answer} reply_is fault_is told = record { place = told.place_is; reply = told.reply_is ∙ go answer.place.fault refl }
  where
    go : (fault : Bool) → answer.place.fault ≡ fault → (if fault then of_fault else reply) ≡ printed (told_at step (taken step start places) (placed_by request fault)) request.number
    go true is = fault_is
    go false is = reply_is is
