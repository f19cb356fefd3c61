use Rattle.std.proofs.Common.{◌≡◌, ℕ, List, None, refl, sym, subst, IsTrue}
use Rattle.std.specs.List.{list_any}
use Rattle.depot_rows.specs.db_records.declared.change.Change.{Change}
use Rattle.depot_rows.specs.db_records.declared.key.Key.{Key}
use Rattle.depot_rows.specs.db_records.declared.table.TableId.TheVariants.{Rev, Working}
use Rattle.depot_rows.specs.table_changes.Changed.{AllRows, AllFitIn, changed_by, rows_of}
use Rattle.depot_rows.specs.depot_model.Deeds as model
use Rattle.depot_rows.specs.depot_model.Rules.{IsSound}
use Rattle.depot_rows.specs.depot_model.Step.{Step as ModelStep, after}
use Rattle.depot_rows.specs.declared.deed.Deed.{Deed}
use Rattle.depot_rows.specs.Effects.{effects, Follow}
use Rattle.depot_rows.specs.Standing.{HasRows, row_in}
use Rattle.row_changes.specs.Differences.{AreDifferences}
use Rattle.row_changes.specs.Locking.{is_hold}
use Rattle.reply_rows.specs.declared.step.Step.{Step}
use Rattle.stored_contents.specs.Placed.{StandAfter}
use Rattle.stored_contents.proofs.Whole.{stand_after}
use Rattle.command_core.specs.Outcomes.{IsStep}
use Rattle.command_core.proofs.evaluation.finish.Goals as goal

-- the engine was given the deeds of the step, and its changes are those of the outcome
module _ (all : AllRows) (from : ℕ) (d : List model.Deed) (told : ModelStep) (made : Step) (given : List Deed) (changes items : List Change) (same : given ≡ made.deeds) (is : changes ≡ items)
    (step : IsStep all from d told made) where
  follows : Follow d given told.deeds
  follows = let P : List Deed → Type 0 = λ deeds. Follow d deeds told.deeds in subst P (sym same) step.is_made.deeds

  opens : IsTrue (list_any is_hold given) → HasRows all d Working
  opens = let P : List Deed → Type 0 = λ deeds. IsTrue (list_any is_hold deeds) → HasRows all d Working in subst P (sym same) step.opened

  same_changes : (Follow d given told.deeds → (IsTrue (list_any is_hold given) → HasRows all d Working) → AreDifferences all d (after d told.deeds) items)
      → AreDifferences all d (after d told.deeds) changes
  same_changes differ = let P : List Change → Type 0 = λ cs. AreDifferences all d (after d told.deeds) cs in subst P (sym is) (differ follows opens)

  same_contents : (stores : List (List ℕ)) → stores ≡ made.stores → IsSound d
      → (Follow d given told.deeds → (IsTrue (list_any is_hold given) → HasRows all d Working) → AreDifferences all d (after d told.deeds) items)
      → (Follow d given told.deeds → (IsTrue (list_any is_hold given) → HasRows all d Working) → (key : Key) → row_in all key ≡ None → row_in (changed_by all items) key ≡ effects given (row_in all) key)
      → HasRows all d Rev → StandAfter all from d (after d told.deeds) stores changes
  same_contents stores stored sound differ new has =
      let New : List Deed → Type 0 = λ deeds. (key : Key) → row_in all key ≡ None → row_in (changed_by all items) key ≡ effects deeds (row_in all) key in
      let P : List Change → Type 0 = λ cs. StandAfter all from d (after d told.deeds) made.stores cs in
      let Q : List (List ℕ) → Type 0 = λ ss. StandAfter all from d (after d told.deeds) ss changes in
      subst Q (sym stored) (subst P (sym is) (stand_after all from d told made items sound has step.is_made (differ follows opens) (subst New same (new follows opens))))

pub returns-clause-changes : goal.returns-clause-changes
returns-clause-changes c = λ d told apart step.
    same_changes (rows_of c.args.tables.now) c.args.tables.now.archive_end d told c.args.step c.as_slice.result.now c.from_vec.result c.in_ok-changes.changes.items c.as_slice.ensures c.from_vec.ensures step
    (c.in_ok-changes.ensures.differences d told.deeds apart)

pub returns-clause-contents : goal.returns-clause-contents
returns-clause-contents c = λ d told sound step has.
    same_contents (rows_of c.args.tables.now) c.args.tables.now.archive_end d told c.args.step c.as_slice.result.now c.from_vec.result c.in_ok-changes.changes.items c.as_slice.ensures c.from_vec.ensures step
    c.args.step.stores refl sound (c.in_ok-changes.ensures.differences d told.deeds sound.landed_or_pending) (c.in_ok-changes.ensures.new_rows d told.deeds sound.landed_or_pending) has

pub returns-clause-fit : goal.returns-clause-fit
returns-clause-fit c = subst (AllFitIn (rows_of c.args.tables.now)) (sym c.from_vec.ensures) c.in_ok-changes.ensures.fit
