-- A party that takes no further command is one of the machine's that gave up those that it hasn't begun.
use Rattle.std.proofs.Common.{◌≡◌, ℕ, List, [], Option, Some, None, set, refl, sym, ap, subst}
use Rattle.std.specs.Prelude.{slice_get}
use Rattle.depot_rows.specs.depot_model.Deeds.{Deed}
use Rattle.depot_rows.specs.Standing.{Stand}
use Rattle.depot_rows.specs.table_changes.Changed.{rows_of}
use Rattle.lock_machine.specs.Machine.{State, stops, stopped}
use Rattle.lock_machine.specs.Machine as model
use Rattle.lock_machine.specs.Runs.{IsRun, depot_after}
use Rattle.lock_machine.proofs.Stopping.{run_stopped}
use Rattle.lock_core.specs.Core.{AreShown, Shows}
use Rattle.lock_core.specs.Parties.{IsShown, IsShownAs}
use Rattle.lock_core.specs.declared.machine.LockCore.{LockCore}
use Rattle.lock_core.specs.declared.party.Party.{Party}
use Rattle.lock_core.specs.declared.work.Work.{Work}
use Rattle.lock_core.proofs.Counterparts.{none_at, set_shown, shown_at}

module _ (start : List Deed) (s : State) (old new : LockCore) (i : ℕ) (shows : Shows start old s) (tables : new.tables ≡ old.tables) where
  stand_new : Stand (rows_of new.tables) (depot_after start s.order)
  stand_new = let P : _ → Type 0 = λ t. Stand (rows_of t) (depot_after start s.order) in subst P (sym tables) shows.stand

  -- where it isn't there
  pub stopped_none : slice_get old.parties.items i ≡ None → new.parties.items ≡ old.parties.items → Shows start new (stopped s i)
  stopped_none at_i same =
      let is : stopped s i ≡ s = ap (stops s i) (none_at s.order old.parties.items s.parties i shows.parties at_i) in
      let P : State → Type 0 = Shows start new in
      let Q : List Party → Type 0 = λ ps. AreShown s.order ps s.parties in
      subst P (sym is) (record { run = shows.run; stand = stand_new; parties = subst Q (sym same) shows.parties })

  pub stopped_some : (p p' : Party) → slice_get old.parties.items i ≡ Some p → p'.left.items ≡ [] → p'.work ≡ p.work → new.parties.items ≡ set old.parties.items i p' → Shows start new (stopped s i)
  stopped_some p p' at_i none same_work same =
      let found = shown_at s.order old.parties.items s.parties i p shows.parties at_i in
      let is : stopped s i ≡ stops s i (Some found.0) = ap (stops s i) found.1 in
      let P : State → Type 0 = Shows start new in
      let Run : State → Type 0 = IsRun start in
      let Q : List Party → Type 0 = λ ps. AreShown s.order ps (set s.parties i (record found.0 { left = [] })) in
      subst P (sym is) (record {
        run = subst Run is (run_stopped start s shows.run i);
        stand = stand_new;
        parties = subst Q (sym same) (set_shown s.order old.parties.items s.parties i p' (record found.0 { left = [] }) shows.parties (its p' none same_work found.0 found.2));
      })
    where
      its : (p' : Party) → p'.left.items ≡ [] → p'.work ≡ p.work → (q : model.Party) → IsShown s.order p q → IsShown s.order p' (record q { left = [] })
      its p' none same_work q h =
          let P : List Work → Type 0 = λ left. IsShownAs s.order left p'.work (record q { left = [] }) in
          let W : Option Work → Type 0 = λ work. IsShownAs s.order [] work (record q { left = [] }) in
          subst P (sym none) (subst W (sym same_work) (record { fresh = tt; left_is = refl; work_is = h.work_is }))
