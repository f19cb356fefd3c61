-- What holds of the machine after every list of events. This project's own choice.
use Rattle.std.specs.Prelude.{◌≡◌, ℕ, suc, ◌≤◌, Bool, true, false, ◌&&◌, List, [], ◌∷◌, ◌++◌, length, map, slice_get, Option, Some, None}
use Rattle.std.specs.List.{list_any}
use Rattle.depot_model.specs.declared.lock.LockId.{LockId}
use Rattle.depot_model.specs.declared.lock.LockId.TheVariants.{Journal}
use Rattle.depot_model.specs.declared.request.Request.{Request}
use Rattle.lock_machine.specs.Machine.{lock_number, is_lock, guards, Seen, Work, Party, Commit, State, Finish, Done, Fault, NoMemory, is_owned, has_judged, owns, is_touched}
use Rattle.lock_machine.specs.declared.stage.Stage.{Stage}
use Rattle.lock_machine.specs.declared.stage.Stage.TheVariants.{Gathering, Judged, Committed}
use Rattle.depot_model.specs.Tables.{Need}

-- the locks of a set rise in their order, from a place on, and are below the journal's
abbrev pub Rises : ℕ → List Need → Type 0
Rises n [] = n ≤ lock_number Journal
Rises n (need ∷ needs) = (n ≤ lock_number need.lock) × Rises (suc (lock_number need.lock)) needs

abbrev pub is_written : List Need → LockId → Bool
is_written needs lock = list_any (λ (n : Need). n.writes && is_lock n.lock lock) needs

-- What a party saw of a table must still be what is there: of those that it owns, and once it has judged, of all. Its own commit ends that.
abbrev pub must_last : Stage → Bool → Seen → Bool
must_last Gathering second s = is_owned second s
must_last Judged second s = true
must_last Committed second s = false

pub record Lasts (order : List Commit) (stage : Stage) (second : Bool) (s : Seen) : Type 0 where
  pub within : s.places ≤ length order
  pub untouched : must_last stage second s ≡ true → is_touched order s ≡ false

abbrev pub AllLast : List Commit → Stage → Bool → List Seen → Type 0
AllLast order stage second [] = Unit {0}
AllLast order stage second (s ∷ seen) = Lasts order stage second s × AllLast order stage second seen

module _ (needs : Request → List Need) where
  -- a command at hand went through its set up to what is left, and through all of it before it was judged
  pub record IsAtHand (order : List Commit) (w : Work) : Type 0 where
    pub set : map (λ (s : Seen). s.need) w.seen ++ w.rest ≡ needs w.request
    pub whole : has_judged w.stage ≡ true → w.rest ≡ []
    pub last : AllLast order w.stage w.second w.seen

  abbrev pub AtHand : List Commit → Option Work → Type 0
  AtHand order None = Unit {0}
  AtHand order (Some w) = IsAtHand order w

  -- no lock has two owners
  abbrev pub AreAlone : List Party → Type 0
  AreAlone parties = (lock : LockId) (i j : ℕ) (p q : Party) → slice_get parties i ≡ Some p → slice_get parties j ≡ Some q → owns lock p ≡ true → owns lock q ≡ true → i ≡ j

  pub record IsOrderly (s : State) : Type 0 where
    pub each : (i : ℕ) (p : Party) → slice_get s.parties i ≡ Some p → AtHand s.order p.work
    pub alone : AreAlone s.parties

  -- a commit changes no other tables than those that its command writes
  abbrev pub ChangesWritten : Request → Finish → Type 0
  ChangesWritten request (Done changed) = (lock : LockId) → guards changed lock ≡ true → is_written (needs request) lock ≡ true
  ChangesWritten request Fault = Unit {0}
  ChangesWritten request NoMemory = Unit {0}

  abbrev pub MayFinish : Option Work → Finish → Type 0
  MayFinish None how = Unit {0}
  MayFinish (Some w) how = w.stage ≡ Judged → ChangesWritten w.request how
