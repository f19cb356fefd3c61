-- What taking the commands of one party does.
use Rattle.std.specs.Prelude.{◌≡◌, ◌<◌, ◌≤◌, ◌⊎◌, ℕ, suc, ◌+◌, Bool, true, false, List, [], ◌∷◌, ◌++◌, Option, Result, All, AllPairs, count_by}
use Rattle.outside_api.specs.Count.{counted}
use Rattle.outside_api.specs.Told.{extended}
use Rattle.depot_model.specs.Deeds.{Deed}
use Rattle.depot_model.specs.declared.order.Place.{Place}
use Rattle.depot_model.specs.declared.request.Caller.{Caller}
use Rattle.depot_model.specs.declared.request.Asked.{Asked}
use Rattle.depot_model.specs.declared.request.Session.{Session}
use Rattle.depot_model.specs.Order.{Rises}
use Rattle.depot_model.specs.Printed.{printed}
use Rattle.depot_model.specs.Rows.{memory_row}
use Rattle.depot_model.specs.Commands.{step}
use Rattle.depot_model.specs.Places.{Placed, taken, told_at}
use Rattle.depot_runs.specs.Run.{request_of, outputs, output_of}
use Rattle.wire_text.specs.Giving.{GivesAll, IsProperFront}
use Rattle.session_loop.specs.Taking.{placed_by}

-- how many places of an order are faults
abbrev pub fault_count : List Place → ℕ
fault_count order = count_by (λ place. place.fault) order

-- The two counts of faults rose together by at least so many. One that stands at its last value counts as risen by any number.
abbrev pub HaveRisenBy : ℕ → ℕ → ℕ → ℕ → ℕ → Type 0
HaveRisenBy failures before now contents_before contents_now =
    (n : ℕ) × (m : ℕ) × (failures ≡ n + m) × (counted n before ≤ now) × (counted m contents_before ≤ contents_now)

-- the fault places that came are at most as many as the two counts rose together
abbrev pub AreCaused : ℕ → ℕ → ℕ → ℕ → List Place → List Place → Type 0
AreCaused before now contents_before contents_now old_order new_order =
    (k : ℕ) × (fault_count new_order ≡ fault_count old_order + k) × HaveRisenBy k before now contents_before contents_now

-- where no fault place came the two counts stand
abbrev pub StandWithoutFaults : ℕ → ℕ → ℕ → ℕ → List Place → List Place → Type 0
StandWithoutFaults before now contents_before contents_now old_order new_order =
    fault_count new_order ≡ fault_count old_order → (now ≡ before) × (contents_now ≡ contents_before)

-- The command has the last place. There it did, and was answered, what the model says: at a fault place nothing, and the row of a fault.
pub record IsTaken (may_give : ℕ → Type 0) (has_run : List Deed → List Placed → Type 0) (party number : ℕ) (caller : Caller) (asked : Asked) (start : List Deed) (places : List Placed) (old_order new_order : List Place) (text : List ℕ) : Type 0 where
  pub place : Place
  pub party_is : place.party ≡ party
  pub number_is : place.number ≡ number
  pub moment : may_give place.moment
  pub order : new_order ≡ old_order ++ place ∷ []
  pub ran : has_run start (places ++ placed_by (request_of place caller asked) place.fault ∷ [])
  pub reply : text ≡ printed (told_at step (taken step start places) (placed_by (request_of place caller asked) place.fault)) number

-- the command found no memory, has no place and did nothing
pub record IsUntaken (has_run : List Deed → List Placed → Type 0) (number : ℕ) (start : List Deed) (places : List Placed) (old_order new_order : List Place) (text : List ℕ) : Type 0 where
  pub order : new_order ≡ old_order
  pub ran : has_run start places
  pub reply : text ≡ printed (memory_row ∷ []) number

-- the command was taken or found no memory, and the sink got its reply, or, where it failed, a proper front of it
pub record IsAnswered {E : Type 0} (may_give : ℕ → Type 0) (has_run : List Deed → List Placed → Type 0) (party number : ℕ) (caller : Caller) (asked : Asked) (start : List Deed) (places : List Placed) (old_order new_order : List Place) (before now : Option (List ℕ)) (result : Result (Unit {0}) E) : Type 0 where
  pub text : List ℕ
  pub taken : IsTaken may_give has_run party number caller asked start places old_order new_order text ⊎ IsUntaken has_run number start places old_order new_order text
  pub given : GivesAll before now text result

-- the place is that of one of a party's first n commands
pub record IsTurn (may_give : ℕ → Type 0) (party n : ℕ) (place : Place) : Type 0 where
  pub party_is : place.party ≡ party
  pub first : 0 < place.number
  pub last : place.number ≤ n
  pub moment : may_give place.moment

-- The sink got the replies to the party's first n commands. Where it failed, it got the replies before the last of these,
-- and a proper front of the last.
abbrev pub IsOutput : List (Option Session) → List Deed → List Place → ℕ → ℕ → Bool → Option (List ℕ) → Option (List ℕ) → Type 0
IsOutput sessions start order party n false before now = now ≡ extended before (outputs sessions start order party n)
IsOutput sessions start order party n true before now =
    (k : ℕ) × (n ≡ suc k) × (front : List ℕ) × IsProperFront front (output_of sessions start order party n) × (now ≡ extended before (outputs sessions start order party k ++ front))

-- a party's first n commands were taken, alone, from the depot `start` on
pub record IsServed (may_give : ℕ → Type 0) (sessions : List (Option Session)) (start : List Deed) (party n : ℕ) (failed : Bool) (before now : Option (List ℕ)) (order : List Place) : Type 0 where
  pub places : All (IsTurn may_give party n) order
  pub rising : AllPairs Rises order
  pub output : IsOutput sessions start order party n failed before now
