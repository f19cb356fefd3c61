-- The depot behind the places of the machine's order, and what a party sees of it. This project's own choice.
use Rattle.std.specs.Prelude.{◌≡◌, ◌≢◌, ℕ, true, false, List, [], ◌∷◌, map, take, slice_get, Option, Some, None}
use Rattle.depot_model.specs.db_records.Key.{key_table}
use Rattle.depot_model.specs.db_records.declared.key.Key.{Key}
use Rattle.depot_model.specs.db_records.declared.table.TableId.{TableId}
use Rattle.depot_model.specs.Commands.{step}
use Rattle.depot_model.specs.Deeds.{Deed}
use Rattle.depot_model.specs.Places.{done_at, taken}
use Rattle.depot_model.specs.Records.{record_of}
use Rattle.depot_model.specs.Rules.{IsSound}
use Rattle.depot_model.specs.Step.{after}
use Rattle.depot_model.specs.Tables.{is_in, needs_of}
use Rattle.depot_model.specs.declared.lock.LockId.TheVariants.{Table}
use Rattle.depot_model.specs.declared.request.Request.{Request}
use Rattle.lock_machine.specs.Machine.{Seen, Work, Party, Commit, State, Finish, Done, Fault, NoMemory, event}
use Rattle.lock_machine.specs.declared.stage.Stage.TheVariants.{Judged}
use Rattle.lock_machine.specs.Orderly.{IsOrderly}
use Rattle.lock_machine.specs.Proper.{IsServed}

-- the depot after the places of an order
abbrev pub depot_after : List Deed → List Commit → List Deed
depot_after start order = taken step start (map (λ (c : Commit). c.place) order)

-- these are the tables of which some row differs between two depots
pub record AreChanged (d e : List Deed) (changed : List TableId) : Type 0 where
  pub same : (key : Key) → is_in changed (key_table key) ≡ false → record_of d key ≡ record_of e key
  pub differ : (table : TableId) → is_in changed table ≡ true → (key : Key) × (key_table key ≡ table) × (record_of d key ≢ record_of e key)

-- the order tells of each place the tables that it changed
abbrev pub IsTold : List Deed → List Commit → Type 0
IsTold d [] = Unit {0}
IsTold d (c ∷ order) = AreChanged d (after d (done_at step d c.place)) c.changed × IsTold (after d (done_at step d c.place)) order

-- a commit that is done tells them of its command
abbrev pub Tells : List Deed → Request → Finish → Type 0
Tells d request (Done changed) = AreChanged d (after d (step d request).deeds) changed
Tells d request Fault = Unit {0}
Tells d request NoMemory = Unit {0}

abbrev pub TellsBy : List Deed → Option Work → Finish → Type 0
TellsBy d None how = Unit {0}
TellsBy d (Some w) how = w.stage ≡ Judged → Tells d w.request how

abbrev pub TellsAt : List Deed → Option Party → Finish → Type 0
TellsAt d None how = Unit {0}
TellsAt d (Some p) how = TellsBy d p.work how

-- ---- a list of events

-- an event of a party, and how its commit ends, if it is one
pub record Event : Type 0 where
  pub party : ℕ
  pub how : Finish

abbrev pub events : State → List Event → State
events s [] = s
events s (e ∷ es) = events (event needs_of s e.party e.how) es

-- each commit that is done tells what it changes
abbrev pub AllTell : List Deed → State → List Event → Type 0
AllTell start s [] = Unit {0}
AllTell start s (e ∷ es) = TellsAt (depot_after start s.order) (slice_get s.parties e.party) e.how × AllTell start (event needs_of s e.party e.how) es

-- at first no party has begun
abbrev pub idle : List Request → Party
idle left = record { left = left; work = None }

abbrev pub beginning : List (List Request) → State
beginning requests = record { parties = map idle requests; order = [] }

-- ---- what holds after each

-- what was seen of a table is what the depot has of it
abbrev pub IsSight : List Deed → List Commit → Seen → Type 0
IsSight start order s =
    (key : Key) → Table (key_table key) ≡ s.need.lock → record_of (depot_after start (take s.places order)) key ≡ record_of (depot_after start order) key

abbrev pub AreSights : List Deed → List Commit → List Seen → Type 0
AreSights start order [] = Unit {0}
AreSights start order (s ∷ seen) = IsSight start order s × AreSights start order seen

-- A command that judged saw all of its set, and each table of it as the depot has it after all places so far.
pub record SawAll (start : List Deed) (order : List Commit) (w : Work) : Type 0 where
  pub whole : map (λ (s : Seen). s.need) w.seen ≡ needs_of w.request
  pub sights : AreSights start order w.seen

abbrev pub SawAllBy : List Deed → List Commit → Option Work → Type 0
SawAllBy start order None = Unit {0}
SawAllBy start order (Some w) = w.stage ≡ Judged → SawAll start order w

abbrev pub AllServed : List Request → Type 0
AllServed [] = Unit {0}
AllServed (request ∷ requests) = IsServed request × AllServed requests

abbrev pub AllServedIn : List (List Request) → Type 0
AllServedIn [] = Unit {0}
AllServedIn (left ∷ requests) = AllServed left × AllServedIn requests

abbrev pub IsServedBy : Option Work → Type 0
IsServedBy None = Unit {0}
IsServedBy (Some w) = IsServed w.request

abbrev pub AreServed : List Party → Type 0
AreServed [] = Unit {0}
AreServed (p ∷ parties) = AllServed p.left × IsServedBy p.work × AreServed parties

-- the machine after events over a depot: no lock has two owners, the order tells what its places changed, and the depot is sound
pub record IsRun (start : List Deed) (s : State) : Type 0 where
  pub orderly : IsOrderly needs_of s
  pub told : IsTold start s.order
  pub sound : IsSound (depot_after start s.order)
  pub served : AreServed s.parties
