-- The turns that the numbers after a seed draw, and the order to which they lead. That a party whose sink failed takes no further command, and that the turns
-- of replicas are drawn with those of the sessions, is this project's own choice.
use Rattle.std.specs.Prelude.{◌≡◌, ◌-◌, ◌++◌, nat_eq, ℕ, Bool, true, List, [], ◌∷◌, length, map, get_or, slice_get, slice_set, All, IsSomeAnd, Option, Some, if◌then◌else◌}
use Rattle.depot_rows.specs.depot_model.Deeds.{Deed}
use Rattle.depot_rows.specs.depot_model.Tables.{needs_of}
use Rattle.depot_rows.specs.depot_model.declared.order.Place.{Place}
use Rattle.depot_rows.specs.depot_model.declared.request.Request.{Request}
use Rattle.depot_rows.specs.depot_model.declared.request.Session.{Session}
use Rattle.depot_runs.specs.Run.{placed}
use Rattle.lock_core.specs.Drawing.{going_parties, has_other}
use Rattle.lock_machine.specs.Draws.{chosen}
use Rattle.lock_machine.specs.Machine.{Finish, State, event, stopped}
use Rattle.lock_machine.specs.Runs.{IsTold, beginning}
use Rattle.seeded_numbers.specs.Numbers.{next_number, value_of}
use Rattle.session_loop.specs.Asking.{replica_commands}
use Rattle.session_loop.specs.Requests.{AreRequestsOfAll}
use Rattle.session_loop.specs.declared.reading.ReplicaScript.{ReplicaScript}
use Rattle.session_loop.specs.declared.session.SessionRun.{SessionRun}

-- A turn of a party: how its commit ends, if it is one, and whether its sink failed then, so that it takes no further command.
pub record Turn : Type 0 where
  pub party : ℕ
  pub how : Finish
  pub stops : Bool

-- ---- a session's turn

abbrev pub ended : State → ℕ → Bool → State
ended s i stops = if stops then stopped s i else s

-- the machine after a turn
abbrev pub turned : State → Turn → State
turned s turn = ended (event needs_of s turn.party turn.how) turn.party turn.stops

-- ---- a replica's turn

-- it answers one command; none is left where its sink failed
abbrev pub left_after_turn : ℕ → Bool → ℕ
left_after_turn left stops = if stops then 0 else left - 1

abbrev pub others_turned : List ℕ → Turn → List ℕ
others_turned others turn = slice_set others turn.party (left_after_turn (get_or others turn.party 0) turn.stops)

-- ---- all turns

-- How far a run is: the machine of its sessions, how many commands each replica has left, and how many places the order had at each of its turns so far, by its
-- place among the parties, from 0.
pub record Progress : Type 0 where
  pub machine : State
  pub others : List ℕ
  pub turn_counts : ℕ → List ℕ

-- the counts after the turn of a replica
abbrev pub counted : Progress → ℕ → ℕ → List ℕ
counted p party i = if nat_eq i party then p.turn_counts i ++ length p.machine.order ∷ [] else p.turn_counts i

-- The turn of a replica that has commands left leaves the machine as it is and is counted, and any other turn is one of the machine.
abbrev pub advanced : Progress → Turn → Progress
advanced p turn =
    if has_other p.others turn.party then record p { others = others_turned p.others turn; turn_counts = counted p turn.party }
    else record p { machine = turned p.machine turn }

-- the parties that may go on
abbrev pub going : Progress → List ℕ
going p = going_parties p.machine p.others

-- From a number and a progress on, each turn is that of the party which the next number draws among those that may go on: whose event is enabled in the
-- machine, or that are replicas with commands left. So the last number and the last progress are reached.
abbrev pub AreDrawn : ℕ → Progress → List Turn → ℕ → Progress → Type 0
AreDrawn x p [] last end = (x ≡ last) × (p ≡ end)
AreDrawn x p (turn ∷ turns) last end =
    (chosen (going p) (value_of (next_number x)) ≡ Some turn.party) × AreDrawn (next_number x) (advanced p turn) turns last end

-- a party stops only where its sink failed
abbrev pub StopsFailed : List SessionRun → Turn → Type 0
StopsFailed runs turn = turn.stops ≡ true → IsSomeAnd (slice_get runs turn.party) (λ run. run.failed ≡ true)

-- how many commands each replica has; other parties have none of these
abbrev pub replica_totals : List (Option ReplicaScript) → List ℕ
replica_totals replicas = map (λ script. length (replica_commands script)) replicas

-- The order is that of the machine, whose parties ask what the sessions ask, after the turns that the numbers after the seed draw until no party may go
-- on. It tells of each place the tables that it changed. The counts are how many places it had at each turn of each replica.
pub record IsDrawn (may_give : ℕ → Type 0) (seed : ℕ) (sessions : List (Option Session)) (replicas : List (Option ReplicaScript)) (start : List Deed) (order : List Place) (turn_counts : ℕ → Option (List ℕ)) (runs : List SessionRun) : Type 0 where
  pub requests : List (List Request)
  pub asked : AreRequestsOfAll may_give 1 sessions requests
  pub turns : List Turn
  pub last : ℕ
  pub end : Progress
  pub drawn : AreDrawn seed (record { machine = beginning requests; others = replica_totals replicas; turn_counts = λ i. [] }) turns last end
  pub done : going end ≡ []
  pub told : IsTold start end.machine.order
  pub order_is : map (placed sessions) order ≡ map (λ c. c.place) end.machine.order
  pub stops : All (StopsFailed runs) turns
  pub counts : (i : ℕ) → turn_counts i ≡ Some (end.turn_counts i)
