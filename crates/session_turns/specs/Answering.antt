-- Answers to the parties, whatever the depot. This project's own choice.
use Rattle.std.specs.Prelude.{◌≡◌, ◌≤◌, ◌+◌, ◌-◌, nat_lt, ℕ, Bool, true, false, List, map, slice_get, slice_set, Option, Some, None, Result, Ok, Err, if◌then◌else◌}
use Rattle.std.specs.Option.{IsSomeAnd}
use Rattle.outside_api.specs.Count.{HasRisen}
use Rattle.outside_api.specs.Says.{SinkSays}
use Rattle.depot_rows.specs.depot_model.Deeds.{Deed}
use Rattle.depot_rows.specs.depot_model.declared.order.Answer.{Answer}
use Rattle.depot_rows.specs.depot_model.declared.order.Place.{Place}
use Rattle.depot_rows.specs.depot_model.declared.request.Session.{Session}
use Rattle.run_parties.specs.Giving.{Got, text_of}
use Rattle.run_parties.specs.Served.{AreServed}
use Rattle.session_loop.specs.declared.reading.ReplicaScript.{ReplicaScript}
use Rattle.session_loop.specs.declared.session.SessionRun.{SessionRun}

-- ---- one command

-- a party has a command that isn't answered
abbrev pub has_more_at : Option SessionRun → Option ℕ → Bool
has_more_at (Some run) (Some total) = nat_lt run.commands total
has_more_at _ _ = false

-- one that isn't answered, and its sink has not failed
abbrev pub has_left_at : Option SessionRun → Option ℕ → Bool
has_left_at (Some run) total = if run.failed then false else has_more_at (Some run) total
has_left_at None total = false

-- how many aren't answered
abbrev pub left_count : Option SessionRun → Option ℕ → ℕ
left_count (Some run) (Some total) = total - run.commands
left_count _ _ = 0

-- the reply of an answer, if there is one, and what is given of it
abbrev pub reply_in : {E : Type 0} → Result Answer E → Result (List ℕ) E
reply_in (Ok answer) = Ok answer.reply
reply_in (Err error) = Err error

abbrev pub reply_of : {E : Type 0} → Result Answer E → ℕ → List ℕ
reply_of answer number = text_of (reply_in answer) number

-- one party got the text of an answer to the command that has this number
pub record IsAnsweredAt {K : Type 0} (sink_says : SinkSays K) (at : ℕ) (text : ℕ → List ℕ) (old_runs new_runs : List SessionRun) (old_sinks new_sinks : List K) (failed : Bool) : Type 0 where
  pub run : SessionRun
  pub sink : K
  pub new : K
  pub at_run : slice_get old_runs at ≡ Some run
  pub at_sink : slice_get old_sinks at ≡ Some sink
  pub runs : new_runs ≡ slice_set old_runs at (record { commands = run.commands + 1; failed = failed })
  pub sinks : new_sinks ≡ slice_set old_sinks at new
  pub got : Got failed (text (run.commands + 1)) (sink_says.given sink) (sink_says.given new)
  pub counts : sink_says.faults sink ≤ sink_says.faults new
  pub cause : failed ≡ true → HasRisen (sink_says.faults sink) (sink_says.faults new)

-- whose sink failed has still failed
abbrev pub StayFailed : List SessionRun → List SessionRun → Type 0
StayFailed old new = (j : ℕ) (run : SessionRun) → slice_get old j ≡ Some run → run.failed ≡ true → IsSomeAnd (slice_get new j) (λ now. now.failed ≡ true)

-- The replies stay those of an order that gets no place, and whose sink has failed has still failed.
pub record AnswersNone {K : Type 0} (may_give : ℕ → Type 0) (sink_says : SinkSays K) (old_runs new_runs : List SessionRun) (old_sinks new_sinks : List K) : Type 0 where
  pub served : (sessions : List (Option Session)) (scripts : List (Option ReplicaScript)) (start : List Deed) (before : List (Option (List ℕ))) (order : List Place)
      → AreServed may_give sessions scripts start old_runs before (map sink_says.given old_sinks) order → AreServed may_give sessions scripts start new_runs before (map sink_says.given new_sinks) order
  pub stay : StayFailed old_runs new_runs

-- all commands of a party are answered, unless its sink failed
abbrev pub IsDoneAt : List SessionRun → List ℕ → ℕ → Type 0
IsDoneAt runs totals i = (run : SessionRun) (total : ℕ) → slice_get runs i ≡ Some run → slice_get totals i ≡ Some total → run.failed ≡ false → total ≤ run.commands

abbrev pub AreDone : List SessionRun → List ℕ → Type 0
AreDone runs totals = (i : ℕ) → IsDoneAt runs totals i

-- a party got nothing
abbrev pub IsSameAt : {K : Type 0} → ℕ → List SessionRun → List SessionRun → List K → List K → Type 0
IsSameAt i old_runs new_runs old_sinks new_sinks = (slice_get new_runs i ≡ slice_get old_runs i) × (slice_get new_sinks i ≡ slice_get old_sinks i)
