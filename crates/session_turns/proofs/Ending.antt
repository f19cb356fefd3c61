-- The ends of the parties.
use Rattle.std.proofs.Common.{◌≡◌, ℕ, ◌≤◌, List, length, Option, Some, refl, sym, ap, subst, ◌∙◌, arith}
use Rattle.std.specs.Prelude.{slice_get}
use Rattle.std.proofs.lemmas.List.{length-map}
use Rattle.outside_api.specs.Says.{SinkSays}
use Rattle.depot_rows.specs.depot_model.declared.request.Session.{Session}
use Rattle.lock_machine.proofs.Places.{some_is}
use Rattle.run_parties.specs.Asking.{fresh}
use Rattle.run_parties.specs.Served.{AreEnds, total_of}
use Rattle.session_loop.specs.declared.reading.ReplicaScript.{ReplicaScript}
use Rattle.session_loop.specs.declared.session.SessionRun.{SessionRun}
use Rattle.session_turns.proofs.Fresh.{fresh_at}
use Rattle.session_turns.specs.Answering.{AreDone}
use Rattle.session_turns.specs.Running.{AreWithin, IsWithin, fresh_runs}

-- at first
pub within_none : {K : Type 0} (sink_says : SinkSays K) (totals : List ℕ) (sinks : List K) → AreWithin sink_says totals (fresh_runs totals) sinks sinks
within_none sink_says totals sinks = record {
  runs_count = length-map totals (λ (n : ℕ). fresh);
  sinks_count = refl;
  each = λ i total run old new at_total at_run at_old at_new.
      let run_is = fresh_at totals i run at_run in
      let same : old ≡ new = some_is (sym at_old ∙ at_new) in
      let le : sink_says.faults old ≤ sink_says.faults new = (let e = ap sink_says.faults same in omega (arith, e)) in
      let P : SessionRun → Type 0 = λ r. IsWithin sink_says total r old new in
      subst P (sym run_is) (record { within = omega arith; counts = le; cause = λ is. absurd cc });
}

-- at the end
pub ends_are : {K : Type 0} (sink_says : SinkSays K) (sessions : List (Option Session)) (scripts : List (Option ReplicaScript)) (bounds : List ℕ) (runs : List SessionRun) (before now : List K) → length bounds ≡ length sessions
    → ((i : ℕ) (session : Option Session) (script : Option ReplicaScript) → slice_get sessions i ≡ Some session → slice_get scripts i ≡ Some script → slice_get bounds i ≡ Some (total_of session script))
    → AreWithin sink_says bounds runs before now → AreDone runs bounds → AreEnds sink_says sessions scripts runs before now
ends_are sink_says sessions scripts bounds runs before now count are within done = record {
  runs_count = within.runs_count ∙ count;
  sinks_count = within.sinks_count;
  each = λ i session script run old new at_session at_script at_run at_old at_new.
      let total = are i session script at_session at_script in
      let one = within.each i (total_of session script) run old new total at_run at_old at_new in
      record {
        all = λ whole. let most = one.within in let least = done i run (total_of session script) at_run total whole in omega (arith, most, least);
        within = one.within;
        counts = one.counts;
        cause = one.cause;
      };
}
