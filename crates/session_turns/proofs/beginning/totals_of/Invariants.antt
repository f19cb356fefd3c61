use Rattle.std.proofs.Common.{◌≡◌, ◌<◌, ℕ, Option, Some, length}
use Rattle.std.specs.Prelude.{slice_get}
use Rattle.depot_rows.specs.depot_model.declared.request.Session.{Session}
use Rattle.run_parties.specs.Served.{total_of}
use Rattle.session_loop.specs.declared.reading.ReplicaScript.{ReplicaScript}
use Rattle.session_turns.proofs.beginning.totals_of.Given as goal

-- those so far
abbrev pub invariant-loop-at : goal.invariant-loop-at
invariant-loop-at l = record {
  count : length l.totals.items ≡ l.at;
  each : (i : ℕ) (session : Option Session) (script : Option ReplicaScript) → i < l.at → slice_get l.sessions i ≡ Some session → slice_get l.scripts i ≡ Some script
      → slice_get l.totals.items i ≡ Some (total_of session script);
}
