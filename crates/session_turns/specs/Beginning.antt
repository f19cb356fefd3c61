-- What a run begins with. This project's own choice.
use Rattle.std.specs.Prelude.{◌≡◌, ℕ, false, List, length, Option}
use Rattle.depot_rows.specs.Standing.{Stand}
use Rattle.depot_rows.specs.depot_model.Deeds.{Deed}
use Rattle.depot_rows.specs.depot_model.declared.request.Request.{Request}
use Rattle.depot_rows.specs.depot_model.declared.request.Session.{Session}
use Rattle.depot_rows.specs.table_changes.Changed.{rows_of}
use Rattle.depot_rows.specs.table_store.declared.tables.Tables.{Tables}
use Rattle.lock_core.specs.Core.{AllProperIn, Shows}
use Rattle.lock_machine.specs.Runs.{beginning}
use Rattle.run_parties.specs.Asking.{AreFresh}
use Rattle.session_loop.specs.Requests.{AreRequestsOfAll}
use Rattle.session_loop.specs.declared.reading.ReplicaScript.{ReplicaScript}
use Rattle.session_turns.specs.Drawn.{replica_totals}
use Rattle.session_turns.specs.Running.{AreTotals, fresh_runs}
use Rattle.session_turns.specs.declared.beginning.Beginning.{Beginning}

-- All requests are made, the machine is at its beginning over the tables, and no party has taken a command.
pub record HasBegun (may_give : ℕ → Type 0) (sessions : List (Option Session)) (scripts : List (Option ReplicaScript)) (tables : Tables) (new : Beginning) : Type 0 where
  pub requests : List (List Request)
  pub asked : AreRequestsOfAll may_give 1 sessions requests
  pub shows : (start : List Deed) → Stand (rows_of tables) start → AllProperIn requests → Shows start new.core (beginning requests)
  pub rows : rows_of new.core.tables ≡ rows_of tables
  pub end : new.core.tables.archive_end ≡ tables.archive_end
  pub fresh : AreFresh may_give 1 scripts new.replicas.parties.items
  pub others : new.replicas.others.items ≡ replica_totals scripts
  pub lost : new.replicas.lost ≡ false
  pub totals_count : length new.totals.items ≡ length sessions
  pub totals : AreTotals sessions scripts new.totals.items
  pub runs : new.runs.items ≡ fresh_runs new.totals.items
