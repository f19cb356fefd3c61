use Rattle.std.proofs.Common.{List, Option, length, map, sym, ap, subst, ◌∙◌, arith, Vec, Global}
use Rattle.depot_rows.specs.Standing.{Stand}
use Rattle.depot_rows.specs.depot_model.declared.request.Request.{Request}
use Rattle.depot_rows.specs.depot_model.declared.request.Session.{Session}
use Rattle.depot_rows.specs.table_changes.Changed.{AllRows, rows_of}
use Rattle.depot_rows.specs.table_store.declared.tables.Tables.{Tables}
use Rattle.session_loop.specs.declared.reading.ReplicaScript.{ReplicaScript}
use Rattle.session_turns.specs.Running.{AreTotals, fresh_runs}
use Rattle.session_turns.proofs.beginning.Beginning.new.Goals as goal

pub new-requires-clause-few_parties : goal.new-requires-clause-few_parties
new-requires-clause-few_parties g c = let few = c.requires.few_parties in let same = c.requires.as_many in omega (arith, few, same)

pub returns : goal.returns
returns g c = record {
  requests = map (λ (own : Vec Request Global). own.items) c.in_ok-requests.requests.items;
  asked = c.in_ok-requests.ensures;
  shows = λ start stand proper. c.in_ok-core.ensures.shows start (subst (λ (all : AllRows). Stand all start) (sym c.in_ok-tables.ensures.rows) stand) proper;
  rows = ap rows_of c.in_ok-core.ensures.tables ∙ c.in_ok-tables.ensures.rows;
  end = ap (λ (t : Tables). t.archive_end) c.in_ok-core.ensures.tables ∙ c.in_ok-tables.ensures.end;
  fresh = c.in_ok-replicas.ensures.fresh;
  others = c.in_ok-replicas.ensures.others;
  lost = c.in_ok-replicas.ensures.lost;
  totals_count = c.in_ok-totals.ensures.count ∙ ap (length {A = Option Session}) c.deref.ensures.value;
  totals =
      let Totals : List (Option Session) → List (Option ReplicaScript) → Type 0 = λ sessions scripts. AreTotals sessions scripts c.in_ok-totals.totals.items in
      subst (Totals c.args.sessions.items) c.deref-2.ensures.value (subst (λ (sessions : List (Option Session)). Totals sessions c.deref-2.result.now) c.deref.ensures.value c.in_ok-totals.ensures.each);
  runs = c.in_ok-runs.ensures ∙ ap fresh_runs c.deref-3.ensures.value;
}
