-- The parties of a run, from what came by their doors, what was read of their scripts and how their turns ended.
use Rattle.std.proofs.Common.{◌≡◌, ℕ, ◌+◌, Bool, List, get_or, length, map, Option, Some, None, refl, sym, ap, subst, ◌∙◌, arith}
use Rattle.std.specs.Prelude.{slice_get, option_map}
use Rattle.std.proofs.lemmas.Option.{slice_get_within, slice_get-map}
use Rattle.outside_api.specs.Count.{HasRisen}
use Rattle.outside_api.specs.Says.{DiskSays, SourceSays, SinkSays}
use Rattle.depot_rows.specs.depot_model.Deeds.{Deed}
use Rattle.depot_rows.specs.depot_model.Order.{IsOrder}
use Rattle.depot_rows.specs.depot_model.declared.order.Place.{Place}
use Rattle.depot_rows.specs.depot_model.declared.request.Session.{Session}
use Rattle.depot_runs.specs.Run.{placed}
use Rattle.party_threads.specs.replica_turns.Along.{IsToldOutput}
use Rattle.party_threads.specs.replica_turns.Master.{CanBeFollowed, Past}
use Rattle.party_threads.specs.run_parties.Replicas.{AreReplicasServed, AreReplicasTold}
use Rattle.party_threads.specs.run_parties.Served.{AreServed, IsEnd, AreEnds as TurnsEnd, session_counts, total_of}
use Rattle.party_threads.specs.serial_depot.Running.{HasRun}
use Rattle.party_threads.specs.serial_depot.declared.depot.SerialDepot.{SerialDepot}
use Rattle.session_loop.specs.Reading.{IsAsked}
use Rattle.session_loop.specs.declared.reading.ReplicaScript.{ReplicaScript}
use Rattle.session_loop.specs.declared.session.SessionRun.{SessionRun}
use Rattle.wire_text.specs.declared.script.ScriptEnd.{ScriptEnd}
use Rattle.p4_server.specs.declared.ended.PartyEnd.{PartyEnd}
use Rattle.p4_server.specs.Ends.{ended_party, ended_parties, run_of}
use Rattle.p4_server.specs.Headline.{AreEnds, AreReplies, AreRepliesTold, HaveFailed, IsPartyEnd, IsPartyOf, IsRunFrom, Ordering}
use Rattle.p4_server.specs.Parties.{AreRead, HaveCome, IsPair, IsRead}
use Rattle.p4_server.proofs.Ending.{ended_at, ended_length, run_is, runs_are}
use Rattle.p4_server.proofs.Together.{at_once, there}

module _ {S K : Type 0} (source_says : SourceSays S) (sink_says : SinkSays K) where
  -- the end of one party
  abbrev pub end_of : (i place : ℕ) → place ≡ i + 1 → (input output : Option (List ℕ)) (was source : S) (first sink : K) (session : Option Session) (replica : Option ReplicaScript) (run : SessionRun) (end : ScriptEnd)
      → IsPair source_says sink_says input output was first → IsRead source_says was source session replica end → IsEnd sink_says (total_of session replica) run first sink
      → IsPartyEnd source_says sink_says input (i + 1) source (ended_party place run end sink)
  end_of i place is input output was source first sink session replica run end pair read ended =
      let P : Option (List ℕ) → Type 0 = λ o. IsAsked o (source_says.left source) (source_says.faults was) (source_says.faults source) session replica end in
      let Q : ℕ → Type 0 = λ n. IsAsked input (source_says.left source) n (source_says.faults source) session replica end in
      let R : ℕ → Type 0 = λ n. HasRisen n (sink_says.faults sink) in
      record {
        read = record { session = session; replica = replica; end = end };
        failed = run.failed;
        read_is = subst Q pair.new_source (subst P pair.reads read.asked);
        number_is = is;
        apart = read.apart;
        end = refl;
        within = ended.within;
        all = ended.all;
        cause = λ failed. subst R pair.new_sink (ended.cause failed);
      }

  module _ (inputs outputs : List ℕ → Option (List ℕ)) (names : List (List ℕ)) (before sources : List S) (sessions : List (Option Session)) (replicas : List (Option ReplicaScript)) (ends : List ScriptEnd) (firsts sinks : List K) (runs : List SessionRun)
      (come : HaveCome source_says sink_says inputs outputs names before firsts) (read : AreRead source_says before sources sessions replicas ends) (turns : TurnsEnd sink_says sessions replicas runs firsts sinks) where
    pub runs_count : length runs ≡ length sinks
    runs_count = omega (arith, turns.runs_count, turns.sinks_count, read.sessions_count, come.sources_count, come.sinks_count)

    pub ends_count : length ends ≡ length sinks
    ends_count = omega (arith, turns.sinks_count, read.ends_count, come.sources_count, come.sinks_count)

    pub sinks_count : length sinks ≡ length names
    sinks_count = omega (arith, turns.sinks_count, come.sinks_count)

    -- all that there is of one party
    record IsFound (i : ℕ) (name : List ℕ) (source : S) (party : PartyEnd K) : Type 0 where
      place : ℕ
      run : SessionRun
      end : ScriptEnd
      sink : K
      first : K
      was : S
      session : Option Session
      replica : Option ReplicaScript
      place_is : place ≡ i + 1
      run_at : slice_get runs i ≡ Some run
      sink_at : slice_get sinks i ≡ Some sink
      first_at : slice_get firsts i ≡ Some first
      session_at : slice_get sessions i ≡ Some session
      replica_at : slice_get replicas i ≡ Some replica
      is : party ≡ ended_party place run end sink
      pair : IsPair source_says sink_says (inputs name) (outputs name) was first
      one : IsRead source_says was source session replica end
      ended : IsEnd sink_says (total_of session replica) run first sink

    found : (i : ℕ) (name : List ℕ) (source : S) (party : PartyEnd K) → slice_get names i ≡ Some name → slice_get sources i ≡ Some source → slice_get (ended_parties 1 runs ends sinks) i ≡ Some party → IsFound i name source party
    found i name source party name_at source_at party_at =
        let e = ended_at 1 runs ends sinks i party party_at in
        let lt = slice_get_within names i name name_at in
        let first = there firsts i (omega (arith, lt, come.sinks_count)) in
        let was = there before i (omega (arith, lt, come.sources_count)) in
        let session = there sessions i (omega (arith, lt, come.sources_count, read.sessions_count)) in
        let replica = there replicas i (omega (arith, lt, come.sources_count, read.replicas_count)) in
        record {
          place = e.place;
          run = e.run;
          end = e.end;
          sink = e.sink;
          first = first.0;
          was = was.0;
          session = session.0;
          replica = replica.0;
          place_is = omega (arith, e.place_is);
          run_at = e.run_at;
          sink_at = e.sink_at;
          first_at = first.1;
          session_at = session.1;
          replica_at = replica.1;
          is = e.is;
          pair = come.each i name was.0 first.0 name_at was.1 first.1;
          one = read.each i was.0 source session.0 replica.0 e.end was.1 source_at session.1 replica.1 e.end_at;
          ended = turns.each i session.0 replica.0 e.run first.0 e.sink session.1 replica.1 e.run_at first.1 e.sink_at;
        }

    pub ends_of : AreEnds source_says sink_says inputs names (ended_parties 1 runs ends sinks) sources
    ends_of = record {
      parties_count = ended_length 1 runs ends sinks runs_count ends_count ∙ sinks_count;
      sources_count = read.sources_count ∙ come.sources_count;
      each = λ i name source party name_at source_at party_at.
          let f = found i name source party name_at source_at party_at in
          rw f.is (end_of i f.place f.place_is (inputs name) (outputs name) f.was source f.first f.sink f.session f.replica f.run f.end f.pair f.one f.ended);
    }

    module _ {D : Type 0} (disk_says : DiskSays D) (may_give : ℕ → Type 0) (since : ℕ) (start : List Deed) (order : List Place) (turn_counts : ℕ → Option (List ℕ)) (lost : Bool) (from depot : SerialDepot D)
        (served : AreServed may_give sessions replicas start runs (map sink_says.given firsts) (map sink_says.given sinks) order)
        (copies : AreReplicasServed disk_says may_give sessions replicas since start order turn_counts runs lost (λ k. HaveFailed disk_says from depot k) (map sink_says.given firsts) (map sink_says.given sinks)) where
      abbrev Replies : Option (List ℕ) → ℕ → ℕ → Option ReplicaScript → ℕ → Bool → Option (List ℕ) → Option (List ℕ) → Type 0
      Replies at_turns losses number replica commands failed was now = AreReplies disk_says source_says sink_says may_give since start sessions order at_turns losses number replica commands failed was now

      abbrev Party : Option (List ℕ) → ℕ → Option (List ℕ) → Option (List ℕ) → ℕ → Option Session → Option ReplicaScript → S → PartyEnd K → Type 0
      Party at_turns losses input output number session replica source party = IsPartyOf disk_says source_says sink_says may_give since start sessions order at_turns losses input output number session replica source party

      given_at : (ks : List K) (i : ℕ) (k : K) → slice_get ks i ≡ Some k → slice_get (map sink_says.given ks) i ≡ Some (sink_says.given k)
      given_at ks i k at = slice_get-map sink_says.given ks i ∙ ap (option_map sink_says.given) at

      replies_at : (i : ℕ) (replica : Option ReplicaScript) (run : SessionRun) (first sink : K) → slice_get replicas i ≡ Some replica → slice_get runs i ≡ Some run → slice_get firsts i ≡ Some first → slice_get sinks i ≡ Some sink
          → Replies (turn_counts i) (get_or copies.losses i 0) (i + 1) replica run.commands run.failed (sink_says.given first) (sink_says.given sink)
      replies_at i None run first sink replica_at run_at first_at sink_at = served.each i run (sink_says.given first) (sink_says.given sink) replica_at run_at (given_at firsts i first first_at) (given_at sinks i sink sink_at)
      replies_at i (Some script) run first sink replica_at run_at first_at sink_at =
          record { output = copies.each i script run (sink_says.given first) (sink_says.given sink) replica_at run_at (given_at firsts i first first_at) (given_at sinks i sink sink_at) }

      party_of : (i : ℕ) (name : List ℕ) (session : Option Session) (replica : Option ReplicaScript) (source : S) (party : PartyEnd K) → slice_get names i ≡ Some name → slice_get sessions i ≡ Some session → slice_get replicas i ≡ Some replica
          → slice_get sources i ≡ Some source → slice_get (ended_parties 1 runs ends sinks) i ≡ Some party → Party (turn_counts i) (get_or copies.losses i 0) (inputs name) (outputs name) (i + 1) session replica source party
      party_of i name session replica source party name_at session_at replica_at source_at party_at =
          let f = found i name source party name_at source_at party_at in
          let lost_here = get_or copies.losses i 0 in
          let same : session ≡ f.session = at_once sessions i f.session session f.session_at session_at in
          let same_replica : replica ≡ f.replica = at_once replicas i f.replica replica f.replica_at replica_at in
          let P : Option (List ℕ) → Type 0 = λ o. Replies (turn_counts i) lost_here (i + 1) f.replica f.run.commands f.run.failed o (sink_says.given f.sink) in
          let own : Party (turn_counts i) lost_here (inputs name) (outputs name) (i + 1) f.session f.replica source (ended_party f.place f.run f.end f.sink) = record {
            ends = end_of i f.place f.place_is (inputs name) (outputs name) f.was source f.first f.sink f.session f.replica f.run f.end f.pair f.one f.ended;
            session_is = refl;
            replica_is = refl;
            replies = subst P f.pair.gives (replies_at i f.replica f.run f.first f.sink f.replica_at f.run_at f.first_at f.sink_at);
          } in
          let with_session : Option Session → Type 0 = λ s. Party (turn_counts i) lost_here (inputs name) (outputs name) (i + 1) s f.replica source (ended_party f.place f.run f.end f.sink) in
          let with_replica : Option ReplicaScript → Type 0 = λ r. Party (turn_counts i) lost_here (inputs name) (outputs name) (i + 1) session r source (ended_party f.place f.run f.end f.sink) in
          let with_party : PartyEnd K → Type 0 = λ p. Party (turn_counts i) lost_here (inputs name) (outputs name) (i + 1) session replica source p in
          subst with_party (sym f.is) (subst with_replica (sym same_replica) (subst with_session (sym same) own))

      module _ (began : Past → Type 0) (copies_told : (past : Past) → began past → AreReplicasTold past start sessions replicas may_give order turn_counts runs (map sink_says.given firsts) (map sink_says.given sinks)) where
        told_at : (past : Past) → began past
            → AreRepliesTold disk_says source_says sink_says may_give since start past outputs names sessions replicas order turn_counts (ended_parties 1 runs ends sinks)
        told_at past b i name script party name_at script_at party_at =
            let lt = slice_get_within names i name name_at in
            let source = there sources i (omega (arith, lt, read.sources_count, come.sources_count)) in
            let f = found i name source.0 party name_at source.1 party_at in
            let its_run : run_of party ≡ f.run = ap (λ (p : PartyEnd K). run_of p) f.is ∙ run_is f.place f.run f.end f.sink in
            let sink_is : sink_says.given party.sink ≡ sink_says.given f.sink = ap (λ (p : PartyEnd K). sink_says.given p.sink) f.is in
            let T : SessionRun → Option (List ℕ) → Option (List ℕ) → Type 0 = λ r was now. IsToldOutput past start (map (placed sessions) order) may_give (i + 1) script (turn_counts i) r.commands r.failed was now in
            let own : T f.run (sink_says.given f.first) (sink_says.given f.sink) = copies_told past b i script f.run (sink_says.given f.first) (sink_says.given f.sink) script_at f.run_at (given_at firsts i f.first f.first_at) (given_at sinks i f.sink f.sink_at) in
            subst (λ (r : SessionRun). T r (outputs name) (sink_says.given party.sink)) (sym its_run)
            (subst (λ (o : Option (List ℕ)). T f.run (outputs name) o) (sym sink_is) (subst (λ (o : Option (List ℕ)). T f.run o (sink_says.given f.sink)) f.pair.gives own))

        pub run_from : (IsOrdered : Ordering) → HasRun disk_says depot since start (map (placed sessions) order) → ((past : Past) → began past → CanBeFollowed disk_says past start (map (placed sessions) order) depot)
            → IsOrdered sessions replicas start order turn_counts runs → IsRunFrom disk_says source_says sink_says may_give since start from depot IsOrdered began inputs outputs names order lost (ended_parties 1 runs ends sinks) sources
        run_from IsOrdered ran followed ordered =
            let P : List SessionRun → Type 0 = λ rs. IsOrder may_give (session_counts replicas rs) order in
            let Q : List SessionRun → Type 0 = λ rs. IsOrdered sessions replicas start order turn_counts rs in
            record {
              headline = record {
                sessions = sessions;
                replicas = replicas;
                sessions_count = read.sessions_count ∙ come.sources_count;
                replicas_count = read.replicas_count ∙ come.sources_count;
                parties_count = ends_of.parties_count;
                sources_count = ends_of.sources_count;
                places = subst P (sym (runs_are 1 runs ends sinks runs_count ends_count)) served.places;
                losses = copies.losses;
                told = copies.told;
                turn_counts = turn_counts;
                each = party_of;
              };
              ran = ran;
              failures = copies.failures;
              ordered = subst Q (sym (runs_are 1 runs ends sinks runs_count ends_count)) ordered;
              told = told_at;
              followed = followed;
            }

-- where a run began is said by less
module _ {D S K : Type 0} (disk_says : DiskSays D) (source_says : SourceSays S) (sink_says : SinkSays K) (may_give : ℕ → Type 0) (since : ℕ) (start : List Deed) where
  pub began_from : (from depot : SerialDepot D) (IsOrdered : Ordering) (began other : Past → Type 0) (inputs outputs : List ℕ → Option (List ℕ)) (names : List (List ℕ)) (order : List Place) (lost : Bool) (parties : List (PartyEnd K)) (sources : List S)
      → ((past : Past) → other past → began past)
      → IsRunFrom disk_says source_says sink_says may_give since start from depot IsOrdered began inputs outputs names order lost parties sources
      → IsRunFrom disk_says source_says sink_says may_give since start from depot IsOrdered other inputs outputs names order lost parties sources
  began_from from depot IsOrdered began other inputs outputs names order lost parties sources leads r =
      record { headline = r.headline; ran = r.ran; failures = r.failures; ordered = r.ordered; told = λ past b. r.told past (leads past b); followed = λ past b. r.followed past (leads past b) }
