-- A run whose parties have ended, and what it leaves.
use Rattle.std.proofs.Common.{◌≡◌, ◌<◌, ◌≤◌, ◌+◌, ℕ, zero, suc, Bool, true, List, [], ◌∷◌, length, map, Option, Some, None, inl, inr, refl, sym, ap, subst, ◌∙◌, arith}
use Rattle.std.specs.Prelude.{All, get_or, nat_lt, slice_get}
use Rattle.std.specs.List.{AllByRecursion, sum}
use Rattle.std.proofs.lemmas.Bool.{ltb-true}
use Rattle.std.proofs.lemmas.List.{length-map}
use Rattle.std.proofs.lemmas.List.Elements.{recursion_from_All}
use Rattle.std.proofs.lemmas.Option.{same_Some}
use Rattle.archive_file.specs.Archive.{disk_of as archive_disk_of}
use Rattle.outside_api.specs.Count.{counted}
use Rattle.outside_api.specs.Disk.{Files}
use Rattle.outside_api.specs.Says.{DiskSays, SinkSays}
use Rattle.depot_model.specs.Deeds.{Deed}
use Rattle.depot_model.specs.Places.{Placed}
use Rattle.depot_model.specs.declared.order.Place.{Place}
use Rattle.depot_model.specs.declared.request.Request.{Request}
use Rattle.depot_model.specs.declared.request.Session.{Session}
use Rattle.depot_runs.specs.Run.{placed}
use Rattle.disk_journal.specs.Stands.{disk_of}
use Rattle.locked_tables.specs.Taken.{placed_of}
use Rattle.run_parties.proofs.Fresh.{party_at}
use Rattle.run_parties.proofs.Making.{asked_count, many_of}
use Rattle.run_parties.proofs.Slots.{all_at, also_at}
use Rattle.run_parties.specs.Asking.{AreFresh}
use Rattle.run_parties.specs.Replicas.{AreReplicasServed, AreReplicasTold, OneHasRisen}
use Rattle.run_parties.specs.Served.{AreApart, AreEnds, AreServed, IsEnd, total_of}
use Rattle.run_parties.specs.depot_commit.Growing.{Chronicle}
use Rattle.run_parties.specs.replica_turns.Along.{IsToldOutput}
use Rattle.run_parties.specs.replica_turns.Going.{IsFresh, IsReplicaOutput}
use Rattle.run_parties.specs.replica_turns.Master.{CanBeFollowed, IsMaster, Past}
use Rattle.run_parties.specs.replica_turns.declared.party.ReplicaParty.{ReplicaParty}
use Rattle.run_parties.specs.serial_depot.Running.{HasRun}
use Rattle.session_loop.specs.Asking.{AreWellFormed, replica_commands}
use Rattle.session_loop.proofs.Faults.{risen_by_fewer}
use Rattle.session_loop.specs.Requests.{AreRequestsOf, AreRequestsOfAll}
use Rattle.session_loop.specs.Served.{AreCaused, HaveRisenBy, fault_count}
use Rattle.session_loop.specs.declared.reading.ReplicaScript.{ReplicaScript}
use Rattle.session_loop.specs.declared.session.SessionRun.{SessionRun}
use Rattle.shared_depot.specs.Common.{Masters, chronicle_after}
use Rattle.party_threads.proofs.Collecting.{from_map}
use Rattle.party_threads.proofs.Entries.{names_are}
use Rattle.party_threads.proofs.Together.{AllHaveTaken, NoneHasPlace, names, served}
use Rattle.party_threads.specs.Entries.{HasTaken, Names}
use Rattle.party_threads.specs.Parties.{HaveRunAll, IsAmong, IsPartyServed}
use Rattle.party_threads.specs.Replicas.{IsReplicaServed}
use Rattle.party_threads.specs.declared.run.ThreadsRun.{ThreadsRun}

-- ---- what was asked

pub own_at : (may_give : ℕ → Type 0) (party : ℕ) (sessions : List (Option Session)) (requests : List (List Request)) → AreRequestsOfAll may_give party sessions requests → (i : ℕ) (session : Option Session) (own : List Request)
    → slice_get sessions i ≡ Some session → slice_get requests i ≡ Some own → (k : ℕ) × AreRequestsOf may_give k session own
own_at may_give party [] requests all i session own at_session at_own = absurd cc
own_at may_give party (s ∷ sessions) [] all i session own at_session at_own = absurd all
own_at may_give party (s ∷ sessions) (r ∷ requests) all zero session own at_session at_own =
    let Own : Option Session → List Request → Type 0 = AreRequestsOf may_give party in
    (party, subst (λ (x : Option Session). Own x own) (same_Some _ _ at_session) (subst (Own s) (same_Some _ _ at_own) all.0))
own_at may_give party (s ∷ sessions) (r ∷ requests) all (suc i) session own at_session at_own = own_at may_give (suc party) sessions requests all.1 i session own at_session at_own

-- ---- replicas before their first answer

none_at : (may_give : ℕ → Type 0) (party : ℕ) (scripts : List (Option ReplicaScript)) (parties : List (Option ReplicaParty)) → AreFresh may_give party scripts parties → (i : ℕ) → slice_get scripts i ≡ Some None → slice_get parties i ≡ Some None
none_at may_give party [] parties all i at = absurd cc
none_at may_give party (s ∷ scripts) [] all i at = absurd all
none_at may_give party (None ∷ scripts) (None ∷ parties) all zero at = refl
none_at may_give party (None ∷ scripts) (Some q ∷ parties) all zero at = absurd all.0
none_at may_give party (Some t ∷ scripts) (q ∷ parties) all zero at = absurd cc
none_at may_give party (s ∷ scripts) (q ∷ parties) all (suc i) at = none_at may_give (suc party) scripts parties all.1 i at

pub fresh_count : (may_give : ℕ → Type 0) (party : ℕ) (scripts : List (Option ReplicaScript)) (parties : List (Option ReplicaParty)) → AreFresh may_give party scripts parties → length parties ≡ length scripts
fresh_count may_give party [] [] all = refl
fresh_count may_give party [] (q ∷ parties) all = absurd all
fresh_count may_give party (s ∷ scripts) [] all = absurd all
fresh_count may_give party (s ∷ scripts) (q ∷ parties) all = ap suc (fresh_count may_give (suc party) scripts parties all.1)

-- ---- failed disks

-- the fault places alone are no more
pub faults_caused : (order : List Place) (losses : List ℕ) (before now contents_before contents_now : ℕ) → HaveRisenBy (fault_count order + sum losses) before now contents_before contents_now
    → AreCaused before now contents_before contents_now [] order
faults_caused order losses before now contents_before contents_now risen = (
  fault_count order,
  omega arith,
  risen_by_fewer (fault_count order) (fault_count order + sum losses) before now contents_before contents_now (omega arith) risen,
)

some_rose : (failures before now contents_before contents_now : ℕ) → 0 < failures → HaveRisenBy failures before now contents_before contents_now → OneHasRisen before now contents_before contents_now
some_rose failures before now contents_before contents_now some (n, m, all, risen, contents_risen) = go n all risen
  where
    go : (n : ℕ) → failures ≡ n + m → counted n before ≤ now → OneHasRisen before now contents_before contents_now
    go zero all risen = inr (omega (arith, some, all, contents_risen))
    go (suc n) all risen = inl (omega (arith, risen))

-- where a replica was told of one, one failed
pub one_rose : (order : List Place) (losses : List ℕ) (lost : Bool) (before now contents_before contents_now : ℕ) → lost ≡ nat_lt 0 (sum losses) → HaveRisenBy (fault_count order + sum losses) before now contents_before contents_now
    → lost ≡ true → OneHasRisen before now contents_before contents_now
one_rose order losses lost before now contents_before contents_now told risen is =
    let some = ltb-true 0 (sum losses) (sym told ∙ is) in
    some_rose (fault_count order + sum losses) before now contents_before contents_now (omega (arith, some)) risen

-- ---- the parties

module _ {D K : Type 0} (disk_says : DiskSays D) (end : ℕ) (images : Files → Type 0) (sink_says : SinkSays K) (may_give : ℕ → Type 0)
    (sessions : List (Option Session)) (scripts : List (Option ReplicaScript)) (requests : List (List Request)) (asked : AreRequestsOfAll may_give 1 sessions requests) (as_many : length scripts ≡ length sessions) (apart : AreApart sessions scripts)
    (parties : List (Option ReplicaParty)) (first : AreFresh may_give 1 scripts parties) (begins : ℕ → List Deed → Type 0) (masters : Masters) (faults_then contents_then : ℕ) (sinks : List K) (sinks_as_many : length sinks ≡ length sessions) (ran : ThreadsRun D K)
    (s : HaveRunAll disk_says end images may_give sink_says begins masters faults_then contents_then requests parties sinks ran) where
  count : length requests ≡ length sessions
  count = asked_count may_give 1 sessions requests asked

  runs_count : length ran.runs.items ≡ length sessions
  runs_count = s.runs_count ∙ count

  left_count : length ran.sinks.items ≡ length sessions
  left_count = s.sinks_count ∙ count

  among : AllByRecursion (IsAmong (length sessions)) s.order
  among = let Among : ℕ → Type 0 = λ n. AllByRecursion (IsAmong n) s.order in subst Among count s.among

  abbrev Served : ℕ → List Request → Option ReplicaParty → SessionRun → ℕ → K → K → Type 0
  Served party own replica run lost old new = IsPartyServed disk_says end images may_give sink_says begins masters party own replica run lost old new s.order

  -- a party that is known to have a script, or none
  record IsThere (i : ℕ) (replica : Option ReplicaParty) : Type 0 where
    own : List Request
    run : SessionRun
    old : K
    new : K
    is : Served (i + 1) own replica run (get_or s.losses i 0) old new

  there : (i : ℕ) (script : Option ReplicaScript) → slice_get scripts i ≡ Some script → (replica : Option ReplicaParty) → slice_get parties i ≡ Some replica → IsThere i replica
  there i script at replica at_replica =
      let own = also_at scripts requests i script (as_many ∙ sym count) at in
      let run = also_at scripts ran.runs.items i script (as_many ∙ sym runs_count) at in
      let old = also_at scripts sinks i script (as_many ∙ sym sinks_as_many) at in
      let new = also_at scripts ran.sinks.items i script (as_many ∙ sym left_count) at in
      record { own = own.0; run = run.0; old = old.0; new = new.0; is = s.served i own.0 replica run.0 old.0 new.0 own.1 at_replica run.1 old.1 new.1 }

  -- ---- the sessions

  all_taken : AllHaveTaken may_give begins scripts requests ran.runs.items (map sink_says.given sinks) (map sink_says.given ran.sinks.items) s.order
  all_taken i own run had got at_script at_own at_run at_had at_got =
      let old = from_map sink_says.given sinks i had at_had in
      let new = from_map sink_says.given ran.sinks.items i got at_got in
      let one = s.served i own None run old.0 new.0 at_own (none_at may_give 1 scripts parties first i at_script) at_run old.1 new.1 in
      let Taken : Option (List ℕ) → Option (List ℕ) → Type 0 = λ x y. HasTaken may_give begins (i + 1) own run x y s.order in
      subst (λ (y : Option (List ℕ)). Taken had y) new.2 (subst (λ (x : Option (List ℕ)). Taken x (sink_says.given new.0)) old.2 one.0.taken)

  none_placed : NoneHasPlace scripts s.order
  none_placed i script at = let p = party_at may_give 1 scripts parties first i script at in (there i (Some script) at (Some p.0) p.1).is.none

  before_count : length (map sink_says.given sinks) ≡ length sessions
  before_count = length-map sinks sink_says.given ∙ sinks_as_many

  now_count : length (map sink_says.given ran.sinks.items) ≡ length sessions
  now_count = length-map ran.sinks.items sink_says.given ∙ left_count

  names_all : AllByRecursion (Names sessions) s.order
  names_all = names may_give begins sessions scripts requests asked as_many apart ran.runs.items (map sink_says.given sinks) (map sink_says.given ran.sinks.items) s.order count runs_count before_count now_count all_taken none_placed among

  places_are : map (placed sessions) ran.order.items ≡ map placed_of s.order
  places_are = ap (map (placed sessions)) s.places ∙ names_are sessions s.order names_all

  -- the depot has run the places of the order
  pub depot_ran : (since : ℕ) (start : List Deed) → begins since start → HasRun disk_says ran.depot since start (map (placed sessions) ran.order.items)
  depot_ran since start begun = subst (λ (places : List Placed). HasRun disk_says ran.depot since start places) (sym places_are) (s.ran_by since start begun)

  -- and replicas follow it after them
  pub depot_followed : (since : ℕ) (past : Past) (start : List Deed) (c : Chronicle) → begins since start → masters past start c → CanBeFollowed disk_says past start (map (placed sessions) ran.order.items) ran.depot
  depot_followed since past start c begun follows =
      (chronicle_after c s.order, subst (λ (places : List Placed). IsMaster disk_says past start places ran.depot (chronicle_after c s.order)) (sym places_are) (s.followed since past start c begun follows))

  pub all_served : (since : ℕ) (start : List Deed) → begins since start → AreServed may_give sessions scripts start ran.runs.items (map sink_says.given sinks) (map sink_says.given ran.sinks.items) ran.order.items
  all_served since start begun =
      let All : List Place → Type 0 = λ order. AreServed may_give sessions scripts start ran.runs.items (map sink_says.given sinks) (map sink_says.given ran.sinks.items) order in
      subst All (sym s.places)
      (served may_give begins sessions scripts requests asked as_many apart ran.runs.items (map sink_says.given sinks) (map sink_says.given ran.sinks.items) s.order count runs_count before_count now_count all_taken none_placed among since start begun)

  -- ---- the replicas

  -- the replica of a script before its first answer, and how it was served
  record IsReplicaThere (i : ℕ) (script : ReplicaScript) (run : SessionRun) (had got : Option (List ℕ)) : Type 0 where
    p : ReplicaParty
    fresh : IsFresh may_give (i + 1) script p
    well : AreWellFormed script.session.commands
    old : K
    new : K
    old_is : sink_says.given old ≡ had
    new_is : sink_says.given new ≡ got
    served : IsReplicaServed disk_says end images begins masters sink_says may_give (i + 1) p run (get_or s.losses i 0) old new s.order

  replica_at : All (λ (script : Option ReplicaScript). AreWellFormed (replica_commands script)) scripts → (i : ℕ) (script : ReplicaScript) (run : SessionRun) (had got : Option (List ℕ)) → slice_get scripts i ≡ Some (Some script)
      → slice_get ran.runs.items i ≡ Some run → slice_get (map sink_says.given sinks) i ≡ Some had → slice_get (map sink_says.given ran.sinks.items) i ≡ Some got → IsReplicaThere i script run had got
  replica_at formed i script run had got at_script at_run at_had at_got =
      let p = party_at may_give 1 scripts parties first i script at_script in
      let old = from_map sink_says.given sinks i had at_had in
      let new = from_map sink_says.given ran.sinks.items i got at_got in
      let own = also_at scripts requests i (Some script) (as_many ∙ sym count) at_script in
      let number : 1 + i ≡ i + 1 = omega arith in
      let Well : Option ReplicaScript → Type 0 = λ x. AreWellFormed (replica_commands x) in
      record {
        p = p.0;
        fresh = subst (λ (n : ℕ). IsFresh may_give n script p.0) number p.2.0;
        well = all_at Well scripts i (Some script) (recursion_from_All Well scripts formed) at_script;
        old = old.0;
        new = new.0;
        old_is = old.2;
        new_is = new.2;
        served = s.served i own.0 (Some p.0) run old.0 new.0 own.1 p.1 at_run old.1 new.1;
      }

  pub all_replicas_served : All (λ (script : Option ReplicaScript). AreWellFormed (replica_commands script)) scripts → (since : ℕ) (start : List Deed) → begins since start
      → AreReplicasServed disk_says may_give sessions scripts since start ran.order.items (λ party. None) ran.runs.items ran.lost
      (λ failures. HaveRisenBy failures faults_then (disk_says.faults (disk_of ran.depot.journal)) contents_then (disk_says.faults (archive_disk_of ran.depot.archive))) (map sink_says.given sinks) (map sink_says.given ran.sinks.items)
  all_replicas_served formed since start begun = record {
    losses = s.losses;
    told = record {
      count = s.losses_count ∙ (count ∙ sym as_many);
      none = λ i none. (there i None none None (none_at may_give 1 scripts parties first i none)).is.1;
      one = s.told;
    };
    failures = s.failures;
    each = λ i script run had got at_script at_run at_had at_got.
        let r = replica_at formed i script run had got at_script at_run at_had at_got in
        let lost = get_or s.losses i 0 in
        let gave = r.served.gave ran.depot.archive s.stored since start script begun r.fresh r.well in
        let Output : List Placed → Option (List ℕ) → Option (List ℕ) → Type 0 = λ places x y. IsReplicaOutput disk_says since start places may_give (i + 1) script None run.commands run.failed lost x y in
        subst (λ (places : List Placed). Output places had got) (sym places_are)
        (subst (λ (y : Option (List ℕ)). Output (map placed_of s.order) had y) r.new_is (subst (λ (x : Option (List ℕ)). Output (map placed_of s.order) x (sink_says.given r.new)) r.old_is gave));
  }

  -- along a depot that they follow
  pub all_replicas_told : All (λ (script : Option ReplicaScript). AreWellFormed (replica_commands script)) scripts → (since : ℕ) (past : Past) (start : List Deed) (c : Chronicle) → begins since start → masters past start c
      → AreReplicasTold past start sessions scripts may_give ran.order.items (λ party. None) ran.runs.items (map sink_says.given sinks) (map sink_says.given ran.sinks.items)
  all_replicas_told formed since past start c begun follows i script run had got at_script at_run at_had at_got =
      let r = replica_at formed i script run had got at_script at_run at_had at_got in
      let told = r.served.told ran.depot.archive s.stored since past start c script begun follows r.fresh r.well in
      let Output : List Placed → Option (List ℕ) → Option (List ℕ) → Type 0 = λ places x y. IsToldOutput past start places may_give (i + 1) script None run.commands run.failed x y in
      subst (λ (places : List Placed). Output places had got) (sym places_are)
      (subst (λ (y : Option (List ℕ)). Output (map placed_of s.order) had y) r.new_is (subst (λ (x : Option (List ℕ)). Output (map placed_of s.order) x (sink_says.given r.new)) r.old_is told))

  -- ---- the ends

  pub all_ends : AreEnds sink_says sessions scripts ran.runs.items sinks ran.sinks.items
  all_ends = record {
    runs_count = runs_count;
    sinks_count = left_count ∙ sym sinks_as_many;
    each = end_at;
  }
    where
      end_at : (i : ℕ) (session : Option Session) (script : Option ReplicaScript) (run : SessionRun) (old new : K) → slice_get sessions i ≡ Some session → slice_get scripts i ≡ Some script → slice_get ran.runs.items i ≡ Some run
          → slice_get sinks i ≡ Some old → slice_get ran.sinks.items i ≡ Some new → IsEnd sink_says (total_of session script) run old new
      end_at i session None run old new at_session at_script at_run at_old at_new =
          let own = also_at sinks requests i old (sinks_as_many ∙ sym count) at_old in
          let are = own_at may_give 1 sessions requests asked i session own.0 at_session own.1 in
          let one = s.served i own.0 None run old new own.1 (none_at may_give 1 scripts parties first i at_script) at_run at_old at_new in
          let End : ℕ → Type 0 = λ total. IsEnd sink_says total run old new in
          subst End (many_of may_give are.0 session own.0 are.1) one.0.end
      end_at i session (Some script) run old new at_session at_script at_run at_old at_new =
          let p = party_at may_give 1 scripts parties first i script at_script in
          let own = also_at sinks requests i old (sinks_as_many ∙ sym count) at_old in
          let End : ℕ → Type 0 = λ total. IsEnd sink_says total run old new in
          subst End p.2.1 (s.served i own.0 (Some p.0) run old new own.1 p.1 at_run at_old at_new).end
