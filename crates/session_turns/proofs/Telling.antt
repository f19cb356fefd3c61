-- The replicas of a run along the depot that they follow, from turn to turn.
use Rattle.std.proofs.Common.{◌≡◌, ℕ, ◌+◌, Bool, false, List, [], ◌∷◌, ◌++◌, length, map, set, Option, Some, refl, sym, ap, subst, ◌∙◌, arith, inl, inr, Vec, Global}
use Rattle.std.specs.Prelude.{slice_get, option_map}
use Rattle.std.proofs.lemmas.List.{length-append, map-append, map-set}
use Rattle.std.proofs.lemmas.Option.{slice_get-map}
use Rattle.outside_api.specs.Disk.{Files}
use Rattle.outside_api.specs.Says.{DiskSays, SinkSays}
use Rattle.archive_file.specs.Contents.{IsTold}
use Rattle.depot_rows.specs.depot_model.Places.{Placed}
use Rattle.depot_rows.specs.depot_model.declared.order.Place.{Place}
use Rattle.depot_runs.specs.Run.{placed}
use Rattle.lock_machine.proofs.Places.{set_here, set_there, some_is}
use Rattle.run_parties.proofs.Fresh.{party_at}
use Rattle.run_parties.proofs.Outputs.{got_more}
use Rattle.run_parties.proofs.Slots.{at_set}
use Rattle.run_parties.proofs.replica_turns.Along.{along_first, along_grown, along_turned}
use Rattle.run_parties.proofs.replica_turns.Masters.{unmoved_master}
use Rattle.run_parties.specs.Asking.{AreFresh}
use Rattle.run_parties.specs.Giving.{Got}
use Rattle.run_parties.specs.replica_turns.Along.{IsAlong}
use Rattle.run_parties.specs.replica_turns.Going.{HasGotTexts, IsFresh, reply_text}
use Rattle.run_parties.specs.replica_turns.Master.{IsMaster, Past}
use Rattle.run_parties.specs.replica_turns.declared.party.ReplicaParty.{ReplicaParty}
use Rattle.run_parties.specs.depot_commit.Growing.{Chronicle, HasGroups, KeepsStored}
use Rattle.session_loop.specs.Asking.{AreWellFormed}
use Rattle.session_loop.specs.declared.reading.ReplicaScript.{ReplicaScript}
use Rattle.session_loop.specs.declared.session.SessionRun.{SessionRun}
use Rattle.session_turns.proofs.Fresh.{fresh_at}
use Rattle.session_turns.specs.Along.{AreAlong, GrowsTo, HasToldAlong}
use Rattle.session_turns.proofs.Following.{IsReplicaTurn}
use Rattle.session_turns.specs.Answering.{IsSameAt}
use Rattle.session_turns.specs.Running.{Scene, fresh_runs}
use Rattle.session_turns.specs.declared.turns.Turns.{Turns}
use Rattle.session_turns.specs.declared.replicas.Replicas.{Replicas}
use Rattle.depot_rows.specs.table_changes.Changed.{rows_of}
use Rattle.wire_text.proofs.Pieces.{extended-nil}

module _ {D K : Type 0} (disk_says : DiskSays D) (sink_says : SinkSays K) (may_give : ℕ → Type 0) (past : Past) (scene : Scene) (counts : ℕ → List ℕ) (old new : Turns D K) (h : AreAlong disk_says sink_says may_give past scene counts old) where
  abbrev order : List Place
  order = old.order.items

  -- what they were placed by
  abbrev places : List Placed
  places = map (placed scene.sessions) order

  -- ---- a session's turn, at which no replica got anything

  pub along_session : new.replicas ≡ old.replicas → ((i : ℕ) (script : ReplicaScript) → slice_get scene.scripts i ≡ Some (Some script) → IsSameAt i old.runs.items new.runs.items old.sinks.items new.sinks.items)
      → (more : List Place) → new.order.items ≡ order ++ more → GrowsTo disk_says past scene.start (map (placed scene.sessions) new.order.items) new.depot h.all → AreAlong disk_says sink_says may_give past scene counts new
  along_session replicas same more longer grows = record {
    all = grows.0;
    master = grows.1;
    told = λ i script run p had got at_script at_run at_party at_had at_got formed.
        let stays = same i script at_script in
        let got_old = slice_get-map sink_says.given old.sinks.items i ∙ (ap (option_map sink_says.given) (sym stays.1) ∙ (sym (slice_get-map sink_says.given new.sinks.items i) ∙ at_got)) in
        let t = h.told i script run p had got at_script (sym stays.0 ∙ at_run) (ap (λ (rs : Replicas). slice_get rs.parties.items i) (sym replicas) ∙ at_party) at_had got_old formed in
        record {
          texts = t.texts;
          count = t.count;
          along = subst (λ (ps : List Placed). IsAlong past scene.start ps may_give (i + 1) script p grows.0 (counts i) t.texts) (sym (ap (map (placed scene.sessions)) longer ∙ map-append (placed scene.sessions) order more))
              (along_grown past scene.start places may_give (i + 1) script p h.all grows.0 (map (placed scene.sessions) more) grows.2 (counts i) t.texts t.along);
          got = t.got;
        };
  }

  -- ---- a replica's turn

  module _ (reads : (disk : D) (files : Files) → disk_says.seen disk files → disk_says.may_leave disk files) (told : (bytes : List ℕ) × IsTold disk_says old.depot.archive bytes) (i : ℕ) (script : ReplicaScript)
      (at_script : slice_get scene.scripts i ≡ Some (Some script)) (p : ReplicaParty) (at_party : slice_get old.replicas.parties.items i ≡ Some (Some p)) (t : IsReplicaTurn disk_says sink_says i p old new)
      (whole : t.answered.run.failed ≡ false)
      (counts' : ℕ → List ℕ) (count_here : counts' i ≡ counts i ++ length places ∷ []) (count_there : (j : ℕ) → (i ≡ j → ⊥) → counts' j ≡ counts j) where
    abbrev run' : SessionRun
    run' = record { commands = t.answered.run.commands + 1; failed = t.failed }

    abbrev next : ReplicaParty
    next = t.stepped.next

    parties_are : new.replicas.parties.items ≡ set old.replicas.parties.items i (Some next)
    parties_are = t.parties ∙ t.stepped.parties

    sinks_are : map sink_says.given new.sinks.items ≡ set (map sink_says.given old.sinks.items) i (sink_says.given t.answered.new)
    sinks_are = ap (map sink_says.given) t.answered.sinks ∙ map-set sink_says.given old.sinks.items i t.answered.new

    got_at : slice_get (map sink_says.given old.sinks.items) i ≡ Some (sink_says.given t.answered.sink)
    got_at = slice_get-map sink_says.given old.sinks.items i ∙ ap (option_map sink_says.given) t.answered.at_sink

    told_here : (had : Option (List ℕ)) → slice_get scene.before i ≡ Some had → AreWellFormed script.session.commands → HasToldAlong past scene.start places may_give (i + 1) script next run' h.all (counts' i) had (sink_says.given t.answered.new)
    told_here had at_had formed =
        let g = h.told i script t.answered.run p had (sink_says.given t.answered.sink) at_script t.answered.at_run at_party at_had got_at formed in
        let result = t.stepped.result in
        let text = reply_text result (length g.texts + 1) in
        let P : Bool → Type 0 = λ b. HasGotTexts b g.texts had (sink_says.given t.answered.sink) in
        let Q : List ℕ → Type 0 = λ x. Got t.failed x (sink_says.given t.answered.sink) (sink_says.given t.answered.new) in
        let gives : Q text = subst Q (t.stepped.text_is (t.answered.run.commands + 1) ∙ ap (λ (n : ℕ). reply_text result (n + 1)) (sym g.count)) t.answered.got in
        record {
          texts = g.texts ++ text ∷ [];
          count = (let long = length-append g.texts (text ∷ []) in let same = g.count in omega (arith, long, same));
          along =
              subst (λ (cs : List ℕ). IsAlong past scene.start places may_give (i + 1) script next h.all cs (g.texts ++ text ∷ [])) (sym count_here)
              (along_turned disk_says reads past scene.start places old.depot h.all h.master told may_give (i + 1) script p next (counts i) g.texts result g.along t.stepped.turned);
          got = got_more t.failed g.texts text had (sink_says.given t.answered.sink) (sink_says.given t.answered.new) (subst P whole g.got) gives;
        }

    pub along_replica : HasGroups disk_says new.depot.journal h.all → KeepsStored disk_says old.depot.archive new.depot.archive → AreAlong disk_says sink_says may_give past scene counts' new
    along_replica groups stored =
        let Now : Vec Place Global → Type 0 = λ o. AreAlong disk_says sink_says may_give past scene counts' (record new { order = o }) in
        subst Now (sym t.order) (record {
          all = h.all;
          master = unmoved_master disk_says past scene.start places old.depot new.depot h.all h.master stored (ap rows_of t.tables) groups;
          told = λ j script' run q had got at_script' at_run at_q at_had at_got formed.
              elim (at_set old.runs.items i j run' run (ap (λ (rs : List SessionRun). slice_get rs j) (sym t.answered.runs) ∙ at_run)) [
                | inl here ↦
                    let same : script ≡ script' = some_is (some_is (sym at_script ∙ (ap (slice_get scene.scripts) here.0 ∙ at_script'))) in
                    let party : next ≡ q = some_is (some_is (sym (set_here old.replicas.parties.items i (Some p) (Some next) at_party) ∙ (sym (ap (λ (ps : List (Option ReplicaParty)). slice_get ps i) parties_are) ∙ (ap (slice_get new.replicas.parties.items) here.0 ∙ at_q)))) in
                    let got_is : sink_says.given t.answered.new ≡ got =
                    some_is (sym (set_here (map sink_says.given old.sinks.items) i (sink_says.given t.answered.sink) (sink_says.given t.answered.new) got_at)
                    ∙ (sym (ap (λ (os : List (Option (List ℕ))). slice_get os i) sinks_are) ∙ (ap (slice_get (map sink_says.given new.sinks.items)) here.0 ∙ at_got))) in
                    let G : ℕ → ReplicaScript → ReplicaParty → SessionRun → Option (List ℕ) → Type 0 = λ k s r x o. HasToldAlong past scene.start places may_give (k + 1) s r x h.all (counts' k) had o in
                    let first : G i script next run' (sink_says.given t.answered.new) = told_here had (ap (slice_get scene.before) here.0 ∙ at_had) (subst (λ (s : ReplicaScript). AreWellFormed s.session.commands) (sym same) formed) in
                    subst (λ (x : SessionRun). G j script' q x got) (sym here.1) (subst (λ (k : ℕ). G k script' q run' got) here.0 (subst (λ (s : ReplicaScript). G i s q run' got) same
                    (subst (λ (r : ReplicaParty). G i script r run' got) party (subst (λ (o : Option (List ℕ)). G i script next run' o) got_is first))))
                | inr there ↦
                    subst (λ (cs : List ℕ). HasToldAlong past scene.start places may_give (j + 1) script' q run h.all cs had got) (sym (count_there j there.0))
                    (h.told j script' run q had got at_script' there.1 (sym (set_there old.replicas.parties.items i j (Some next) there.0) ∙ (sym (ap (λ (ps : List (Option ReplicaParty)). slice_get ps j) parties_are) ∙ at_q)) at_had
                    (sym (set_there (map sink_says.given old.sinks.items) i j (sink_says.given t.answered.new) there.0) ∙ (sym (ap (λ (os : List (Option (List ℕ))). slice_get os j) sinks_are) ∙ at_got)) formed)
              ];
        })

-- ---- before the first turn

pub along_begins : {D K : Type 0} (disk_says : DiskSays D) (sink_says : SinkSays K) (may_give : ℕ → Type 0) (past : Past) (scene : Scene) (turns : Turns D K) (all : Chronicle) → AreFresh may_give 1 scene.scripts turns.replicas.parties.items
    → turns.runs.items ≡ fresh_runs turns.totals.items → scene.before ≡ map sink_says.given turns.sinks.items → IsMaster disk_says past scene.start (map (placed scene.sessions) turns.order.items) turns.depot all → AreAlong disk_says sink_says may_give past scene (λ i. []) turns
along_begins disk_says sink_says may_give past scene turns all are runs_are before_is master = record {
  all = all;
  master = master;
  told = λ i script run p had got at_script at_run at_party at_had at_got formed.
      let places = map (placed scene.sessions) turns.order.items in
      let q = party_at may_give 1 scene.scripts turns.replicas.parties.items are i script at_script in
      let is : q.0 ≡ p = some_is (some_is (sym q.1 ∙ at_party)) in
      let e : 1 + i ≡ i + 1 = omega arith in
      let F : ℕ → ReplicaParty → Type 0 = λ n r. IsFresh may_give n script r in
      let one : IsFresh may_give (i + 1) script p = subst (λ (n : ℕ). F n p) e (subst (F (1 + i)) is q.2.0) in
      let same : had ≡ got = some_is (sym at_had ∙ (ap (λ (os : List (Option (List ℕ))). slice_get os i) before_is ∙ at_got)) in
      let P : SessionRun → Type 0 = λ r. HasToldAlong past scene.start places may_give (i + 1) script p r all [] had got in
      subst P (sym (fresh_at turns.totals.items i run (ap (λ (rs : List SessionRun). slice_get rs i) (sym runs_are) ∙ at_run))) (record {
        texts = [];
        count = refl;
        along = along_first past scene.start places may_give (i + 1) script p all one formed;
        got = sym same ∙ sym (extended-nil had);
      });
}
