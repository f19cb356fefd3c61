-- The replicas of a run from turn to turn.
use Rattle.std.proofs.Common.{◌≡◌, ℕ, ◌+◌, ◌-◌, ◌<◌, Bool, true, false, List, [], ◌∷◌, ◌++◌, get_or, length, map, set, Option, Some, add-zero, sym, ap, subst, ◌∙◌, arith, inl, inr}
use Rattle.std.specs.Prelude.{◌||◌, nat_lt, slice_get, option_map}
use Rattle.std.specs.List.{sum}
use Rattle.std.proofs.Math.Bool.{or-false, or-true}
use Rattle.std.proofs.lemmas.Bool.{lt-ltb}
use Rattle.std.proofs.lemmas.List.{get_or-set_other, get_or-set_same, length-append, length-set, map-set}
use Rattle.std.proofs.lemmas.List.Sums.{sum_by-set}
use Rattle.std.proofs.lemmas.Option.{get_or_from_slice_get, slice_get-map, slice_get_within}
use Rattle.outside_api.specs.Says.{DiskSays, SinkSays}
use Rattle.depot_rows.specs.depot_model.Deeds.{Deed}
use Rattle.depot_rows.specs.depot_model.Places.{Placed}
use Rattle.lock_machine.proofs.Places.{set_here, set_there, some_is}
use Rattle.run_parties.proofs.Outputs.{got_more}
use Rattle.run_parties.proofs.Slots.{at_set}
use Rattle.run_parties.proofs.replica_turns.Turns.{goes_on, going_longer}
use Rattle.run_parties.specs.Giving.{Got, HasGiven}
use Rattle.run_parties.specs.Replicas.{AreLost}
use Rattle.run_parties.specs.replica_turns.Going.{HasGotTexts, IsGoing, is_lost, one_if, reply_text}
use Rattle.run_parties.specs.replica_turns.declared.party.ReplicaParty.{ReplicaParty}
use Rattle.run_parties.specs.serial_depot.Running.{HasRun}
use Rattle.session_loop.specs.Asking.{AreWellFormed}
use Rattle.session_loop.specs.declared.reading.ReplicaScript.{ReplicaScript}
use Rattle.session_loop.specs.declared.session.SessionRun.{SessionRun}
use Rattle.session_turns.specs.Drawn.{left_after_turn}
use Rattle.session_turns.specs.Answering.{IsAnsweredAt}
use Rattle.session_turns.specs.Going.{AreFollowing, IsLeft, IsStepped}
use Rattle.session_turns.specs.declared.replicas.Replicas.{Replicas}
use Rattle.session_turns.specs.declared.turns.Turns.{Turns}

-- ---- how many replies tell that a disk failed

-- the number of a party's, after one more reply
abbrev pub loss_after : List ℕ → ℕ → Bool → ℕ
loss_after losses i lost = get_or losses i 0 + one_if lost

-- and so of all
pub all_lost : (losses : List ℕ) (i : ℕ) (lost : Bool) → i < length losses → sum (set losses i (loss_after losses i lost)) ≡ sum losses + one_if lost
all_lost losses i lost low = let same = sum_by-set (λ (n : ℕ). n) losses i (loss_after losses i lost) 0 low in omega (arith, same)

-- there is one, or not
some_lost : (n : ℕ) (lost : Bool) → nat_lt 0 (n + one_if lost) ≡ (nat_lt 0 n || lost)
some_lost n true = lt-ltb 0 (n + 1) (omega arith) ∙ sym (or-true (nat_lt 0 n))
some_lost n false = ap (nat_lt 0) (add-zero n) ∙ sym (or-false (nat_lt 0 n))

-- A replica took its turn: its sink got the text, and one command fewer is left to it, or none where the sink failed.
pub record IsReplicaTurn {D K : Type 0} (disk_says : DiskSays D) (sink_says : SinkSays K) (at : ℕ) (p : ReplicaParty) (old new : Turns D K) : Type 0 where
  pub mid : Replicas
  pub text : ℕ → List ℕ
  pub failed : Bool
  pub stepped : IsStepped disk_says old.depot new.depot at p old.replicas mid text
  pub parties : new.replicas.parties.items ≡ mid.parties.items
  pub lost : new.replicas.lost ≡ mid.lost
  pub others : new.replicas.others.items ≡ set old.replicas.others.items at (left_after_turn (get_or old.replicas.others.items at 0) failed)
  pub answered : IsAnsweredAt sink_says at text old.runs.items new.runs.items old.sinks.items new.sinks.items failed
  pub tables : new.depot.tables ≡ old.depot.tables
  pub core : new.core ≡ old.core
  pub totals : new.totals ≡ old.totals
  pub order : new.order ≡ old.order

-- ---- all replicas

module _ {D : Type 0} (disk_says : DiskSays D) (since : ℕ) (start : List Deed) (places : List Placed) (may_give : ℕ → Type 0) (scripts : List (Option ReplicaScript)) where
  abbrev Following : Replicas → List ℕ → (ℕ → List ℕ) → List SessionRun → List (Option (List ℕ)) → List (Option (List ℕ)) → Type 0
  Following replicas losses counts runs before now = AreFollowing disk_says since start places may_give scripts replicas losses counts runs before now

  -- over more places
  pub following_longer : (more : List Placed) (replicas : Replicas) (losses : List ℕ) (counts : ℕ → List ℕ) (runs : List SessionRun) (before now : List (Option (List ℕ))) → Following replicas losses counts runs before now
      → AreFollowing disk_says since start (places ++ more) may_give scripts replicas losses counts runs before now
  following_longer more replicas losses counts runs before now h = record {
    count = h.count;
    none = h.none;
    left = h.left;
    told = h.told;
    gave = λ i script run p given got at_script at_run at_party at_given at_got formed.
        let g = h.gave i script run p given got at_script at_run at_party at_given at_got formed in
        record {
          texts = g.texts;
          count = g.count;
          going = going_longer disk_says since start places may_give (i + 1) script more p (counts i) g.texts (get_or losses i 0) g.going;
          got = g.got;
        };
  }

  -- where no replica got anything
  pub following_stays : (replicas : Replicas) (losses : List ℕ) (counts : ℕ → List ℕ) (runs runs' : List SessionRun) (before now now' : List (Option (List ℕ)))
      → ((i : ℕ) (script : ReplicaScript) → slice_get scripts i ≡ Some (Some script) → (slice_get runs' i ≡ slice_get runs i) × (slice_get now' i ≡ slice_get now i))
      → Following replicas losses counts runs before now → Following replicas losses counts runs' before now'
  following_stays replicas losses counts runs runs' before now now' same h = record {
    count = h.count;
    none = h.none;
    left = λ i script run at_script at_run. h.left i script run at_script (sym (same i script at_script).0 ∙ at_run);
    told = h.told;
    gave = λ i script run p given got at_script at_run at_party at_given at_got formed.
        h.gave i script run p given got at_script (sym (same i script at_script).0 ∙ at_run) at_party at_given (sym (same i script at_script).1 ∙ at_got) formed;
  }

  -- ---- a turn of one of them

  module _ {K : Type 0} (sink_says : SinkSays K) (old new : Turns D K) (ran : HasRun disk_says old.depot since start places) (i : ℕ) (script : ReplicaScript) (at_script : slice_get scripts i ≡ Some (Some script)) (p : ReplicaParty)
      (at_party : slice_get old.replicas.parties.items i ≡ Some (Some p)) (before : List (Option (List ℕ))) (t : IsReplicaTurn disk_says sink_says i p old new) (whole : t.answered.run.failed ≡ false)
      (losses : List ℕ) (counts counts' : ℕ → List ℕ) (count_here : counts' i ≡ counts i ++ length places ∷ []) (count_there : (j : ℕ) → (i ≡ j → ⊥) → counts' j ≡ counts j)
      (h : Following old.replicas losses counts old.runs.items before (map sink_says.given old.sinks.items)) where
    abbrev run' : SessionRun
    run' = record { commands = t.answered.run.commands + 1; failed = t.failed }

    abbrev next : ReplicaParty
    next = t.stepped.next

    parties_are : new.replicas.parties.items ≡ set old.replicas.parties.items i (Some next)
    parties_are = t.parties ∙ t.stepped.parties

    -- its failed disks
    low : i < length losses
    low = let within = slice_get_within scripts i (Some script) at_script in let count = h.told.count in omega (arith, within, count)

    abbrev lost : Bool
    lost = is_lost t.stepped.result

    abbrev loss : ℕ
    loss = loss_after losses i lost

    abbrev losses' : List ℕ
    losses' = set losses i loss

    loss_here : get_or losses' i 0 ≡ loss
    loss_here = get_or-set_same losses i loss 0 low

    loss_there : (j : ℕ) → (i ≡ j → ⊥) → get_or losses' j 0 ≡ get_or losses j 0
    loss_there j apart = get_or-set_other losses i j loss 0 (λ e. apart (sym e))

    losses_told : AreLost scripts losses' new.replicas.lost
    losses_told = record {
      count = length-set losses i loss ∙ h.told.count;
      none = λ j at_none. loss_there j (λ e. let both = sym at_none ∙ (ap (slice_get scripts) (sym e) ∙ at_script) in cc) ∙ h.told.none j at_none;
      one = t.lost ∙ (t.stepped.lost_is ∙ (ap (λ (b : Bool). b || lost) h.told.one ∙ sym (ap (nat_lt 0) (all_lost losses i lost low) ∙ some_lost (sum losses) lost)));
    }

    abbrev pub was : IsLeft script old.replicas i t.answered.run
    was = h.left i script t.answered.run at_script t.answered.at_run

    left_here : 0 < was.other → IsLeft script new.replicas i run'
    left_here some =
        let now : ℕ = left_after_turn (get_or old.replicas.others.items i 0) t.failed in
        let is : get_or old.replicas.others.items i 0 ≡ was.other = get_or_from_slice_get old.replicas.others.items i was.other 0 was.at_other in
        record {
          p = next;
          other = now;
          at_party = ap (λ (ps : List (Option ReplicaParty)). slice_get ps i) parties_are ∙ set_here old.replicas.parties.items i (Some p) (Some next) at_party;
          at_other = ap (λ (os : List ℕ). slice_get os i) t.others ∙ set_here old.replicas.others.items i was.other now was.at_other;
          stopped = λ bad. ap (left_after_turn (get_or old.replicas.others.items i 0)) bad;
          left = λ good.
              let one : now ≡ was.other - 1 = ap (left_after_turn (get_or old.replicas.others.items i 0)) good ∙ ap (λ (n : ℕ). n - 1) is in
              let same : was.p ≡ p = some_is (some_is (sym was.at_party ∙ at_party)) in
              let before_it = was.left whole ∙ ap (λ (q : ReplicaParty). length q.left.items) same in
              let fewer = t.stepped.left in
              omega (arith, one, before_it, fewer);
          total = λ good.
              let one : now ≡ was.other - 1 = ap (left_after_turn (get_or old.replicas.others.items i 0)) good ∙ ap (λ (n : ℕ). n - 1) is in
              let before_it = was.total whole in
              omega (arith, one, before_it, some);
        }

    gave_here : (had : Option (List ℕ)) → slice_get before i ≡ Some had → AreWellFormed script.session.commands → HasGiven disk_says since start places may_give (i + 1) script next run' (counts' i) (get_or losses' i 0) had (sink_says.given t.answered.new)
    gave_here had at_had formed =
        let got_at : slice_get (map sink_says.given old.sinks.items) i ≡ Some (sink_says.given t.answered.sink) = slice_get-map sink_says.given old.sinks.items i ∙ ap (option_map sink_says.given) t.answered.at_sink in
        let g = h.gave i script t.answered.run p had (sink_says.given t.answered.sink) at_script t.answered.at_run at_party at_had got_at formed in
        let result = t.stepped.result in
        let text = reply_text result (length g.texts + 1) in
        let P : Bool → Type 0 = λ b. HasGotTexts b g.texts had (sink_says.given t.answered.sink) in
        let Q : List ℕ → Type 0 = λ x. Got t.failed x (sink_says.given t.answered.sink) (sink_says.given t.answered.new) in
        let gives : Q text = subst Q (t.stepped.text_is (t.answered.run.commands + 1) ∙ ap (λ (n : ℕ). reply_text result (n + 1)) (sym g.count)) t.answered.got in
        record {
          texts = g.texts ++ text ∷ [];
          count = (let long = length-append g.texts (text ∷ []) in let same = g.count in omega (arith, long, same));
          going =
              subst (λ (cs : List ℕ). IsGoing disk_says since start places may_give (i + 1) script next cs (g.texts ++ text ∷ []) (get_or losses' i 0)) (sym count_here)
              (subst (IsGoing disk_says since start places may_give (i + 1) script next (counts i ++ length places ∷ []) (g.texts ++ text ∷ [])) (sym loss_here)
              (goes_on disk_says since start places may_give (i + 1) script old.depot p next (counts i) g.texts (get_or losses i 0) result ran g.going t.stepped.turned));
          got = got_more t.failed g.texts text had (sink_says.given t.answered.sink) (sink_says.given t.answered.new) (subst P whole g.got) gives;
        }

    sinks_are : map sink_says.given new.sinks.items ≡ set (map sink_says.given old.sinks.items) i (sink_says.given t.answered.new)
    sinks_are = ap (map sink_says.given) t.answered.sinks ∙ map-set sink_says.given old.sinks.items i t.answered.new

    pub following_turned : 0 < was.other → Following new.replicas losses' counts' new.runs.items before (map sink_says.given new.sinks.items)
    following_turned some = record {
      count = ap (length {A = ℕ}) t.others ∙ (length-set old.replicas.others.items i (left_after_turn (get_or old.replicas.others.items i 0) t.failed) ∙ h.count);
      none = λ j other at_none at_other.
          elim (at_set old.replicas.others.items i j (left_after_turn (get_or old.replicas.others.items i 0) t.failed) other (ap (λ (os : List ℕ). slice_get os j) (sym t.others) ∙ at_other)) [
            | inl here ↦ absurd (let both = sym at_none ∙ (ap (slice_get scripts) (sym here.0) ∙ at_script) in cc)
            | inr there ↦ h.none j other at_none there.1
          ];
      left = λ j script' run at_script' at_run.
          elim (at_set old.runs.items i j run' run (ap (λ (rs : List SessionRun). slice_get rs j) (sym t.answered.runs) ∙ at_run)) [
            | inl here ↦
                let same : script ≡ script' = some_is (some_is (sym at_script ∙ (ap (slice_get scripts) here.0 ∙ at_script'))) in
                let P : ReplicaScript → ℕ → SessionRun → Type 0 = λ s k r. IsLeft s new.replicas k r in
                subst (λ (r : SessionRun). P script' j r) (sym here.1) (subst (λ (k : ℕ). P script' k run') here.0 (subst (λ (s : ReplicaScript). P s i run') same (left_here some)))
            | inr there ↦
                let l = h.left j script' run at_script' there.1 in
                record {
                  p = l.p;
                  other = l.other;
                  at_party = ap (λ (ps : List (Option ReplicaParty)). slice_get ps j) parties_are ∙ (set_there old.replicas.parties.items i j (Some next) there.0 ∙ l.at_party);
                  at_other = ap (λ (os : List ℕ). slice_get os j) t.others ∙ (set_there old.replicas.others.items i j (left_after_turn (get_or old.replicas.others.items i 0) t.failed) there.0 ∙ l.at_other);
                  stopped = l.stopped;
                  left = l.left;
                  total = l.total;
                }
          ];
      told = losses_told;
      gave = λ j script' run q had got at_script' at_run at_q at_had at_got formed.
          elim (at_set old.runs.items i j run' run (ap (λ (rs : List SessionRun). slice_get rs j) (sym t.answered.runs) ∙ at_run)) [
            | inl here ↦
                let same : script ≡ script' = some_is (some_is (sym at_script ∙ (ap (slice_get scripts) here.0 ∙ at_script'))) in
                let party : next ≡ q = some_is (some_is (sym (set_here old.replicas.parties.items i (Some p) (Some next) at_party) ∙ (sym (ap (λ (ps : List (Option ReplicaParty)). slice_get ps i) parties_are) ∙ (ap (slice_get new.replicas.parties.items) here.0 ∙ at_q)))) in
                let got_is : sink_says.given t.answered.new ≡ got =
                some_is (sym (set_here (map sink_says.given old.sinks.items) i (sink_says.given t.answered.sink) (sink_says.given t.answered.new) (slice_get-map sink_says.given old.sinks.items i ∙ ap (option_map sink_says.given) t.answered.at_sink))
                ∙ (sym (ap (λ (os : List (Option (List ℕ))). slice_get os i) sinks_are) ∙ (ap (slice_get (map sink_says.given new.sinks.items)) here.0 ∙ at_got))) in
                let G : ℕ → ReplicaScript → ReplicaParty → SessionRun → Option (List ℕ) → Type 0 = λ k s r x o. HasGiven disk_says since start places may_give (k + 1) s r x (counts' k) (get_or losses' k 0) had o in
                let first : G i script next run' (sink_says.given t.answered.new) = gave_here had (ap (slice_get before) here.0 ∙ at_had) (subst (λ (s : ReplicaScript). AreWellFormed s.session.commands) (sym same) formed) in
                subst (λ (x : SessionRun). G j script' q x got) (sym here.1) (subst (λ (k : ℕ). G k script' q run' got) here.0 (subst (λ (s : ReplicaScript). G i s q run' got) same
                (subst (λ (r : ReplicaParty). G i script r run' got) party (subst (λ (o : Option (List ℕ)). G i script next run' o) got_is first))))
            | inr there ↦
                let g = h.gave j script' run q had got at_script' there.1 (sym (set_there old.replicas.parties.items i j (Some next) there.0) ∙ (sym (ap (λ (ps : List (Option ReplicaParty)). slice_get ps j) parties_are) ∙ at_q)) at_had
                (sym (set_there (map sink_says.given old.sinks.items) i j (sink_says.given t.answered.new) there.0) ∙ (sym (ap (λ (os : List (Option (List ℕ))). slice_get os j) sinks_are) ∙ at_got)) formed in
                subst (λ (cs : List ℕ). HasGiven disk_says since start places may_give (j + 1) script' q run cs (get_or losses' j 0) had got) (sym (count_there j there.0))
                (subst (λ (n : ℕ). HasGiven disk_says since start places may_give (j + 1) script' q run (counts j) n had got) (sym (loss_there j there.0)) g)
          ];
    }
