-- The replicas of a run before its first turn.
use Rattle.std.proofs.Common.{◌≡◌, ℕ, zero, suc, ◌+◌, false, List, [], ◌∷◌, get_or, length, map, Option, Some, None, refl, sym, ap, subst, ◌∙◌, arith}
use Rattle.std.specs.Prelude.{nat_lt, slice_get, option_map}
use Rattle.std.specs.List.{sum}
use Rattle.std.proofs.lemmas.List.{length-map}
use Rattle.std.proofs.lemmas.Option.{slice_get-map}
use Rattle.outside_api.specs.Says.{DiskSays}
use Rattle.depot_rows.specs.depot_model.Deeds.{Deed}
use Rattle.depot_rows.specs.depot_model.Places.{Placed}
use Rattle.lock_machine.proofs.Places.{some_is}
use Rattle.run_parties.proofs.Fresh.{party_at}
use Rattle.run_parties.proofs.replica_turns.Turns.{begins}
use Rattle.run_parties.specs.Asking.{AreFresh, IsFreshParty, fresh, left_in}
use Rattle.run_parties.specs.Giving.{HasGiven}
use Rattle.run_parties.specs.replica_turns.Going.{IsFresh, IsGoing}
use Rattle.run_parties.specs.replica_turns.declared.party.ReplicaParty.{ReplicaParty}
use Rattle.session_loop.specs.Asking.{AreWellFormed, replica_commands}
use Rattle.session_loop.specs.declared.reading.ReplicaScript.{ReplicaScript}
use Rattle.session_loop.specs.declared.session.SessionRun.{SessionRun}
use Rattle.session_turns.specs.Drawn.{replica_totals}
use Rattle.session_turns.specs.Going.{AreFollowing, IsLeft}
use Rattle.session_turns.specs.Running.{fresh_runs}
use Rattle.session_turns.specs.declared.replicas.Replicas.{Replicas}
use Rattle.wire_text.proofs.Pieces.{extended-nil}

pub fresh_at : (totals : List ℕ) (i : ℕ) (run : SessionRun) → slice_get (fresh_runs totals) i ≡ Some run → run ≡ fresh
fresh_at [] i run at = absurd cc
fresh_at (t ∷ totals) zero run at = sym (some_is at)
fresh_at (t ∷ totals) (suc i) run at = fresh_at totals i run at

-- as many commands are left as the scripts have
pub lefts_are : (may_give : ℕ → Type 0) (party : ℕ) (scripts : List (Option ReplicaScript)) (parties : List (Option ReplicaParty)) → AreFresh may_give party scripts parties
    → map (λ (p : Option ReplicaParty). length (left_in p)) parties ≡ replica_totals scripts
lefts_are may_give party [] [] all = refl
lefts_are may_give party [] (q ∷ parties) all = absurd all
lefts_are may_give party (s ∷ scripts) [] all = absurd all
lefts_are may_give party (s ∷ scripts) (q ∷ parties) all = λ k. one s q all.0 k ∷ lefts_are may_give (suc party) scripts parties all.1 k
  where
    one : (s : Option ReplicaScript) (q : Option ReplicaParty) → IsFreshParty may_give party s q → length (left_in q) ≡ length (replica_commands s)
    one None None is = refl
    one None (Some q) is = absurd is
    one (Some s) None is = absurd is
    one (Some s) (Some q) is = is.1

-- no reply tells that a disk failed
abbrev pub no_losses : List (Option ReplicaScript) → List ℕ
no_losses scripts = map (λ (script : Option ReplicaScript). 0) scripts

none_lost_at : (scripts : List (Option ReplicaScript)) (i : ℕ) → get_or (no_losses scripts) i 0 ≡ 0
none_lost_at [] i = refl
none_lost_at (script ∷ scripts) zero = refl
none_lost_at (script ∷ scripts) (suc i) = none_lost_at scripts i

pub none_lost : (scripts : List (Option ReplicaScript)) → sum (no_losses scripts) ≡ 0
none_lost [] = refl
none_lost (script ∷ scripts) = none_lost scripts

module _ {D : Type 0} (disk_says : DiskSays D) (since : ℕ) (start : List Deed) (places : List Placed) (may_give : ℕ → Type 0) (scripts : List (Option ReplicaScript)) (replicas : Replicas) (bounds : List ℕ) (before : List (Option (List ℕ)))
    (are : AreFresh may_give 1 scripts replicas.parties.items) (others : replicas.others.items ≡ replica_totals scripts) where
  other_at : (i : ℕ) (script : Option ReplicaScript) → slice_get scripts i ≡ Some script → slice_get replicas.others.items i ≡ Some (length (replica_commands script))
  other_at i script at =
      ap (λ (os : List ℕ). slice_get os i) others
      ∙ (slice_get-map (λ (s : Option ReplicaScript). length (replica_commands s)) scripts i ∙ ap (option_map (λ (s : Option ReplicaScript). length (replica_commands s))) at)

  fresh_left : (i : ℕ) (script : ReplicaScript) → slice_get scripts i ≡ Some (Some script) → IsLeft script replicas i fresh
  fresh_left i script at =
      let p = party_at may_give 1 scripts replicas.parties.items are i script at in
      record {
        p = p.0;
        other = length (replica_commands (Some script));
        at_party = p.1;
        at_other = other_at i (Some script) at;
        stopped = λ is. absurd cc;
        left = λ whole. sym p.2.1;
        total = λ whole. omega arith;
      }

  fresh_given : (i : ℕ) (script : ReplicaScript) (q : ReplicaParty) (had got : Option (List ℕ)) → AreWellFormed script.session.commands → slice_get scripts i ≡ Some (Some script)
      → slice_get replicas.parties.items i ≡ Some (Some q) → had ≡ got → HasGiven disk_says since start places may_give (i + 1) script q fresh [] (get_or (no_losses scripts) i 0) had got
  fresh_given i script q had got well at at_q same =
      let p = party_at may_give 1 scripts replicas.parties.items are i script at in
      let is : p.0 ≡ q = some_is (some_is (sym p.1 ∙ at_q)) in
      let e : 1 + i ≡ i + 1 = omega arith in
      let P : ℕ → ReplicaParty → Type 0 = λ n r. IsFresh may_give n script r in
      let one : IsFresh may_give (i + 1) script q = subst (λ (n : ℕ). P n q) e (subst (P (1 + i)) is p.2.0) in
      record {
        texts = [];
        count = refl;
        going = subst (IsGoing disk_says since start places may_give (i + 1) script q [] []) (sym (none_lost_at scripts i)) (begins disk_says since start places may_give (i + 1) script q one well);
        got = sym same ∙ sym (extended-nil had);
      }

  pub following_first : replicas.lost ≡ false → AreFollowing disk_says since start places may_give scripts replicas (no_losses scripts) (λ i. []) (fresh_runs bounds) before before
  following_first none = record {
    count = ap (length {A = ℕ}) others ∙ length-map scripts (λ (s : Option ReplicaScript). length (replica_commands s));
    none = λ i other at_none at_other. some_is (sym at_other ∙ other_at i None at_none);
    left = λ i script run at_script at_run.
        let P : SessionRun → Type 0 = IsLeft script replicas i in
        subst P (sym (fresh_at bounds i run at_run)) (fresh_left i script at_script);
    told = record { count = length-map scripts (λ (script : Option ReplicaScript). 0); none = λ i at_none. none_lost_at scripts i; one = none ∙ sym (ap (nat_lt 0) (none_lost scripts)) };
    gave = λ i script run p given got at_script at_run at_party at_given at_got well.
        let P : SessionRun → Type 0 = λ r. HasGiven disk_says since start places may_give (i + 1) script p r [] (get_or (no_losses scripts) i 0) given got in
        subst P (sym (fresh_at bounds i run at_run)) (fresh_given i script p given got well at_script at_party (some_is (sym at_given ∙ at_got)));
  }
