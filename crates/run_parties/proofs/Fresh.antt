-- The replicas of a run before their first command.
use Rattle.std.proofs.Common.{◌≡◌, ℕ, zero, suc, ◌+◌, ◌≤◌, List, [], ◌∷◌, ◌++◌, length, Option, Some, None, refl, subst, arith}
use Rattle.std.specs.Prelude.{slice_get}
use Rattle.std.specs.List.{AllByRecursion}
use Rattle.std.proofs.lemmas.Option.{same_Some}
use Rattle.replica_turns.specs.Going.{IsFresh}
use Rattle.replica_turns.specs.declared.party.ReplicaParty.{ReplicaParty}
use Rattle.run_parties.specs.Asking.{AreFresh, IsFreshParty, left_in}
use Rattle.session_loop.specs.Asking.{replica_commands}
use Rattle.session_loop.specs.declared.reading.ReplicaScript.{ReplicaScript}

-- the party of a replica's script
pub party_at : (may_give : ℕ → Type 0) (party : ℕ) (scripts : List (Option ReplicaScript)) (parties : List (Option ReplicaParty)) → AreFresh may_give party scripts parties → (i : ℕ) (script : ReplicaScript)
    → slice_get scripts i ≡ Some (Some script) → (p : ReplicaParty) × (slice_get parties i ≡ Some (Some p)) × (IsFresh may_give (party + i) script p × (length p.left.items ≡ length script.session.commands))
party_at may_give party [] parties all i script at = absurd cc
party_at may_give party (s ∷ scripts) [] all i script at = absurd all
party_at may_give party (None ∷ scripts) (q ∷ parties) all zero script at = absurd cc
party_at may_give party (Some t ∷ scripts) (None ∷ parties) all zero script at = absurd all.0
party_at may_give party (Some t ∷ scripts) (Some q ∷ parties) all zero script at =
    let same : t ≡ script = same_Some _ _ (same_Some _ _ at) in
    let e : party ≡ party + 0 = omega arith in
    let P : ℕ → ReplicaScript → Type 0 = λ n s. IsFresh may_give n s q × (length q.left.items ≡ length s.session.commands) in
    (q, refl, subst (λ (n : ℕ). P n script) e (subst (P party) same all.0))
party_at may_give party (s ∷ scripts) (q ∷ parties) all (suc i) script at =
    let more = party_at may_give (suc party) scripts parties all.1 i script at in
    let e : suc party + i ≡ party + suc i = omega arith in
    let P : ℕ → Type 0 = λ n. IsFresh may_give n script more.0 × (length more.0.left.items ≡ length script.session.commands) in
    (more.0, more.1, subst P e more.2)

-- one more
pub fresh_push : (may_give : ℕ → Type 0) (party last : ℕ) (scripts : List (Option ReplicaScript)) (parties : List (Option ReplicaParty)) (script : Option ReplicaScript) (p : Option ReplicaParty) → last ≡ party + length scripts
    → AreFresh may_give party scripts parties → IsFreshParty may_give last script p → AreFresh may_give party (scripts ++ script ∷ []) (parties ++ p ∷ [])
fresh_push may_give party last [] [] script p is all one =
    let first : last ≡ party = omega (arith, is) in
    let P : ℕ → Type 0 = λ n. IsFreshParty may_give n script p in
    (subst P first one, tt)
fresh_push may_give party last [] (q ∷ parties) script p is all one = absurd all
fresh_push may_give party last (s ∷ scripts) [] script p is all one = absurd all
fresh_push may_give party last (s ∷ scripts) (q ∷ parties) script p is all one = (all.0, fresh_push may_give (suc party) last scripts parties script p (omega (arith, is)) all.1 one)

pub few_left : (may_give : ℕ → Type 0) (party : ℕ) (scripts : List (Option ReplicaScript)) (parties : List (Option ReplicaParty)) → AreFresh may_give party scripts parties
    → AllByRecursion (λ (script : Option ReplicaScript). length (replica_commands script) ≤ 67108864) scripts → AllByRecursion (λ (p : Option ReplicaParty). length (left_in p) ≤ 67108864) parties
few_left may_give party [] [] all few = tt
few_left may_give party [] (q ∷ parties) all few = absurd all
few_left may_give party (s ∷ scripts) [] all few = absurd all
few_left may_give party (s ∷ scripts) (q ∷ parties) all few = (one s q all.0 few.0, few_left may_give (suc party) scripts parties all.1 few.1)
  where
    one : (s : Option ReplicaScript) (q : Option ReplicaParty) → IsFreshParty may_give party s q → length (replica_commands s) ≤ 67108864 → length (left_in q) ≤ 67108864
    one None None is low = omega arith
    one None (Some q) is low = absurd is
    one (Some s) None is low = absurd is
    one (Some s) (Some q) is low = (let same = is.1 in omega (arith, same, low))
