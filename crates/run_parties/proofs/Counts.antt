-- How many commands of each party were taken that may have a place.
use Rattle.std.proofs.Common.{◌≡◌, ◌≢◌, ℕ, zero, suc, List, [], ◌∷◌, length, set, Option, Some, None, refl, sym, ap, ◌∙◌}
use Rattle.std.specs.Prelude.{slice_get}
use Rattle.std.proofs.lemmas.Option.{same_Some}
use Rattle.depot_model.specs.declared.request.Session.{Session}
use Rattle.run_parties.proofs.Slots.{also_at}
use Rattle.run_parties.specs.Served.{AreApart, session_counts}
use Rattle.session_loop.specs.declared.reading.ReplicaScript.{ReplicaScript}
use Rattle.session_loop.specs.declared.session.SessionRun.{SessionRun}

-- that of a session is its run's
pub count_at : (scripts : List (Option ReplicaScript)) (runs : List SessionRun) (i : ℕ) (run : SessionRun) → slice_get scripts i ≡ Some None → slice_get runs i ≡ Some run
    → slice_get (session_counts scripts runs) i ≡ Some run.commands
count_at [] runs i run at_script at = absurd cc
count_at (s ∷ scripts) [] i run at_script at = absurd cc
count_at (None ∷ scripts) (r ∷ runs) zero run at_script at = ap (λ (x : SessionRun). Some x.commands) (same_Some _ _ at)
count_at (Some script ∷ scripts) (r ∷ runs) zero run at_script at = absurd cc
count_at (None ∷ scripts) (r ∷ runs) (suc i) run at_script at = count_at scripts runs i run at_script at
count_at (Some script ∷ scripts) (r ∷ runs) (suc i) run at_script at = count_at scripts runs i run at_script at

-- a session's run
pub counts_set : (scripts : List (Option ReplicaScript)) (runs : List SessionRun) (i : ℕ) (run : SessionRun) → slice_get scripts i ≡ Some None
    → session_counts scripts (set runs i run) ≡ set (session_counts scripts runs) i run.commands
counts_set [] runs i run at_script = absurd cc
counts_set (None ∷ scripts) [] i run at_script = refl
counts_set (Some script ∷ scripts) [] i run at_script = refl
counts_set (None ∷ scripts) (r ∷ runs) zero run at_script = refl
counts_set (Some script ∷ scripts) (r ∷ runs) zero run at_script = absurd cc
counts_set (None ∷ scripts) (r ∷ runs) (suc i) run at_script = ap (λ (cs : List ℕ). r.commands ∷ cs) (counts_set scripts runs i run at_script)
counts_set (Some script ∷ scripts) (r ∷ runs) (suc i) run at_script = ap (λ (cs : List ℕ). 0 ∷ cs) (counts_set scripts runs i run at_script)

-- any other run
pub counts_stay : (scripts : List (Option ReplicaScript)) (runs : List SessionRun) (i : ℕ) (run : SessionRun) → slice_get scripts i ≢ Some None
    → session_counts scripts (set runs i run) ≡ session_counts scripts runs
counts_stay [] runs i run other = refl
counts_stay (None ∷ scripts) [] i run other = refl
counts_stay (Some script ∷ scripts) [] i run other = refl
counts_stay (None ∷ scripts) (r ∷ runs) zero run other = absurd (other refl)
counts_stay (Some script ∷ scripts) (r ∷ runs) zero run other = refl
counts_stay (None ∷ scripts) (r ∷ runs) (suc i) run other = ap (λ (cs : List ℕ). r.commands ∷ cs) (counts_stay scripts runs i run other)
counts_stay (Some script ∷ scripts) (r ∷ runs) (suc i) run other = ap (λ (cs : List ℕ). 0 ∷ cs) (counts_stay scripts runs i run other)

-- a party that has a session is no replica
pub session_at : (sessions : List (Option Session)) (scripts : List (Option ReplicaScript)) (i : ℕ) (session : Session) → length scripts ≡ length sessions → AreApart sessions scripts
    → slice_get sessions i ≡ Some (Some session) → slice_get scripts i ≡ Some None
session_at sessions scripts i session as_many apart has =
    let there = also_at sessions scripts i (Some session) (sym as_many) has in
    there.1 ∙ ap (λ (found : Option ReplicaScript). Some found) (none there.0 there.1)
  where
    none : (found : Option ReplicaScript) → slice_get scripts i ≡ Some found → found ≡ None
    none None at = refl
    none (Some script) at = absurd (let both = sym has ∙ apart i script at in cc)
