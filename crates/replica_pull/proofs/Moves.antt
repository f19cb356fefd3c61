-- What follows of what a replica does with what is fetched.
use Rattle.std.proofs.Common.{◌≡◌, ℕ, ◌≤◌, List, Result, Ok, Err, IfOk, OnErr, ap, arith, subst}
use Rattle.std.specs.Result.{IfErr}
use Rattle.outside_api.specs.Link.{Fits}
use Rattle.outside_api.specs.declared.link.Fetched.{Fetched}
use Rattle.outside_api.specs.declared.link.Fetched.TheVariants as fetches
use Rattle.journal_groups.specs.declared.moved.Moved.{Moved}
use Rattle.journal_groups.specs.declared.moved.Moved.TheVariants as moves
use Rattle.replica_pull.specs.declared.fault.PullFault.{PullFault}
use Rattle.replica_pull.specs.declared.fault.PullFault.TheVariants as faults
use Rattle.replica_pull.specs.declared.replica.Replica.{Replica}
use Rattle.replica_pull.specs.Replica.{HasMoved, IsStopped}

pub ok_on : (X E : Type 0) (P Q : X → Type 0) (r : Result X E) → IfOk r P → ((x : X) → P x → Q x) → IfOk r Q
ok_on X E P Q (Ok x) has leads = leads x has
ok_on X E P Q (Err e) has leads = tt

pub err_on : (X E : Type 0) (P Q : E → Type 0) (r : Result X E) → IfErr r P → ((e : E) → P e → Q e) → IfErr r Q
err_on X E P Q (Ok x) has leads = tt
err_on X E P Q (Err e) has leads = leads e has

pub fits_on : (f : Fetched) (n m : ℕ) → Fits f n → n ≤ m → Fits f m
fits_on (fetches.Bytes k) n m fits within = omega (arith, fits, within)
fits_on fetches.End n m fits within = tt
fits_on fetches.Next n m fits within = tt

module _ (old new : Replica) (buffer : List ℕ) where
  up : (f : Fetched) (m : Moved) → HasMoved old new f buffer m → old.changes ≤ new.changes
  up (fetches.Bytes n) (moves.Taken bytes changes) has = omega (arith, has.1.changes)
  up (fetches.Bytes n) moves.Nothing has = absurd has
  up (fetches.Bytes n) moves.Next has = absurd has
  up fetches.End (moves.Taken bytes changes) has = absurd has
  up fetches.End moves.Nothing has = omega (arith, ap (λ (r : Replica). r.changes) has)
  up fetches.End moves.Next has = absurd has
  up fetches.Next (moves.Taken bytes changes) has = absurd has
  up fetches.Next moves.Nothing has = absurd has
  up fetches.Next moves.Next has = omega (arith, has.changes)

  -- the count of changes never falls
  pub never_falls : (f : Fetched) (r : Result Moved PullFault) → IfOk r (HasMoved old new f buffer) → OnErr r (new ≡ old) → old.changes ≤ new.changes
  never_falls f (Ok m) moved kept = up f m moved
  never_falls f (Err fault) moved kept = omega (arith, ap (λ (r : Replica). r.changes) kept)

-- what is fetched is no fault of a link
no_fault : (r : Replica) (buffer : List ℕ) (f : Fetched) → IsStopped r f buffer faults.LinkFault → ⊥
no_fault r buffer (fetches.Bytes n) has = has
no_fault r buffer fetches.End has = has
no_fault r buffer fetches.Next has = has

pub no_link_fault : (r : Replica) (buffer : List ℕ) (f : Fetched) (result : Result Moved PullFault) → IfErr result (IsStopped r f buffer) → result ≡ Err faults.LinkFault → ⊥
no_link_fault r buffer f result has is = no_fault r buffer f (subst (λ (x : Result Moved PullFault). IfErr x (IsStopped r f buffer)) is has)
