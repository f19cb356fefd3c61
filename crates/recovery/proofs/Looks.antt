-- Calls that only read a disk, one after another, and the faults that they pass on.
use Rattle.std.proofs.Common.{◌≡◌, ℕ, ◌≤◌, Result, Ok, Err, sym, ◌∙◌, subst, arith}
use Rattle.std.specs.Result.{IsErrAnd}
use Rattle.outside_api.specs.Count.{HasRisen}
use Rattle.outside_api.specs.Moments.{then, weaker}
use Rattle.outside_api.specs.Says.{DiskSays}
use Rattle.recovery.specs.declared.fault.OpenFault.{OpenFault}
use Rattle.recovery.specs.declared.fault.OpenFault.TheVariants.{DiskFault, Memory}
use Rattle.recovery.specs.Faults.{SaysNothing, IsReadOrSaysNothing}
use Rattle.recovery.specs.Looking.{OnlyReads, IsCause}

module _ {D : Type 0} (disk_says : DiskSays D) where
  pub reads_on : (old mid new : D) → OnlyReads disk_says old mid → OnlyReads disk_says mid new → OnlyReads disk_says old new
  reads_on old mid new first second = record {
    same = record { kept = λ f read. second.same.kept f (first.same.kept f read); no_more = λ f read. first.same.no_more f (second.same.no_more f read) };
    no_more = λ f left. first.no_more f (second.no_more f left);
    any_moment = then disk_says old mid new (disk_says.may_leave old) first.any_moment (weaker disk_says mid new (disk_says.may_leave mid) (disk_says.may_leave old) first.no_more second.any_moment);
  }

pub rises_on : (before mid now : ℕ) → before ≤ mid → HasRisen mid now → HasRisen before now
rises_on before mid now le risen = omega (arith, le, risen)

-- a fault that is passed on has the cause that it had
pub passed_cause : {X : Type 0} (r : Result X OpenFault) (fault : OpenFault) (before mid now : ℕ) → IsErrAnd r (λ y. y ≡ fault) → before ≤ mid → mid ≤ now → (fault ≡ DiskFault → HasRisen mid now) → IsCause before now (r ≡ Err DiskFault)
passed_cause (Ok x) fault before mid now is first second risen = absurd is
passed_cause (Err y) fault before mid now is first second risen = record {
  never_falls = omega (arith, first, second);
  risen = λ e. rises_on before mid now first (risen (sym is ∙ same e));
}
  where
    same : {X : Type 0} {a b : OpenFault} → ◌≡◌ {A = Result X OpenFault} (Err a) (Err b) → a ≡ b
    same e = cc

pub passed_nothing : {X : Type 0} (r : Result X OpenFault) (fault : OpenFault) (Q : X → Type 0) → IsErrAnd r (λ y. y ≡ fault) → SaysNothing fault → IsReadOrSaysNothing r Q
passed_nothing (Ok x) fault Q is nothing = absurd is
passed_nothing (Err y) fault Q is nothing = subst SaysNothing (sym is) nothing

pub other_cause : {X : Type 0} (r : Result X OpenFault) (before now : ℕ) → IsErrAnd r (λ y. y ≡ Memory) → before ≤ now → IsCause before now (r ≡ Err DiskFault)
other_cause (Ok x) before now is le = absurd is
other_cause (Err y) before now is le = record { never_falls = le; risen = λ e. absurd (never e is) }
  where
    never : {X : Type 0} {y : OpenFault} → ◌≡◌ {A = Result X OpenFault} (Err y) (Err DiskFault) → y ≡ Memory → ⊥
    never e m = cc

pub no_cause : {X : Type 0} (x : X) (before now : ℕ) → before ≤ now → IsCause before now (◌≡◌ {A = Result X OpenFault} (Ok x) (Err DiskFault))
no_cause x before now le = record { never_falls = le; risen = λ e. absurd (never e) }
  where
    never : {X : Type 0} {x : X} → ◌≡◌ {A = Result X OpenFault} (Ok x) (Err DiskFault) → ⊥
    never e = cc
