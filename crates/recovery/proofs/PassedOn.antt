-- Faults that are passed on, and those that say nothing.
use Rattle.std.proofs.Common.{◌≡◌, ◌≢◌, ℕ, Result, Ok, Err, sym, subst, ◌∙◌}
use Rattle.std.specs.Result.{IfErr, IsErrAnd}
use Rattle.archive_file.specs.Archive.{RisesForFaults}
use Rattle.archive_file.specs.declared.archive.ContentFault.{ContentFault}
use Rattle.archive_file.specs.declared.archive.ContentFault.TheVariants as content_faults
use Rattle.recovery.specs.declared.fault.OpenFault.{OpenFault}
use Rattle.recovery.specs.declared.fault.OpenFault.TheVariants.{Unmade, Damaged, DiskFault, Memory}
use Rattle.recovery.specs.Faults.{SaysNothing, IfDamaged, IsOfFile, IsUnmadeOrSaysNothing, UnlessFault, unread_as}

-- what holds of a fault holds where it is passed on
pub passed_on : {X : Type 0} (r : Result X OpenFault) (fault : OpenFault) (P : OpenFault → Type 0) → IsErrAnd r (λ y. y ≡ fault) → P fault → IfErr r P
passed_on (Ok x) fault P is holds = tt
passed_on (Err y) fault P is holds = subst P (sym is) holds

-- what is told of a damage that is passed on
pub passed_damage : (Y : Type 0) (P Q : ℕ → Type 0) {X : Type 0} (r : Result X OpenFault) (fault : OpenFault) → IsErrAnd r (λ y. y ≡ fault) → IfDamaged {X = Y} (Err fault) P → ((place : ℕ) → P place → Q place) → IfDamaged r Q
passed_damage Y P Q (Ok x) fault is damaged leads = tt
passed_damage Y P Q {X} (Err y) fault is damaged leads = subst (λ (f : OpenFault). IfDamaged {X = X} (Err f) Q) (sym is) (go fault damaged)
  where
    go : (f : OpenFault) → IfDamaged {X = Y} (Err f) P → IfDamaged {X = X} (Err f) Q
    go Unmade has = tt
    go (Damaged disk file place) has = leads place has
    go DiskFault has = tt
    go Memory has = tt

-- that there are no files, where that is passed on
pub passed_unmade : (Y : Type 0) {X : Type 0} (r : Result X OpenFault) (fault : OpenFault) → IsErrAnd r (λ y. y ≡ fault) → IsUnmadeOrSaysNothing {X = Y} (Err fault) → IsUnmadeOrSaysNothing r
passed_unmade Y (Ok x) fault is unmade = absurd is
passed_unmade Y {X} (Err y) fault is unmade = subst (λ (f : OpenFault). IsUnmadeOrSaysNothing {X = X} (Err f)) (sym is) (go fault unmade)
  where
    go : (f : OpenFault) → IsUnmadeOrSaysNothing {X = Y} (Err f) → IsUnmadeOrSaysNothing {X = X} (Err f)
    go Unmade has = tt
    go (Damaged disk file place) has = has
    go DiskFault has = has
    go Memory has = has

-- of the fault of a disk nothing is said that is said of others
pub no_fault_but : {X : Type 0} (r : Result X OpenFault) (P : Type 0) → IsErrAnd r (λ y. y ≡ DiskFault) → IfErr r (λ fault. fault ≢ DiskFault → P)
no_fault_but (Ok x) P is = tt
no_fault_but (Err y) P is = λ other. absurd (other is)

-- ---- unless a disk has failed

pub unless_failed : {X : Type 0} (r : Result X OpenFault) (P : Type 0) → IsErrAnd r (λ y. y ≡ DiskFault) → UnlessFault r P
unless_failed (Ok x) P is = absurd is
unless_failed (Err y) P is = λ other. absurd (other is)

pub unless_passed : {X : Type 0} (r : Result X OpenFault) (fault : OpenFault) (P : Type 0) → IsErrAnd r (λ y. y ≡ fault) → (fault ≢ DiskFault → P) → UnlessFault r P
unless_passed (Ok x) fault P is holds = absurd is
unless_passed (Err y) fault P is holds = λ other. holds (λ failed. other (is ∙ failed))

pub unless_anyway : {X : Type 0} (r : Result X OpenFault) (P : Type 0) → P → UnlessFault r P
unless_anyway (Ok x) P holds = holds
unless_anyway (Err y) P holds = λ other. holds

-- the same of a content
pub unless_read : (T : Type 0) {X : Type 0} (r : Result X OpenFault) (content : ContentFault) (before now : ℕ) → IsErrAnd r (λ y. y ≡ unread_as content) → RisesForFaults {T = T} before now (Err content) → UnlessFault r (now ≡ before)
unless_read T (Ok x) content before now is rises = absurd is
unless_read T (Err y) content_faults.DiskFault before now is rises = λ other. absurd (other is)
unless_read T (Err y) content_faults.Memory before now is rises = λ other. rises

pub unless_weaker : {X : Type 0} (r : Result X OpenFault) (P Q : Type 0) → (P → Q) → UnlessFault r P → UnlessFault r Q
unless_weaker (Ok x) P Q leads holds = leads holds
unless_weaker (Err y) P Q leads holds = λ other. leads (holds other)

-- where no damage can be told, what is told says nothing
pub undamaged : {X : Type 0} (r : Result X OpenFault) (file : ℕ) (P : ℕ → Type 0) → IfErr r (IsOfFile file) → IfDamaged r P → ((place : ℕ) → P place → ⊥) → IfErr r SaysNothing
undamaged (Ok x) file P of damaged never = tt
undamaged (Err Unmade) file P of damaged never = absurd of
undamaged (Err (Damaged disk found place)) file P of damaged never = absurd (never place damaged)
undamaged (Err DiskFault) file P of damaged never = tt
undamaged (Err Memory) file P of damaged never = tt
