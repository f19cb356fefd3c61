-- Faults that are passed on.
use Rattle.std.proofs.Common.{◌≡◌, ◌⊎◌, inl, inr, ℕ, Result, Ok, Err, OnErr, sym, subst}
use Rattle.std.specs.Result.{IfErr, IsErrAnd}
use Rattle.outside_api.specs.Disk.{Files}
use Rattle.replica_chain.specs.Copying.{AtBadContent, AtNoBytes, IsOfContents, IsOfCopying}
use Rattle.replica_chain.specs.Feed.{IfBadFeed}
use Rattle.replica_chain.specs.declared.fault.NodeFault.{NodeFault}
use Rattle.replica_chain.specs.declared.fault.NodeFault.TheVariants.{LinkFault, ContentsFailed, DiskFault, BadFeed, BadContent, NoBytes, NoGeneration, Memory}

-- what is told of a feed is passed on
pub passed_bad : (Y : Type 0) (P Q : ℕ → Type 0) {X : Type 0} (r : Result X NodeFault) (fault : NodeFault) → IsErrAnd r (λ y. y ≡ fault) → IfBadFeed {X = Y} (Err fault) P → ((place : ℕ) → P place → Q place) → IfBadFeed r Q
passed_bad Y P Q (Ok x) fault is bad leads = tt
passed_bad Y P Q {X} (Err y) fault is bad leads = subst (λ (f : NodeFault). IfBadFeed {X = X} (Err f) Q) (sym is) (go fault bad)
  where
    go : (f : NodeFault) → IfBadFeed {X = Y} (Err f) P → IfBadFeed {X = X} (Err f) Q
    go LinkFault has = tt
    go ContentsFailed has = tt
    go DiskFault has = tt
    go (BadFeed place) has = leads place has
    go (BadContent place) has = tt
    go (NoBytes place) has = tt
    go NoGeneration has = tt
    go Memory has = tt

-- what holds of a fault holds of the answer that passes it on
pub passed_fault : {X : Type 0} (P : NodeFault → Type 0) (r : Result X NodeFault) (fault : NodeFault) → IsErrAnd r (λ y. y ≡ fault) → P fault → IfErr r P
passed_fault P (Ok x) fault is has = tt
passed_fault P (Err y) fault is has = subst P (sym is) has

-- a place that is told
pub content_leads : (P Q : ℕ → Type 0) (fault : NodeFault) → ((place : ℕ) → P place → Q place) → AtBadContent P fault → AtBadContent Q fault
content_leads P Q (BadContent place) leads has = leads place has
content_leads P Q _ leads has = tt

pub bytes_lead : (P Q : ℕ → Type 0) (fault : NodeFault) → ((place : ℕ) → P place → Q place) → AtNoBytes P fault → AtNoBytes Q fault
bytes_lead P Q (NoBytes place) leads has = leads place has
bytes_lead P Q _ leads has = tt

-- checking tells of no bytes, and copying of no digest
pub no_bytes_told : (P : ℕ → Type 0) (fault : NodeFault) → IsOfContents fault → AtNoBytes P fault
no_bytes_told P (NoBytes place) of = absurd of
no_bytes_told P _ of = tt

pub no_digest_told : (P : ℕ → Type 0) (fault : NodeFault) → IsOfCopying fault → AtBadContent P fault
no_digest_told P (BadContent place) of = absurd of
no_digest_told P _ of = tt

-- what is told of files is told of each of them
pub content_each : (S : Files → Type 0) (Q : Files → ℕ → Type 0) (fault : NodeFault) → ((files : Files) → S files → AtBadContent (Q files) fault) → AtBadContent (λ place. (files : Files) → S files → Q files place) fault
content_each S Q (BadContent place) each = each
content_each S Q _ each = tt

-- what holds whatever is answered holds after an error
pub on_err : {X : Type 0} (P : Type 0) (r : Result X NodeFault) → P → OnErr r P
on_err P (Ok x) has = tt
on_err P (Err y) has = has

-- what holds beside one of two
pub beside : {A B C : Type 0} → A ⊎ B → C → A ⊎ (B × C)
beside (inl one) also = inl one
beside (inr other) also = inr (other, also)
