-- The first change that doesn't fit, and its place in a feed.
use Rattle.std.proofs.Common.{◌≡◌, ◌⊎◌, inl, inr, ℕ, ◌+◌, ◌-◌, ◌<◌, ◌≤◌, List, [], ◌∷◌, ◌++◌, length, take, drop, Result, Ok, Err, sym, ap, subst, ◌∙◌, arith, length-append}
use Rattle.std.specs.Result.{IsErrAnd}
use Rattle.depot_rows.specs.db_records.declared.change.Change.{Change}
use Rattle.journal_groups.specs.Groups.{body_of, head_of}
use Rattle.journal_groups.specs.Reader.{BeginsAt, HasRecords}
use Rattle.recovery.specs.Pieces.{IsFirstBad, IsBadRecord, AreAllGood}
use Rattle.recovery.proofs.FirstBad.{bad_within, first_bad}
use Rattle.replica_pull.specs.Feed.{IsFirstMisfit, IfBadFeed}
use Rattle.replica_pull.specs.declared.fault.PullFault.{PullFault}
use Rattle.replica_pull.specs.declared.fault.PullFault.TheVariants.{LinkFault, BadFeed, NoGeneration, Memory}

pub misfit_at : (good : List Change → Type 0) (changes others : List Change) (n end place : ℕ) → others ≡ drop n changes → n < length changes → good (take n changes) → (good (take (n + 1) changes) → ⊥) → place ≡ end - length (body_of others) → IsFirstMisfit good changes end place
misfit_at good changes others n end place is within are none told =
    (length (body_of others), (told, subst (λ (l : List Change). IsFirstBad good changes (length (body_of l))) (sym is) (first_bad good changes n within are none)))

-- the records with which a group begins stand in the feed
pub misfit_record : (good : List Change → Type 0) (number at : ℕ) (text : List ℕ) (changes : List Change) (end place : ℕ) → BeginsAt number at text changes end → IsFirstMisfit good changes end place → IsBadRecord good (BeginsAt number at text) place
misfit_record good number at text changes end place there bad =
    let left = bad.0 in
    let b = there.begins in
    let within : left ≤ end = omega (arith, bad_within good changes left bad.1.1, b.ends, ap length b.parts, length-append (head_of number b.size) (body_of changes ++ b.rest), length-append (body_of changes) b.rest) in
    record { changes = changes; end = end; there = there; left = left; bad = bad.1.1; place_is = omega (arith, within, bad.1.0) }

never : (front after : List Change) (change : Change) → [] ≡ front ++ change ∷ after → ⊥
never [] after change e = cc
never (c ∷ front) after change e = cc

-- so do those of a group that isn't whole
pub rest_record : (good : List Change → Type 0) (number at : ℕ) (text : List ℕ) (records : List Change) (reached place : ℕ) → HasRecords number at text records reached → IsFirstMisfit good records reached place → IsBadRecord good (BeginsAt number at text) place
rest_record good number at text records reached place has bad = go has.there
  where
    go : (records ≡ []) ⊎ BeginsAt number at text records reached → IsBadRecord good (BeginsAt number at text) place
    go (inl none) = absurd (let first = bad.1.1 in never first.front first.after first.bad (sym none ∙ first.parts))
    go (inr there) = misfit_record good number at text records reached place there bad

-- where these are good, all are
pub all_good : (good : List Change → Type 0) (number at : ℕ) (text : List ℕ) (records : List Change) (reached : ℕ) → ((front behind : List Change) → good (front ++ behind) → good front) → HasRecords number at text records reached → good records → AreAllGood good (BeginsAt number at text)
all_good good number at text records reached fronts has are =
    λ changes end there. (let all = has.all there.group changes (at + 5) end there.opened there.begins in fronts changes all.0 (subst good all.1 are))

-- what is told of a feed is passed on
pub passed_bad : (Y : Type 0) (P Q : ℕ → Type 0) {X : Type 0} (r : Result X PullFault) (fault : PullFault) → IsErrAnd r (λ y. y ≡ fault) → IfBadFeed {X = Y} (Err fault) P → ((place : ℕ) → P place → Q place) → IfBadFeed r Q
passed_bad Y P Q (Ok x) fault is bad leads = tt
passed_bad Y P Q {X} (Err y) fault is bad leads = subst (λ (f : PullFault). IfBadFeed {X = X} (Err f) Q) (sym is) (go fault bad)
  where
    go : (f : PullFault) → IfBadFeed {X = Y} (Err f) P → IfBadFeed {X = X} (Err f) Q
    go LinkFault has = tt
    go (BadFeed place) has = leads place has
    go NoGeneration has = tt
    go Memory has = tt

-- the same where the fault itself is
pub bad_on : (X Y : Type 0) (P Q : ℕ → Type 0) (fault : PullFault) → IfBadFeed {X = Y} (Err fault) P → ((place : ℕ) → P place → Q place) → IfBadFeed {X = X} (Err fault) Q
bad_on X Y P Q LinkFault has leads = tt
bad_on X Y P Q (BadFeed place) has leads = leads place has
bad_on X Y P Q NoGeneration has leads = tt
bad_on X Y P Q Memory has leads = tt
