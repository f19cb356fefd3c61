use Rattle.std.proofs.Common.{◌⊎◌, inl, inr, refl, subst, sym}
use Rattle.outside_api.specs.Disk.{Files}
use Rattle.outside_api.specs.Moments.{weaker, then}
use Rattle.disk_journal.specs.Images.{HasEither, with_group}
use Rattle.disk_journal.specs.Stands.{nothing, group, HasWithOrWithout, IsPrepared, group_of}
use Rattle.journal_runs.proofs.runs.commit_settled.Goals as goal

pub returns-in_err-settle-clause-fault : goal.returns-in_err-settle-clause-fault
returns-in_err-settle-clause-fault g c = λ was doubt stands is_err. (doubt, inl refl, c.in_err-settle.ensures.err was doubt stands refl)

pub returns-in_err-settle-clause-any_moment : goal.returns-in_err-settle-clause-any_moment
returns-in_err-settle-clause-any_moment g c = λ was doubt stands.
    weaker g.D.Disk.says c.args.journal.now.disk c.settle.new.self.disk (HasWithOrWithout was doubt) _ (λ f has. inl has) (c.settle.ensures.any_moment was doubt stands)

pub commit-requires-clause-rest : goal.commit-requires-clause-rest
commit-requires-clause-rest g c = (c.requires.stands.0, c.in_ok-settle.ensures.ok c.requires.stands.0 c.requires.stands.1.0 c.requires.stands.1.1)

pub commit-requires-clause-prepared : goal.commit-requires-clause-prepared
commit-requires-clause-prepared g c = subst (λ n. IsPrepared n c.args.prepared) (sym c.settle.ensures.number) c.requires.prepared

pub returns-in_err-receipt-clause-fault : goal.returns-in_err-receipt-clause-fault
returns-in_err-receipt-clause-fault g c = λ was doubt stands is_err.
    elim (c.in_err-receipt.ensures.err was (c.in_ok-settle.ensures.ok was doubt stands) refl) [
      | inl still ↦ (nothing, inr (inl refl), still.stands)
      | inr now ↦ (group (group_of c.args.prepared), inr (inr refl), now)
    ]

pub returns-in_err-receipt-clause-any_moment : goal.returns-in_err-receipt-clause-any_moment
returns-in_err-receipt-clause-any_moment g c = λ was doubt stands.
    let P : Files → Type 0 = λ f. HasWithOrWithout was doubt f ⊎ HasEither was (with_group was (group_of c.args.prepared)) f in
    let first = weaker g.D.Disk.says c.args.journal.now.disk c.settle.new.self.disk (HasWithOrWithout was doubt) P (λ f has. inl has) (c.settle.ensures.any_moment was doubt stands) in
    let second = weaker g.D.Disk.says c.settle.new.self.disk c.commit.new.self.disk (HasEither was (with_group was (group_of c.args.prepared))) P (λ f has. inr has) (c.commit.ensures.any_moment was (c.in_ok-settle.ensures.ok was doubt stands)) in
    then g.D.Disk.says c.args.journal.now.disk c.settle.new.self.disk c.commit.new.self.disk P first second

pub returns-clause-landed : goal.returns-clause-landed
returns-clause-landed g c = λ was doubt stands. c.in_ok-receipt.ensures.ok was (c.in_ok-settle.ensures.ok was doubt stands)

pub returns-clause-any_moment : goal.returns-clause-any_moment
returns-clause-any_moment g c = λ was doubt stands.
    let P : Files → Type 0 = λ f. HasWithOrWithout was doubt f ⊎ HasEither was (with_group was (group_of c.args.prepared)) f in
    let first = weaker g.D.Disk.says c.args.journal.now.disk c.settle.new.self.disk (HasWithOrWithout was doubt) P (λ f has. inl has) (c.settle.ensures.any_moment was doubt stands) in
    let second = weaker g.D.Disk.says c.settle.new.self.disk c.commit.new.self.disk (HasEither was (with_group was (group_of c.args.prepared))) P (λ f has. inr has) (c.commit.ensures.any_moment was (c.in_ok-settle.ensures.ok was doubt stands)) in
    then g.D.Disk.says c.args.journal.now.disk c.settle.new.self.disk c.commit.new.self.disk P first second

pub returns-in_err-receipt-clause-keeps : goal.returns-in_err-receipt-clause-keeps
returns-in_err-receipt-clause-keeps g c = λ older keeps. c.commit.ensures.keeps older (c.settle.ensures.keeps older keeps)

pub returns-clause-keeps : goal.returns-clause-keeps
returns-clause-keeps g c = λ older keeps. c.commit.ensures.keeps older (c.settle.ensures.keeps older keeps)
