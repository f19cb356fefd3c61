use Rattle.std.proofs.Common.{◌≡◌, ◌⊎◌, ℕ, ◌+◌, List, length, refl, ◌∙◌, ap, subst, arith}
use Rattle.outside_api.specs.Moments.{LeavesOnly}
use Rattle.journal_groups.specs.Groups.{group_text}
use Rattle.disk_journal.specs.Images.{with_group}
use Rattle.disk_journal.specs.Stands.{Doubtful, nothing, group, HasWithOrWithout, Stands, group_of, disk_of}
use Rattle.journal_runs.specs.Runs.{IsAfterFault, next_group}
use Rattle.journal_runs.proofs.runs.commit_changes.Goals as goal

pub returns-in-Ok-commit_settled-clause-stands : goal.returns-in-Ok-commit_settled-clause-stands
returns-in-Ok-commit_settled-clause-stands g c = λ was doubt stands.
    let number : c.args.journal.now.end.groups + 1 ≡ length was.groups + 1 = omega (arith, stands.count) in
    let same : group_of c.in-Ok.prepared ≡ next_group was c.args.changes.now = c.in-Ok.ensures.group ∙ ap (λ (n : ℕ). group_text n c.args.changes.now) number in
    subst (λ (t : List ℕ). Stands g.D.Disk.says c.commit_settled.new.journal (with_group was t) nothing) same (c.in-Ok-commit_settled.ensures.landed was doubt stands)

pub returns-in-Ok-commit_settled-clause-any_moment : goal.returns-in-Ok-commit_settled-clause-any_moment
returns-in-Ok-commit_settled-clause-any_moment g c = λ was doubt stands.
    let number : c.args.journal.now.end.groups + 1 ≡ length was.groups + 1 = omega (arith, stands.count) in
    let same : group_of c.in-Ok.prepared ≡ next_group was c.args.changes.now = c.in-Ok.ensures.group ∙ ap (λ (n : ℕ). group_text n c.args.changes.now) number in
    subst (λ (t : List ℕ). LeavesOnly g.D.Disk.says (disk_of c.args.journal.now) (disk_of c.commit_settled.new.journal) (λ f. HasWithOrWithout was doubt f ⊎ HasWithOrWithout was (group t) f)) same (c.commit_settled.ensures.any_moment was doubt stands)

pub returns-in-Err-commit_settled-clause-stands : goal.returns-in-Err-commit_settled-clause-stands
returns-in-Err-commit_settled-clause-stands g c = λ was doubt stands.
    let number : c.args.journal.now.end.groups + 1 ≡ length was.groups + 1 = omega (arith, stands.count) in
    let same : group_of c.in-Ok.prepared ≡ next_group was c.args.changes.now = c.in-Ok.ensures.group ∙ ap (λ (n : ℕ). group_text n c.args.changes.now) number in
    subst (λ (t : List ℕ). (now : Doubtful) × IsAfterFault doubt t now × Stands g.D.Disk.says c.commit_settled.new.journal was now) same (c.in-Err-commit_settled.ensures.fault was doubt stands refl)

pub returns-in-Err-commit_settled-clause-any_moment : goal.returns-in-Err-commit_settled-clause-any_moment
returns-in-Err-commit_settled-clause-any_moment g c = λ was doubt stands.
    let number : c.args.journal.now.end.groups + 1 ≡ length was.groups + 1 = omega (arith, stands.count) in
    let same : group_of c.in-Ok.prepared ≡ next_group was c.args.changes.now = c.in-Ok.ensures.group ∙ ap (λ (n : ℕ). group_text n c.args.changes.now) number in
    subst (λ (t : List ℕ). LeavesOnly g.D.Disk.says (disk_of c.args.journal.now) (disk_of c.commit_settled.new.journal) (λ f. HasWithOrWithout was doubt f ⊎ HasWithOrWithout was (group t) f)) same (c.commit_settled.ensures.any_moment was doubt stands)
