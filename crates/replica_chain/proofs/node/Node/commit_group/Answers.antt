use Rattle.std.proofs.Common.{◌≡◌, ◌⊎◌, inl, ℕ, ◌+◌, List, length, subst, ap, ◌∙◌, refl}
use Rattle.outside_api.specs.Moments.{LeavesOnly, started}
use Rattle.disk_journal.specs.Images.{HasCommitted, HasEither, with_group}
use Rattle.disk_journal.specs.Stands.{IsStill, Stands, disk_of, group, group_of, nothing}
use Rattle.journal_groups.specs.Groups.{group_text}
use Rattle.replica_chain.specs.Copying.{AreBrought}
use Rattle.replica_chain.proofs.PassedOn.{beside, on_err}
use Rattle.replica_chain.proofs.node.Node.commit_group.Goals as goal

pub bring_contents-requires-clause-small : goal.bring_contents-requires-clause-small
bring_contents-requires-clause-small g c = c.requires.can.archive_end

pub commit-requires-clause-rest : goal.commit-requires-clause-rest
commit-requires-clause-rest g c = c.requires.settled

-- no call of the journal's disk was made
pub returns-in_err-bring_contents-clause-uncommitted : goal.returns-in_err-bring_contents-clause-uncommitted
returns-in_err-bring_contents-clause-uncommitted g c = λ was stands.
    let says = g.D.Disk.says in
    let journal = c.args.self.now.link.journal in
    on_err _ _ (inl (record { stands = stands; any_moment = started says (disk_of journal) (HasCommitted was) (λ image left. stands.holds image (g.met.D.Disk.only_now (disk_of journal) image left)) }))

pub returns-in_err-bring_contents-clause-any_moment : goal.returns-in_err-bring_contents-clause-any_moment
returns-in_err-bring_contents-clause-any_moment g c = λ was stands.
    let journal = c.args.self.now.link.journal in
    started g.D.Disk.says (disk_of journal) _ (λ image left. inl (stands.holds image (g.met.D.Disk.only_now (disk_of journal) image left)))

pub returns-in_err-prepared-clause-uncommitted : goal.returns-in_err-prepared-clause-uncommitted
returns-in_err-prepared-clause-uncommitted g c = λ was stands.
    let says = g.D.Disk.says in
    let journal = c.args.self.now.link.journal in
    on_err _ _ (inl (record { stands = stands; any_moment = started says (disk_of journal) (HasCommitted was) (λ image left. stands.holds image (g.met.D.Disk.only_now (disk_of journal) image left)) }))

pub returns-in_err-prepared-clause-any_moment : goal.returns-in_err-prepared-clause-any_moment
returns-in_err-prepared-clause-any_moment g c = λ was stands.
    let journal = c.args.self.now.link.journal in
    started g.D.Disk.says (disk_of journal) _ (λ image left. inl (stands.holds image (g.met.D.Disk.only_now (disk_of journal) image left)))

pub returns-in_err-commit-clause-uncommitted : goal.returns-in_err-commit-clause-uncommitted
returns-in_err-commit-clause-uncommitted g c = λ was stands.
    let says = g.D.Disk.says in
    let changes = c.args.changes.now in
    let old = c.args.self.now.link.journal in
    let new = c.commit.new.self in
    let brought = c.in_ok-bring_contents.ensures.brought in
    let text : group_of c.in_ok-prepared.prepared ≡ group_text (length was.groups + 1) changes = c.in_ok-prepared.ensures.group ∙ ap (λ (n : ℕ). group_text (n + 1) changes) stands.count in
    on_err _ _
    (subst (λ (l : List ℕ). IsStill says old new was ⊎ (Stands says new was (group l) × AreBrought says c.bring_contents.new.archive changes)) text
    (beside (c.in_err-commit.ensures.err was stands refl) brought))

pub returns-in_err-commit-clause-any_moment : goal.returns-in_err-commit-clause-any_moment
returns-in_err-commit-clause-any_moment g c = λ was stands.
    let text : group_of c.in_ok-prepared.prepared ≡ group_text (length was.groups + 1) c.args.changes.now = c.in_ok-prepared.ensures.group ∙ ap (λ (n : ℕ). group_text (n + 1) c.args.changes.now) stands.count in
    subst (λ (l : List ℕ). LeavesOnly g.D.Disk.says (disk_of c.args.self.now.link.journal) (disk_of c.commit.new.self) (HasEither was (with_group was l))) text (c.commit.ensures.any_moment was stands)

pub returns-clause-committed : goal.returns-clause-committed
returns-clause-committed g c = λ was stands.
    let text : group_of c.in_ok-prepared.prepared ≡ group_text (length was.groups + 1) c.args.changes.now = c.in_ok-prepared.ensures.group ∙ ap (λ (n : ℕ). group_text (n + 1) c.args.changes.now) stands.count in
    subst (λ (l : List ℕ). Stands g.D.Disk.says c.commit.new.self (with_group was l) nothing) text (c.in_ok-commit.ensures.ok was stands)

pub returns-clause-any_moment : goal.returns-clause-any_moment
returns-clause-any_moment g c = λ was stands.
    let text : group_of c.in_ok-prepared.prepared ≡ group_text (length was.groups + 1) c.args.changes.now = c.in_ok-prepared.ensures.group ∙ ap (λ (n : ℕ). group_text (n + 1) c.args.changes.now) stands.count in
    subst (λ (l : List ℕ). LeavesOnly g.D.Disk.says (disk_of c.args.self.now.link.journal) (disk_of c.commit.new.self) (HasEither was (with_group was l))) text (c.commit.ensures.any_moment was stands)

pub returns-in_err-bring_contents-clause-contents_reached : goal.returns-in_err-bring_contents-clause-contents_reached
returns-in_err-bring_contents-clause-contents_reached g c = c.bring_contents.ensures.contents_reached

pub returns-in_err-prepared-clause-contents_reached : goal.returns-in_err-prepared-clause-contents_reached
returns-in_err-prepared-clause-contents_reached g c = c.bring_contents.ensures.contents_reached

pub returns-in_err-commit-clause-contents_reached : goal.returns-in_err-commit-clause-contents_reached
returns-in_err-commit-clause-contents_reached g c = c.bring_contents.ensures.contents_reached

pub returns-clause-contents_reached : goal.returns-clause-contents_reached
returns-clause-contents_reached g c = c.bring_contents.ensures.contents_reached

pub returns-in_err-bring_contents-clause-filled : goal.returns-in_err-bring_contents-clause-filled
returns-in_err-bring_contents-clause-filled g c = c.bring_contents.ensures.filled

pub returns-in_err-prepared-clause-filled : goal.returns-in_err-prepared-clause-filled
returns-in_err-prepared-clause-filled g c = c.bring_contents.ensures.filled

pub returns-in_err-commit-clause-filled : goal.returns-in_err-commit-clause-filled
returns-in_err-commit-clause-filled g c = c.bring_contents.ensures.filled

pub returns-clause-filled : goal.returns-clause-filled
returns-clause-filled g c = c.bring_contents.ensures.filled

-- what was scanned

pub returns-in_err-commit-clause-scanned : goal.returns-in_err-commit-clause-scanned
returns-in_err-commit-clause-scanned g c = λ scanned files sees. c.nothing-self.ensures _

pub returns-clause-scanned : goal.returns-clause-scanned
returns-clause-scanned g c = λ scanned files sees. c.nothing-self.ensures _
