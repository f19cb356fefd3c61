use Rattle.std.proofs.Common.{List, ℕ, arith, inl, refl, subst}
use Rattle.outside_api.specs.Moments.{LeavesOnly, started}
use Rattle.checkpoint_file.specs.Checkpoint.{IsCheckpointOf, puts_of}
use Rattle.depot_rows.specs.table_changes.Changed.{rows_of}
use Rattle.disk_journal.specs.Images.{HasCommitted, HasEither, with_generation}
use Rattle.disk_journal.specs.Stands.{Stands, disk_of, nothing, opening}
use Rattle.journal_groups.specs.Groups.{AreRecords}
use Rattle.replica_chain.proofs.Begun.{in_doubt}
use Rattle.replica_chain.proofs.passing.write_next.Goals as goal

pub write_generation-requires : goal.write_generation-requires
write_generation-requires g c = record { rest = c.requires.rest }

-- no call was made

pub returns-in_err-text-clause-err : goal.returns-in_err-text-clause-err
returns-in_err-text-clause-err g c = λ was stands failed.
    let journal = c.args.journal.now in
    inl (record { stands = stands; any_moment = started g.D.Disk.says (disk_of journal) (HasCommitted was) (λ image left. stands.holds image (g.met.D.Disk.only_now (disk_of journal) image left)) })

pub returns-in_err-text-clause-any_moment : goal.returns-in_err-text-clause-any_moment
returns-in_err-text-clause-any_moment g c = λ was stands.
    let journal = c.args.journal.now in
    started g.D.Disk.says (disk_of journal) _ (λ image left. inl (stands.holds image (g.met.D.Disk.only_now (disk_of journal) image left)))

-- it was begun

pub returns-in-Ok-clause-generation : goal.returns-in-Ok-clause-generation
returns-in-Ok-clause-generation g c =
    let before = c.requires.rest in
    let now = c.in-Ok.ensures.ok before.0 before.1 in
    omega (arith, before.1.generation, now.generation, c.requires.next)

pub returns-in-Ok-clause-ok : goal.returns-in-Ok-clause-ok
returns-in-Ok-clause-ok g c = λ was stands.
    subst (λ (text : List ℕ). Stands g.D.Disk.says c.write_generation.new.journal (with_generation was text) nothing) c.in_ok-text.ensures.text (c.in-Ok.ensures.ok was stands)

pub returns-in-Ok-clause-checkpoint : goal.returns-in-Ok-clause-checkpoint
returns-in-Ok-clause-checkpoint g c = λ are. subst (IsCheckpointOf c.args.next (rows_of c.args.tables.now)) c.in_ok-text.ensures.text (c.in_ok-text.ensures.checkpoint are)

pub returns-in-Ok-clause-any_moment : goal.returns-in-Ok-clause-any_moment
returns-in-Ok-clause-any_moment g c = λ was stands.
    subst (λ (text : List ℕ). LeavesOnly g.D.Disk.says (disk_of c.args.journal.now) (disk_of c.write_generation.new.journal) (HasEither was (with_generation was text))) c.in_ok-text.ensures.text
    (c.write_generation.ensures.any_image was stands)

-- the last generation isn't passed

pub returns-in-Err-NoGeneration-clause-err : goal.returns-in-Err-NoGeneration-clause-err
returns-in-Err-NoGeneration-clause-err g c = λ was stands failed.
    let is = (rw c.in-Err-NoGeneration.field-0-is at c.in-Err-NoGeneration.ensures.only_last) refl in
    absurd (omega (arith, is, c.requires.last))

pub returns-in-Err-NoGeneration-clause-only : goal.returns-in-Err-NoGeneration-clause-only
returns-in-Err-NoGeneration-clause-only g c =
    let is = (rw c.in-Err-NoGeneration.field-0-is at c.in-Err-NoGeneration.ensures.only_last) refl in
    absurd (omega (arith, is, c.requires.last))

-- it may be begun

pub returns-clause-err : goal.returns-clause-err
returns-clause-err g c = λ was stands failed.
    let rows = rows_of c.args.tables.now in
    in_doubt (λ text. Stands g.D.Disk.says c.write_generation.new.journal was (opening text)) (λ text. AreRecords (puts_of rows) → IsCheckpointOf c.args.next rows text) c.in_ok-text.ensures.text
    (c.in-Err-DiskFault.ensures.err was stands refl) c.in_ok-text.ensures.checkpoint

pub returns-clause-any_moment : goal.returns-clause-any_moment
returns-clause-any_moment g c = λ was stands.
    subst (λ (text : List ℕ). LeavesOnly g.D.Disk.says (disk_of c.args.journal.now) (disk_of c.write_generation.new.journal) (HasEither was (with_generation was text))) c.in_ok-text.ensures.text
    (c.write_generation.ensures.any_image was stands)
