use Rattle.std.proofs.Common.{◌+◌, ℕ, Bool, refl, sym, ap, subst}
use Rattle.checkpoint_file.specs.Checkpoint.{IsCheckpointOf}
use Rattle.disk_journal.specs.Stands.{generation_of_journal, group, next_number}
use Rattle.depot_rows.specs.table_changes.Changed.{rows_of}
use Rattle.depot_commit.specs.Growing.{IsWritten}
use Rattle.depot_commit.specs.Writing.{IsWritingOf, left_by}
use Rattle.depot_commit.specs.declared.writing.Writing.TheVariants.{Group, Generation}
use Rattle.depot_commit.proofs.Writings.{writes_generation, writes_group}
use Rattle.depot_commit.proofs.writing.follow.Goals as goal

pub returns-then-not-opens-clause-writes : goal.returns-then-not-opens-clause-writes
returns-then-not-opens-clause-writes g c = λ fit records given.
    let Writes : Bool → Type 0 = λ opens. IsWritingOf (rows_of c.args.tables.now) (rows_of c.in_ok-changed.changed) (next_number c.args.journal.now) (generation_of_journal c.args.journal.now) opens (left_by (Group c.in_ok-prepared.prepared)) c.args.changes.now in
    subst Writes (sym c.if-not-opens.true) (writes_group _ _ _ _ _ (c.in_ok-changed.ensures given) _ c.in_ok-prepared.ensures.group (c.in_ok-prepared.ensures.fits records) fit)

pub returns-clause-writes : goal.returns-clause-writes
returns-clause-writes g c = λ fit records given.
    let Writes : Bool → Type 0 = λ opens. IsWritingOf (rows_of c.args.tables.now) (rows_of c.in_ok-changed.changed) (next_number c.args.journal.now) (generation_of_journal c.args.journal.now) opens (left_by (Generation c.in_ok-text.text)) c.args.changes.now in
    subst Writes (sym c.if-not-opens.false) (writes_generation _ _ _ _ _ (c.in_ok-changed.ensures given) _ records
    (λ texts. subst (λ (n : ℕ). IsCheckpointOf (n + 1) (rows_of c.in_ok-changed.changed) c.in_ok-text.text) c.generation-generation.ensures (c.in_ok-text.ensures.checkpoint texts)))

pub returns-then-not-opens-clause-written : goal.returns-then-not-opens-clause-written
returns-then-not-opens-clause-written g c = λ records.
    let Written : Bool → Type 0 = λ opens. IsWritten (next_number c.args.journal.now) opens (left_by (Group c.in_ok-prepared.prepared)) c.args.changes.now in
    subst Written (sym c.if-not-opens.true) (ap group c.in_ok-prepared.ensures.group, c.in_ok-prepared.ensures.fits records)

pub returns-clause-written : goal.returns-clause-written
returns-clause-written g c = λ records.
    let Written : Bool → Type 0 = λ opens. IsWritten (next_number c.args.journal.now) opens (left_by (Generation c.in_ok-text.text)) c.args.changes.now in
    subst Written (sym c.if-not-opens.false) (c.in_ok-text.text, refl)
