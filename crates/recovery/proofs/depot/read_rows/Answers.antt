use Rattle.std.proofs.Common.{◌≡◌, ◌+◌, ◌*◌, Err, length, refl, sym, subst, ap, ◌∙◌, arith}
use Rattle.recovery.specs.declared.fault.OpenFault.{OpenFault}
use Rattle.depot_rows.specs.table_changes.Changed.{rows_of}
use Rattle.depot_rows.specs.table_changes.Drafts.{rows_of_draft}
use Rattle.journal_groups.specs.Groups.{group_text}
use Rattle.recovery.specs.Holding.{group_texts}
use Rattle.recovery.proofs.Looks.{reads_on, passed_cause, passed_nothing, other_cause, no_cause}
use Rattle.recovery.proofs.Held.{blocks_of, are_texts, length_texts, read_rows, read_rest, held_root, held_checkpoint, held_begins, held_groups, held_puts, held_fit, held_rows}
use Rattle.recovery.specs.Damage.{IsCheckpointDamage, IsJournalDamage, of_checkpoint, of_journal, IsDamage}
use Rattle.recovery.specs.Faults.{IfDamaged, Tells}
use Rattle.recovery.specs.declared.rows.JournalEnd.{JournalEnd}
use Rattle.depot_rows.specs.table_changes.Changed.{AllRows, changed_by, no_rows}
use Rattle.depot_rows.specs.table_changes.declared.draft.TablesDraft.{TablesDraft}
use Rattle.recovery.proofs.Damaged.{journal_damage}
use Rattle.recovery.proofs.PassedOn.{passed_on, unless_anyway, unless_passed}
use Rattle.recovery.proofs.depot.read_rows.Goals as goal

pub returns-in_err-generation-clause-only : goal.returns-in_err-generation-clause-only
returns-in_err-generation-clause-only g c = λ files rows read hold.
    passed_nothing c.from_residual.result c.in_err-generation.field-0.0 _ c.from_residual.ensures.1 (c.in_err-generation.ensures.only files hold.was.generation read (held_root files rows hold))

pub returns-in_err-draft-clause-only : goal.returns-in_err-draft-clause-only
returns-in_err-draft-clause-only g c = λ files rows read hold.
    let generation = c.in_ok-generation.generation in
    let same : generation ≡ hold.was.generation = c.in_ok-generation.ensures.only files hold.was.generation read (held_root files rows hold) in
    passed_nothing c.from_residual-in_err-draft.result c.in_err-draft.field-0.0 _ c.from_residual-in_err-draft.ensures.1 (
    c.in_err-draft.ensures.only files hold.has.puts (c.read_root.ensures.reads.same.kept files read) (held_begins files rows hold generation same) (held_checkpoint files rows hold))

pub returns-in_err-draft-clause-reads : goal.returns-in_err-draft-clause-reads
returns-in_err-draft-clause-reads g c = reads_on g.D.Disk.says c.args.disk.now c.read_root.new.disk c.read_checkpoint.new.disk c.read_root.ensures.reads c.read_checkpoint.ensures.reads

pub returns-in_err-draft-clause-cause : goal.returns-in_err-draft-clause-cause
returns-in_err-draft-clause-cause g c =
    passed_cause c.from_residual-in_err-draft.result c.in_err-draft.field-0.0 (g.D.Disk.says.faults c.args.disk.now) (g.D.Disk.says.faults c.read_root.new.disk) (g.D.Disk.says.faults c.read_checkpoint.new.disk) c.from_residual-in_err-draft.ensures.1 c.read_root.ensures.cause.never_falls c.read_checkpoint.ensures.cause.never_falls (λ e. c.in_err-draft.ensures.cause.risen (ap (λ (f : OpenFault). Err f) e))

pub returns-in_err-end-clause-only : goal.returns-in_err-end-clause-only
returns-in_err-end-clause-only g c = λ files rows read hold.
    let generation = c.in_ok-generation.generation in
    let same : generation ≡ hold.was.generation = c.in_ok-generation.ensures.only files hold.was.generation read (held_root files rows hold) in
    let read_then = c.read_root.ensures.reads.same.kept files read in
    let checkpoint = c.in_ok-draft.ensures.rows in
    let puts_are = held_puts files rows hold generation checkpoint.puts same checkpoint.is (checkpoint.text files read_then) in
    passed_nothing c.from_residual-in_err-end.result c.in_err-end.field-0.0 _ c.from_residual-in_err-end.ensures.1 (
    c.in_err-end.ensures.only files hold.has.groups (c.read_checkpoint.ensures.reads.same.kept files read_then) (held_groups files rows hold generation same) (held_fit files rows hold checkpoint.puts (rows_of_draft c.in_ok-draft.draft) puts_are checkpoint.rows_are))

pub returns-in_err-end-clause-reads : goal.returns-in_err-end-clause-reads
returns-in_err-end-clause-reads g c =
    let two = reads_on g.D.Disk.says c.args.disk.now c.read_root.new.disk c.read_checkpoint.new.disk c.read_root.ensures.reads c.read_checkpoint.ensures.reads in
    reads_on g.D.Disk.says c.args.disk.now c.read_checkpoint.new.disk c.read_journal.new.disk two c.read_journal.ensures.reads

pub returns-in_err-end-clause-cause : goal.returns-in_err-end-clause-cause
returns-in_err-end-clause-cause g c =
    passed_cause c.from_residual-in_err-end.result c.in_err-end.field-0.0 (g.D.Disk.says.faults c.args.disk.now) (g.D.Disk.says.faults c.read_checkpoint.new.disk) (g.D.Disk.says.faults c.read_journal.new.disk) c.from_residual-in_err-end.ensures.1 (omega (arith, c.read_root.ensures.cause.never_falls, c.read_checkpoint.ensures.cause.never_falls)) c.read_journal.ensures.cause.never_falls (λ e. c.in_err-end.ensures.cause.risen (ap (λ (f : OpenFault). Err f) e))

pub returns-in_err-tables-clause-reads : goal.returns-in_err-tables-clause-reads
returns-in_err-tables-clause-reads g c =
    let two = reads_on g.D.Disk.says c.args.disk.now c.read_root.new.disk c.read_checkpoint.new.disk c.read_root.ensures.reads c.read_checkpoint.ensures.reads in
    reads_on g.D.Disk.says c.args.disk.now c.read_checkpoint.new.disk c.read_journal.new.disk two c.read_journal.ensures.reads

pub returns-in_err-tables-clause-cause : goal.returns-in_err-tables-clause-cause
returns-in_err-tables-clause-cause g c =
    other_cause c.from_residual-in_err-tables.result (g.D.Disk.says.faults c.args.disk.now) (g.D.Disk.says.faults c.read_journal.new.disk) c.from_residual-in_err-tables.ensures.1 (omega (arith, c.read_root.ensures.cause.never_falls, c.read_checkpoint.ensures.cause.never_falls, c.read_journal.ensures.cause.never_falls))

pub returns-clause-found : goal.returns-clause-found
returns-clause-found g c =
    let generation = c.in_ok-generation.generation in
    let checkpoint = c.in_ok-draft.ensures.rows in
    let journal = c.in_ok-end.ensures.rows in
    let mid = rows_of_draft c.in_ok-draft.draft in
    record {
      was = record { generation = generation; checkpoint = group_text generation checkpoint.puts; groups = group_texts 1 journal.groups };
      has = read_rows generation checkpoint.puts journal.groups mid (rows_of c.in_ok-tables.tables) checkpoint.is journal.are_groups checkpoint.rows_are journal.fit (c.in_ok-tables.ensures.rows ∙ journal.rows_are);
      generation = refl;
      last = c.in_ok-generation.ensures.last;
      are_groups = are_texts 1 journal.groups;
      count = journal.count ∙ sym (length_texts 1 journal.groups);
      long = journal.long ∙ ap length (sym (blocks_of 1 journal.groups));
      short = journal.short;
      at_rest = λ files read.
          let read_then = c.read_root.ensures.reads.same.kept files read in
          read_rest generation checkpoint.puts journal.groups files (c.in_ok-generation.ensures.root files read) (checkpoint.text files read_then) (journal.text files (c.read_checkpoint.ensures.reads.same.kept files read_then));
    }

pub returns-clause-only : goal.returns-clause-only
returns-clause-only g c = λ files rows read hold.
    let generation = c.in_ok-generation.generation in
    let same : generation ≡ hold.was.generation = c.in_ok-generation.ensures.only files hold.was.generation read (held_root files rows hold) in
    let read_then = c.read_root.ensures.reads.same.kept files read in
    let checkpoint = c.in_ok-draft.ensures.rows in
    let journal = c.in_ok-end.ensures.rows in
    let puts_are = held_puts files rows hold generation checkpoint.puts same checkpoint.is (checkpoint.text files read_then) in
    held_rows files rows hold generation checkpoint.puts journal.groups (rows_of_draft c.in_ok-draft.draft) (rows_of c.in_ok-tables.tables) same puts_are (journal.text files (c.read_checkpoint.ensures.reads.same.kept files read_then)) checkpoint.rows_are (c.in_ok-tables.ensures.rows ∙ journal.rows_are)

pub returns-clause-reads : goal.returns-clause-reads
returns-clause-reads g c =
    let two = reads_on g.D.Disk.says c.args.disk.now c.read_root.new.disk c.read_checkpoint.new.disk c.read_root.ensures.reads c.read_checkpoint.ensures.reads in
    reads_on g.D.Disk.says c.args.disk.now c.read_checkpoint.new.disk c.read_journal.new.disk two c.read_journal.ensures.reads

pub returns-clause-cause : goal.returns-clause-cause
returns-clause-cause g c = no_cause _ (g.D.Disk.says.faults c.args.disk.now) (g.D.Disk.says.faults c.read_journal.new.disk) (omega (arith, c.read_root.ensures.cause.never_falls, c.read_checkpoint.ensures.cause.never_falls, c.read_journal.ensures.cause.never_falls))

pub returns-in_err-generation-clause-damaged : goal.returns-in_err-generation-clause-damaged
returns-in_err-generation-clause-damaged g c = λ files contents read.
    passed_on c.from_residual.result c.in_err-generation.field-0.0 (Tells (IsDamage files contents)) c.from_residual.ensures.1 (c.in_err-generation.ensures.damaged files contents read)

pub returns-in_err-draft-clause-damaged : goal.returns-in_err-draft-clause-damaged
returns-in_err-draft-clause-damaged g c = λ files contents read.
    let generation = c.in_ok-generation.generation in
    let fault = c.in_err-draft.field-0.0 in
    let root = c.in_ok-generation.ensures.root files read in
    passed_on c.from_residual-in_err-draft.result fault (Tells (IsDamage files contents)) c.from_residual-in_err-draft.ensures.1 (
    journal_damage TablesDraft files contents (2 + 2 * generation) (IsCheckpointDamage generation (files (2 + 2 * generation))) fault c.in_err-draft.ensures.fault (c.in_err-draft.ensures.damaged files (c.read_root.ensures.reads.same.kept files read)) (λ place damage. of_checkpoint generation root refl damage))

pub returns-in_err-end-clause-damaged : goal.returns-in_err-end-clause-damaged
returns-in_err-end-clause-damaged g c = λ files contents read.
    let generation = c.in_ok-generation.generation in
    let fault = c.in_err-end.field-0.0 in
    let root = c.in_ok-generation.ensures.root files read in
    let read_then = c.read_root.ensures.reads.same.kept files read in
    let checkpoint = c.in_ok-draft.ensures.rows in
    let file = files (1 + 2 * generation) in
    let damaged : IfDamaged {X = JournalEnd} (Err fault) (IsJournalDamage (changed_by no_rows checkpoint.puts) file) =
    subst (λ (rows : AllRows). IfDamaged {X = JournalEnd} (Err fault) (IsJournalDamage rows file)) checkpoint.rows_are (c.in_err-end.ensures.damaged files (c.read_checkpoint.ensures.reads.same.kept files read_then)) in
    passed_on c.from_residual-in_err-end.result fault (Tells (IsDamage files contents)) c.from_residual-in_err-end.ensures.1 (
    journal_damage JournalEnd files contents (1 + 2 * generation) (IsJournalDamage (changed_by no_rows checkpoint.puts) file) fault c.in_err-end.ensures.fault damaged (λ place damage. of_journal generation checkpoint.puts root checkpoint.is (checkpoint.text files read_then) refl damage))

pub returns-in_err-generation-clause-unfailed : goal.returns-in_err-generation-clause-unfailed
returns-in_err-generation-clause-unfailed g c = unless_passed c.from_residual.result c.in_err-generation.field-0.0 _ c.from_residual.ensures.1 (λ other. c.in_err-generation.ensures.unfailed other)

pub returns-in_err-piece-clause-unfailed : goal.returns-in_err-piece-clause-unfailed
returns-in_err-piece-clause-unfailed g c = unless_anyway c.from_residual-in_err-piece.result _ c.in_ok-generation.ensures.unfailed

pub returns-in_err-draft-clause-unfailed : goal.returns-in_err-draft-clause-unfailed
returns-in_err-draft-clause-unfailed g c = unless_passed c.from_residual-in_err-draft.result c.in_err-draft.field-0.0 _ c.from_residual-in_err-draft.ensures.1 (λ other. c.in_err-draft.ensures.unfailed other ∙ c.in_ok-generation.ensures.unfailed)

pub returns-in_err-end-clause-unfailed : goal.returns-in_err-end-clause-unfailed
returns-in_err-end-clause-unfailed g c = unless_passed c.from_residual-in_err-end.result c.in_err-end.field-0.0 _ c.from_residual-in_err-end.ensures.1 (λ other. c.in_err-end.ensures.unfailed other ∙ (c.in_ok-draft.ensures.unfailed ∙ c.in_ok-generation.ensures.unfailed))

pub returns-in_err-tables-clause-unfailed : goal.returns-in_err-tables-clause-unfailed
returns-in_err-tables-clause-unfailed g c = unless_anyway c.from_residual-in_err-tables.result _ (c.in_ok-end.ensures.unfailed ∙ (c.in_ok-draft.ensures.unfailed ∙ c.in_ok-generation.ensures.unfailed))

pub returns-clause-unfailed : goal.returns-clause-unfailed
returns-clause-unfailed g c = c.in_ok-end.ensures.unfailed ∙ (c.in_ok-draft.ensures.unfailed ∙ c.in_ok-generation.ensures.unfailed)
