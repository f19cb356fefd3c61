use Rattle.std.proofs.Common.{◌≡◌, ◌≤◌, ℕ, length, sym, ap, subst, ◌∙◌}
use Rattle.depot_rows.specs.db_records.declared.table.TableId.{TableId}
use Rattle.depot_rows.specs.db_records.declared.table.TableId.TheVariants.{Rev}
use Rattle.depot_rows.specs.table_store.Rows.{TableRows}
use Rattle.depot_rows.specs.table_changes.Changed.{AllRows, rows_of}
use Rattle.recovery.specs.Holding.{spots_end}
use Rattle.recovery.specs.Contents.{AreWhole}
use Rattle.recovery.specs.Damage.{IsDamage}
use Rattle.recovery.specs.Faults.{Tells}
use Rattle.recovery.specs.Rules.{SuitFiles}
use Rattle.recovery.specs.declared.depot.Found.{Found}
use Rattle.recovery.proofs.Damaged.{hold_found, archive_damage}
use Rattle.recovery.proofs.Looks.{passed_nothing}
use Rattle.recovery.proofs.PassedOn.{passed_on, passed_unmade, no_fault_but, unless_failed, unless_passed}
use Rattle.recovery.proofs.GoodSpots.{nothing_bad}
use Rattle.recovery.proofs.Synced.{synced_then, looks_then, same_rows, same_end}
use Rattle.recovery.proofs.open.read_depot.Goals as goal

pub returns-in_err-found-clause-only : goal.returns-in_err-found-clause-only
returns-in_err-found-clause-only g c = λ files contents rows read read_contents hold.
    passed_nothing c.from_residual-in_err-found.result c.in_err-found.field-0.0 _ c.from_residual-in_err-found.ensures.1 (c.in_err-found.ensures.only files rows (c.in_ok-sync.ensures.same.kept files read) hold.hold_within.hold hold.suit)

pub returns-in_err-end-clause-only : goal.returns-in_err-end-clause-only
returns-in_err-end-clause-only g c = λ files contents rows read read_contents hold.
    let same = c.in_ok-found.ensures.only files rows (c.in_ok-sync.ensures.same.kept files read) hold.hold_within.hold hold.suit in
    let found = rows_of c.in_ok-found.found.tables Rev in
    let within : spots_end found ≤ length (contents 0) = subst (λ n. n ≤ length (contents 0)) (sym (ap spots_end (same Rev))) hold.hold_within.within in
    let whole : AreWhole (contents 0) found = subst (AreWhole (contents 0)) (sym (same Rev)) hold.whole in
    let fault = c.in_err-end.field-0.0 in
    passed_nothing c.from_residual-in_err-end.result fault _ c.from_residual-in_err-end.ensures.1 (
    nothing_bad ℕ (contents 0) found fault whole within c.in_err-end.ensures.fault (c.in_err-end.ensures.damaged contents (c.in_ok-sync-2.ensures.same.kept contents read_contents)))

pub returns-in_err-end-clause-damaged : goal.returns-in_err-end-clause-damaged
returns-in_err-end-clause-damaged g c = λ files contents read read_contents.
    let found = c.in_ok-found.ensures.found in
    let rows = rows_of c.in_ok-found.found.tables in
    let fault = c.in_err-end.field-0.0 in
    passed_on c.from_residual-in_err-end.result fault (Tells (IsDamage files contents)) c.from_residual-in_err-end.ensures.1 (
    archive_damage ℕ files contents rows fault (hold_found found.was rows files found.has found.are_groups (found.at_rest files (c.in_ok-sync.ensures.same.kept files read))) (subst (λ (n : ℕ). SuitFiles n rows) found.generation c.in_ok-found.ensures.suit) c.in_err-end.ensures.fault (c.in_err-end.ensures.damaged contents (c.in_ok-sync-2.ensures.same.kept contents read_contents)))

pub returns-in_err-end-clause-journal_looks : goal.returns-in_err-end-clause-journal_looks
returns-in_err-end-clause-journal_looks g c =
    looks_then g.D.Disk.says c.args.journal.now c.sync.new.self c.read_kept_rows.new.disk (g.met.D.Disk.only_now c.args.journal.now) c.sync.ensures.crash c.sync.ensures.time c.read_kept_rows.ensures.reads

pub returns-clause-journal_looks : goal.returns-clause-journal_looks
returns-clause-journal_looks g c =
    looks_then g.D.Disk.says c.args.journal.now c.sync.new.self c.read_kept_rows.new.disk (g.met.D.Disk.only_now c.args.journal.now) c.sync.ensures.crash c.sync.ensures.time c.read_kept_rows.ensures.reads

pub returns-clause-found : goal.returns-clause-found
returns-clause-found g c =
    let found = c.in_ok-found.ensures.found in
    let same : (table : TableId) → rows_of c.set_archive_end.new.self table ≡ rows_of c.in_ok-found.found.tables table = λ table. ap (λ (version : TableRows). version.rows) (c.set_archive_end.ensures.versions table) in
    record {
      was = found.was;
      has = same_rows found.was (rows_of c.in_ok-found.found.tables) (rows_of c.set_archive_end.new.self) same found.has;
      generation = found.generation;
      last = found.last;
      are_groups = found.are_groups;
      count = found.count;
      long = found.long;
      short = found.short;
      at_rest = λ files read. found.at_rest files (c.in_ok-sync.ensures.same.kept files read);
    }

pub returns-clause-end : goal.returns-clause-end
returns-clause-end g c =
    let same : (table : TableId) → rows_of c.set_archive_end.new.self table ≡ rows_of c.in_ok-found.found.tables table = λ table. ap (λ (version : TableRows). version.rows) (c.set_archive_end.ensures.versions table) in
    c.set_archive_end.ensures.end ∙ c.in_ok-end.ensures.end ∙ sym (same_end (rows_of c.in_ok-found.found.tables) (rows_of c.set_archive_end.new.self) same)

pub returns-clause-within : goal.returns-clause-within
returns-clause-within g c = λ contents read.
    subst (λ n. n ≤ length (contents 0)) (sym c.set_archive_end.ensures.end) (c.in_ok-end.ensures.within contents (c.in_ok-sync-2.ensures.same.kept contents read))

pub returns-clause-contents : goal.returns-clause-contents
returns-clause-contents g c = λ contents read.
    let same : rows_of c.set_archive_end.new.self Rev ≡ rows_of c.in_ok-found.found.tables Rev = ap (λ (version : TableRows). version.rows) (c.set_archive_end.ensures.versions Rev) in
    subst (AreWhole (contents 0)) (sym same) (c.in_ok-end.ensures.whole contents (c.in_ok-sync-2.ensures.same.kept contents read))

pub returns-clause-synced : goal.returns-clause-synced
returns-clause-synced g c = (
  synced_then g.D.Disk.says c.args.journal.now c.sync.new.self c.read_kept_rows.new.disk c.in_ok-sync.ensures.same c.in_ok-sync.ensures.durable c.read_kept_rows.ensures.reads,
  synced_then g.D.Disk.says c.args.archive.now c.sync-2.new.self c.read_contents.new.disk c.in_ok-sync-2.ensures.same c.in_ok-sync-2.ensures.durable c.read_contents.ensures.reads,
)

pub returns-clause-only : goal.returns-clause-only
returns-clause-only g c = λ files contents rows read read_contents hold table.
    ap (λ (version : TableRows). version.rows) (c.set_archive_end.ensures.versions table) ∙ c.in_ok-found.ensures.only files rows (c.in_ok-sync.ensures.same.kept files read) hold.hold_within.hold hold.suit table

pub returns-in_err-found-clause-damaged : goal.returns-in_err-found-clause-damaged
returns-in_err-found-clause-damaged g c = λ files contents read read_contents.
    passed_on c.from_residual-in_err-found.result c.in_err-found.field-0.0 (Tells (IsDamage files contents)) c.from_residual-in_err-found.ensures.1 (c.in_err-found.ensures.damaged files contents (c.in_ok-sync.ensures.same.kept files read))

pub returns-clause-suit : goal.returns-clause-suit
returns-clause-suit g c =
    let same : ◌≡◌ {A = AllRows} (rows_of c.set_archive_end.new.self) (rows_of c.in_ok-found.found.tables) = λ i table. (c.set_archive_end.ensures.versions table i).rows in
    subst (SuitFiles c.in_ok-found.found.generation) (sym same) c.in_ok-found.ensures.suit

pub returns-in_err-found-clause-exactly : goal.returns-in_err-found-clause-exactly
returns-in_err-found-clause-exactly g c = λ files read empty.
    passed_unmade Found c.from_residual-in_err-found.result c.in_err-found.field-0.0 c.from_residual-in_err-found.ensures.1 (c.in_err-found.ensures.exactly files (c.in_ok-sync.ensures.same.kept files read) empty)

pub returns-in_err-sync-clause-read : goal.returns-in_err-sync-clause-read
returns-in_err-sync-clause-read g c = no_fault_but c.from_residual.result _ c.from_residual.ensures.1

pub returns-in_err-sync-2-clause-read : goal.returns-in_err-sync-2-clause-read
returns-in_err-sync-2-clause-read g c = no_fault_but c.from_residual-in_err-sync-2.result _ c.from_residual-in_err-sync-2.ensures.1

pub returns-in_err-found-clause-read : goal.returns-in_err-found-clause-read
returns-in_err-found-clause-read g c =
    passed_on c.from_residual-in_err-found.result c.in_err-found.field-0.0 _ c.from_residual-in_err-found.ensures.1 (λ other. (
      synced_then g.D.Disk.says c.args.journal.now c.sync.new.self c.read_kept_rows.new.disk c.in_ok-sync.ensures.same c.in_ok-sync.ensures.durable c.read_kept_rows.ensures.reads,
      record { same = c.in_ok-sync-2.ensures.same; durable = c.in_ok-sync-2.ensures.durable },
    ))

pub returns-in_err-end-clause-read : goal.returns-in_err-end-clause-read
returns-in_err-end-clause-read g c =
    passed_on c.from_residual-in_err-end.result c.in_err-end.field-0.0 _ c.from_residual-in_err-end.ensures.1 (λ other. (
      synced_then g.D.Disk.says c.args.journal.now c.sync.new.self c.read_kept_rows.new.disk c.in_ok-sync.ensures.same c.in_ok-sync.ensures.durable c.read_kept_rows.ensures.reads,
      synced_then g.D.Disk.says c.args.archive.now c.sync-2.new.self c.read_contents.new.disk c.in_ok-sync-2.ensures.same c.in_ok-sync-2.ensures.durable c.read_contents.ensures.reads,
    ))

pub returns-in_err-sync-clause-unfailed : goal.returns-in_err-sync-clause-unfailed
returns-in_err-sync-clause-unfailed g c = unless_failed c.from_residual.result _ c.from_residual.ensures.1

pub returns-in_err-sync-2-clause-unfailed : goal.returns-in_err-sync-2-clause-unfailed
returns-in_err-sync-2-clause-unfailed g c = unless_failed c.from_residual-in_err-sync-2.result _ c.from_residual-in_err-sync-2.ensures.1

pub returns-in_err-found-clause-unfailed : goal.returns-in_err-found-clause-unfailed
returns-in_err-found-clause-unfailed g c = unless_passed c.from_residual-in_err-found.result c.in_err-found.field-0.0 _ c.from_residual-in_err-found.ensures.1 (λ other. (c.in_err-found.ensures.unfailed other ∙ c.in_ok-sync.ensures.only, c.in_ok-sync-2.ensures.only))

pub returns-in_err-end-clause-unfailed : goal.returns-in_err-end-clause-unfailed
returns-in_err-end-clause-unfailed g c = unless_passed c.from_residual-in_err-end.result c.in_err-end.field-0.0 _ c.from_residual-in_err-end.ensures.1 (λ other. (c.in_ok-found.ensures.unfailed ∙ c.in_ok-sync.ensures.only, c.in_err-end.ensures.unfailed other ∙ c.in_ok-sync-2.ensures.only))

pub returns-clause-unfailed : goal.returns-clause-unfailed
returns-clause-unfailed g c = (c.in_ok-found.ensures.unfailed ∙ c.in_ok-sync.ensures.only, c.in_ok-end.ensures.unfailed ∙ c.in_ok-sync-2.ensures.only)

pub returns-in_err-found-clause-journal_told : goal.returns-in_err-found-clause-journal_told
returns-in_err-found-clause-journal_told g c files read = (files, c.read_kept_rows.ensures.reads.same.kept files (c.in_ok-sync.ensures.same.kept files read))

pub returns-in_err-end-clause-journal_told : goal.returns-in_err-end-clause-journal_told
returns-in_err-end-clause-journal_told g c files read = (files, c.read_kept_rows.ensures.reads.same.kept files (c.in_ok-sync.ensures.same.kept files read))

pub returns-in_err-end-clause-archive_told : goal.returns-in_err-end-clause-archive_told
returns-in_err-end-clause-archive_told g c files read = (files, c.read_contents.ensures.reads.same.kept files (c.in_ok-sync-2.ensures.same.kept files read))

pub returns-clause-journal_told : goal.returns-clause-journal_told
returns-clause-journal_told g c files read = (files, c.read_kept_rows.ensures.reads.same.kept files (c.in_ok-sync.ensures.same.kept files read))

pub returns-clause-archive_told : goal.returns-clause-archive_told
returns-clause-archive_told g c files read = (files, c.read_contents.ensures.reads.same.kept files (c.in_ok-sync-2.ensures.same.kept files read))
