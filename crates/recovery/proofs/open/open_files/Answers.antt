use Rattle.std.proofs.Common.{◌≡◌, ◌≤◌, ℕ, List, length, ap, sym, subst, ◌∙◌, arith}
use Rattle.outside_api.specs.Disk.{StillTells}
use Rattle.depot_rows.specs.db_records.declared.record.Record.{Record}
use Rattle.depot_rows.specs.db_records.declared.table.TableId.{TableId}
use Rattle.depot_rows.specs.table_changes.Changed.{AllRows, rows_of}
use Rattle.depot_rows.specs.depot_model.Deeds.{Deed}
use Rattle.depot_rows.specs.depot_model.Records.{record_of}
use Rattle.depot_rows.specs.Standing.{Stand, unplaced_at}
use Rattle.recovery.specs.Rules.{SuitFiles}
use Rattle.recovery.proofs.Damaged.{hold_found}
use Rattle.recovery.proofs.Synced.{can_adopt}
use Rattle.recovery.proofs.Whole.{hold_of}
use Rattle.recovery.proofs.open.open_files.Goals as goal

same_stand : (old new : AllRows) (d : List Deed) → ((table : TableId) → new table ≡ old table) → Stand old d → Stand new d
same_stand old new d same stand = record { sound = stand.sound; each = λ table key of. subst (λ (rows : List Record). unplaced_at rows key ≡ record_of d key) (sym (same table)) (stand.each table key of) }

pub adopt-requires : goal.adopt-requires
adopt-requires g c = (c.in-Ok.ensures.found.was, can_adopt g.D.Disk.says c.args.journal c.read_depot.new.journal c.in-Ok.found c.in-Ok.ensures.found c.in-Ok.ensures.synced.0)

pub adopt-requires-in-Ok : goal.adopt-requires-in-Ok
adopt-requires-in-Ok g c = λ files read.
    subst (λ n. n ≤ length (files 0)) (sym c.archive_end-used.ensures.end) (c.in-Ok.ensures.within files (c.in-Ok.ensures.synced.1.same.no_more files read))

pub returns-in-Ok-clause-open : goal.returns-in-Ok-clause-open
returns-in-Ok-clause-open g c =
    let found = c.in-Ok.ensures.found in
    let adopted = can_adopt g.D.Disk.says c.args.journal c.read_depot.new.journal c.in-Ok.found found c.in-Ok.ensures.synced.0 in (
      found.was,
      record {
        rows = found.has;
        stands = c.adopt.ensures.stands found.was adopted;
        archive_end = c.in-Ok.ensures.end;
        used = c.adopt-in-Ok.ensures.used ∙ c.archive_end-used.ensures.end;
        contents = λ image left.
            let archive = c.in-Ok.ensures.synced.1 in
            c.in-Ok.ensures.contents image (archive.same.no_more image (archive.durable image (subst (λ (disk : g.row.D.Denot). g.D.Disk.says.may_leave disk image) c.adopt-in-Ok.ensures.disk left)));
      },
    )

pub returns-in-Ok-clause-held : goal.returns-in-Ok-clause-held
returns-in-Ok-clause-held g c = λ files read.
    let open_now = returns-in-Ok-clause-open g c in
    let image = g.met.D.Disk.reads_an_image c.read_depot.new.journal files (c.in-Ok.ensures.synced.0.same.kept files read) in
    record { was = open_now.0; committed = open_now.1.stands.holds files (subst (λ (disk : g.row.D.Denot). g.D.Disk.says.may_leave disk files) (sym c.adopt.ensures.disk) image); has = open_now.1.rows }

pub returns-in-Ok-clause-suit : goal.returns-in-Ok-clause-suit
unfolding returns-in-Ok-clause-open
returns-in-Ok-clause-suit g c =
    let found = c.in-Ok.ensures.found in
    let open_now = returns-in-Ok-clause-open g c in
    subst (λ (n : ℕ). SuitFiles n (rows_of c.in-Ok.found.tables)) (found.generation ∙ sym open_now.1.stands.generation) c.in-Ok.ensures.suit

pub returns-in-Ok-clause-whole : goal.returns-in-Ok-clause-whole
returns-in-Ok-clause-whole g c = λ files contents read read_contents.
    let found = c.in-Ok.ensures.found in
    let rows = rows_of c.in-Ok.found.tables in
    let within = c.in-Ok.ensures.within contents read_contents in
    record {
      hold_within = record { hold = hold_found found.was rows files found.has found.are_groups (found.at_rest files read); within = omega (arith, c.in-Ok.ensures.end, within) };
      whole = c.in-Ok.ensures.contents contents read_contents;
      suit = subst (λ (n : ℕ). SuitFiles n rows) found.generation c.in-Ok.ensures.suit;
    }

pub returns-in-Ok-clause-stands : goal.returns-in-Ok-clause-stands
returns-in-Ok-clause-stands g c = λ files contents d read read_contents stands.
    (tt, same_stand stands.rows _ d (c.in-Ok.ensures.only files contents stands.rows read read_contents (hold_of d files contents stands)) stands.stand)

pub returns-in-Err-clause-stands : goal.returns-in-Err-clause-stands
returns-in-Err-clause-stands g c = λ files contents d read read_contents stands.
    (c.in-Err.ensures.only files contents stands.rows read read_contents (hold_of d files contents stands), tt)

pub returns-in-Ok-clause-unfailed : goal.returns-in-Ok-clause-unfailed
returns-in-Ok-clause-unfailed g c = λ no. (
  ap g.D.Disk.says.faults c.adopt.ensures.disk ∙ c.in-Ok.ensures.unfailed.0,
  ap g.D.Disk.says.faults c.adopt-in-Ok.ensures.disk ∙ c.in-Ok.ensures.unfailed.1,
)

pub returns-in-Err-clause-unfailed : goal.returns-in-Err-clause-unfailed
returns-in-Err-clause-unfailed g c = λ no. c.in-Err.ensures.unfailed no

pub returns-in-Ok-clause-journal_told : goal.returns-in-Ok-clause-journal_told
returns-in-Ok-clause-journal_told g c =
    let says = g.D.Disk.says in
    subst (λ (disk : g.row.D.Denot). StillTells (says.seen c.args.journal) (says.seen disk)) (sym c.adopt.ensures.disk) c.read_depot.ensures.journal_told

pub returns-in-Ok-clause-archive_told : goal.returns-in-Ok-clause-archive_told
returns-in-Ok-clause-archive_told g c =
    let says = g.D.Disk.says in
    subst (λ (disk : g.row.D.Denot). StillTells (says.seen c.args.archive) (says.seen disk)) (sym c.adopt-in-Ok.ensures.disk) c.read_depot.ensures.archive_told
