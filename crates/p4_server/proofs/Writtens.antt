-- Files that stand as they were written are opened as a depot that replicas follow.
use Rattle.std.proofs.Common.{◌≡◌, ◌⊎◌, ◌≤◌, ◌<◌, ◌+◌, ℕ, List, [], length, take, inl, inr, refl, sym, ap, subst, ◌∙◌, arith}
use Rattle.std.proofs.Math.Nat.{eq-or-lt_of_le}
use Rattle.std.proofs.Math.Path.{fun_ext}
use Rattle.std.proofs.Math.Seq.{take-length}
use Rattle.std.proofs.lemmas.List.{length-map}
use Rattle.outside_api.specs.Disk.{Files}
use Rattle.outside_api.specs.Says.{DiskSays}
use Rattle.archive_file.specs.Archive as archives
use Rattle.depot_rows.specs.db_records.declared.change.Change.{Change}
use Rattle.depot_rows.specs.db_records.declared.table.TableId.TheVariants.{Rev}
use Rattle.depot_rows.specs.depot_model.Deeds.{Deed}
use Rattle.depot_rows.specs.Standing.{Stand}
use Rattle.disk_journal.specs.Images.{Committed, HasCommitted}
use Rattle.disk_journal.specs.Made.{made}
use Rattle.disk_journal.specs.Stands.{disk_of, nothing}
use Rattle.recovery.proofs.Empty.{made_rows}
use Rattle.recovery.proofs.Held.{groups_once, rows_once}
use Rattle.recovery.specs.Holding.{Hold, group_texts, joined, spots_end}
use Rattle.recovery.specs.Opening.{HasSynced, IsOpen}
use Rattle.recovery.specs.declared.open.Opened.{Opened}
use Rattle.replica_turns.specs.Master.{CanBeFollowed, HasNth, IsMaster, IsNth, Past, all_changes, first_of}
use Rattle.replica_turns.specs.Written.{AreWritten, WasWritten, nothing_done, rows_made}
use Rattle.party_threads.specs.depot_commit.Holding.{KeepContents}
use Rattle.party_threads.specs.serial_depot.Running.{HasRun}
use Rattle.party_threads.specs.serial_depot.declared.depot.SerialDepot.{SerialDepot}
use Rattle.depot_rows.specs.table_changes.Changed.{AllRows, changed_by, no_rows, rows_of}
use Rattle.p4_server.specs.Files.{IsStart}
use Rattle.p4_server.proofs.Openings.{read_at_start}
use Rattle.p4_server.proofs.Scheduled.{depot_of}

-- ---- files that are made

pub made_written : (journal archive : Files) → HasCommitted made journal → WasWritten nothing_done journal archive
made_written journal archive committed = record {
  has = record {
    are_groups = (tt, tt);
    older = λ generation below. absurd (omega (arith, below));
    was = made;
    committed = committed;
    generation = refl;
    newest = refl;
    has = made_rows;
  };
  count = refl;
  each = λ n below. absurd (omega (arith, below));
}

-- ---- files that are opened

module _ {D : Type 0} (disk_says : DiskSays D) (journal archive : D) (opened : Opened D) (was : Committed) (is : IsOpen disk_says was opened)
    (synced : HasSynced disk_says journal (disk_of opened.journal)) (archive_synced : HasSynced disk_says archive (archives.disk_of opened.archive))
    (reads : (disk : D) (files : Files) → disk_says.seen disk files → disk_says.may_leave disk files) (held : (j : Files) → disk_says.seen journal j → Hold j (rows_of opened.tables)) (d : List Deed) (start : IsStart disk_says journal archive d)
    (h : HasRun disk_says (depot_of disk_says opened) (disk_says.moment (disk_of opened.journal)) d []) (past : Past) (w : AreWritten disk_says journal archive past) where
  abbrev depot : SerialDepot D
  depot = depot_of disk_says opened

  committed : HasCommitted was start.journal_files
  committed = is.stands.holds start.journal_files (reads (disk_of opened.journal) start.journal_files (synced.same.kept start.journal_files start.journal_reads))

  pair : WasWritten past start.journal_files start.archive_files
  pair = w start.journal_files start.archive_files start.journal_reads start.archive_reads

  own : Hold start.journal_files (rows_made past.journal)
  own = record { was = pair.has.was; committed = pair.has.committed; has = pair.has.has }

  rows_are : rows_of opened.tables ≡ rows_made past.journal
  rows_are = fun_ext (rows_once start.journal_files (rows_made past.journal) (rows_of opened.tables) own (held start.journal_files start.journal_reads))

  same_generation : pair.has.was.generation ≡ was.generation
  same_generation = sym pair.has.committed.root ∙ committed.root

  newest_are : was.groups ≡ group_texts 1 past.journal.newest
  unfolding own pair
  newest_are =
      let h : Hold start.journal_files (rows_of opened.tables) = record { was = was; committed = committed; has = is.rows } in
      groups_once start.journal_files (rows_made past.journal) (rows_of opened.tables) own h ∙ pair.has.newest

  -- the rows that all of them make
  last_rows : (n : ℕ) → n ≡ length (all_changes past.journal) → first_of n past.journal ≡ rows_of opened.tables
  last_rows n last =
      ap (λ (l : List (List Change)). changed_by no_rows (joined l)) (ap (λ (k : ℕ). take k (all_changes past.journal)) last ∙ take-length (all_changes past.journal)) ∙ sym rows_are

  first_ends : (n : ℕ) → (n ≡ length (all_changes past.journal)) ⊎ (n < length (all_changes past.journal)) → spots_end (first_of n past.journal Rev) ≤ spots_end (rows_of opened.tables Rev)
  first_ends n (inl last) = let same = ap (λ (r : AllRows). spots_end (r Rev)) (last_rows n last) in omega (arith, same)
  first_ends n (inr less) =
      let low : n < past.count = (let all = pair.count in omega (arith, less, all)) in
      let within = (pair.each n low).within in
      let same = ap (λ (r : AllRows). spots_end (r Rev)) rows_are in
      omega (arith, within, same)

  nth : (n : ℕ) → (n ≡ length (all_changes past.journal)) ⊎ (n < length (all_changes past.journal)) → HasNth disk_says depot.archive (IsNth past d [] n) past.journal n
  nth n (inl last) =
      let same = last_rows n last in
      let count : n ≡ past.count + 0 = (let all = pair.count in omega (arith, last, all)) in
      record {
        depot = d;
        is = inr (0, count, (refl, refl));
        stand = subst (λ (r : AllRows). Stand r d) (sym same) h.over.stand;
        kept = subst (λ (r : AllRows). KeepContents (disk_says.may_leave (archives.disk_of opened.archive)) (archives.used_of opened.archive) r d) (sym same) h.over.kept;
      }
  nth n (inr less) =
      let low : n < past.count = (let all = pair.count in omega (arith, less, all)) in
      let then = pair.each n low in
      let used : archives.used_of opened.archive ≡ spots_end (rows_of opened.tables Rev) = is.used ∙ is.archive_end in
      let ends : spots_end (rows_made past.journal Rev) ≡ spots_end (rows_of opened.tables Rev) = ap (λ (r : AllRows). spots_end (r Rev)) (sym rows_are) in
      let within = then.within in
      record {
        depot = past.after n;
        is = inl (low, refl);
        stand = then.stand;
        kept = record {
          ends = omega (arith, within, ends, used);
          deletes = then.deletes;
          contents = λ image left. ((w start.journal_files image start.journal_reads (read_at_start disk_says archive (archives.disk_of opened.archive) archive_synced image left)).each n low).contents;
        };
      }

  pub written_master : IsMaster disk_says past d [] depot past.journal
  written_master =
      let generation = is.stands.generation in
      let same = length-map past.journal.closed (group_texts 1) in
      let closed : was.generation ≡ length past.journal.closed = sym same_generation ∙ pair.has.generation in
      record {
        groups = record {
          was = was;
          doubt = nothing;
          stands = is.stands;
          keeps = record {
            tells = (start.journal_files, synced.same.kept start.journal_files start.journal_reads);
            count = omega (arith, generation, same, closed);
            each = λ image left. (w image start.archive_files (read_at_start disk_says journal (disk_of opened.journal) synced image left) start.archive_reads).has.older;
          };
          are = newest_are;
          are_groups = pair.has.are_groups;
        };
        rows = rows_are;
        changes = 0;
        count = (let all = pair.count in omega (arith, all));
        are_changes = refl;
        each = λ n within. nth n (eq-or-lt_of_le within);
        ends = λ n within. first_ends n (eq-or-lt_of_le within);
        fit = λ fits. fits;
      }

-- so is the depot that is made of them
pub opened_master : {D : Type 0} (disk_says : DiskSays D) (journal archive : D) (opened : Opened D) (was : Committed) → IsOpen disk_says was opened
    → HasSynced disk_says journal (disk_of opened.journal) → HasSynced disk_says archive (archives.disk_of opened.archive)
    → ((disk : D) (files : Files) → disk_says.seen disk files → disk_says.may_leave disk files) → ((j : Files) → disk_says.seen journal j → Hold j (rows_of opened.tables)) → (d : List Deed) → IsStart disk_says journal archive d
    → (depot : SerialDepot D) → depot ≡ depot_of disk_says opened → HasRun disk_says depot (disk_says.moment (disk_of opened.journal)) d [] → (past : Past) → AreWritten disk_says journal archive past
    → CanBeFollowed disk_says past d [] depot
opened_master {D} disk_says journal archive opened was is synced archive_synced reads held d start depot made h past w =
    let Ran : SerialDepot D → Type 0 = λ s. HasRun disk_says s (disk_says.moment (disk_of opened.journal)) d [] in
    subst (CanBeFollowed disk_says past d []) (sym made) (past.journal, written_master disk_says journal archive opened was is synced archive_synced reads held d start (subst Ran made h) past w)
