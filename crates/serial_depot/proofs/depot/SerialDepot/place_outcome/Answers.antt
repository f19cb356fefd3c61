use Rattle.std.proofs.Common.{ℕ, List, [], refl, sym, ap, subst, ◌∙◌, arith}
use Rattle.archive_file.specs.Archive as archives
use Rattle.archive_file.specs.declared.archive.Archive.{Archive}
use Rattle.depot_rows.specs.table_changes.Changed.{AllFitIn, rows_of}
use Rattle.depot_rows.specs.table_store.declared.tables.Tables.{Tables}
use Rattle.depot_commit.specs.Growing.{KeepsStored}
use Rattle.depot_commit.specs.Storing.{AllReach, stores_end}
use Rattle.depot_commit.proofs.Growing.{stored_read, stored_two}
use Rattle.depot_commit.proofs.Beside.{stored_so}
use Rattle.serial_depot.proofs.Parts.{beside_now, can_of, cause_of, read_can, read_run, read_stayed, stored_run}
use Rattle.serial_depot.proofs.depot.SerialDepot.place_outcome.Goals as goal

pub place-requires-clause-can : goal.place-requires-clause-can
place-requires-clause-can g c = let can = c.requires.can in (can.was, (can.doubt, can.stands))

pub place-requires-clause-used : goal.place-requires-clause-used
place-requires-clause-used g c =
    let says = g.D.Disk.says in
    let tell = c.tell_reading.ensures in
    let can = read_can says c.args.self.now c.tell_reading.new.archive tell.used tell.same tell.crash c.requires.can in
    (sym can.end, subst (AllReach (says.may_leave (archives.disk_of c.tell_reading.new.archive))) (sym can.end) can.room)

pub place-requires-clause-fit : goal.place-requires-clause-fit
place-requires-clause-fit g c = λ none. subst (AllFitIn (rows_of c.args.self.now.tables)) (sym c.in-Ok.ensures.told.changes) (c.requires.fit none)

-- ---- no memory was left for the reply

pub returns-in-Err-clause-can : goal.returns-in-Err-clause-can
returns-in-Err-clause-can g c = let tell = c.tell_reading.ensures in read_can g.D.Disk.says c.args.self.now c.tell_reading.new.archive tell.used tell.same tell.crash c.requires.can

pub returns-in-Err-clause-unplaced : goal.returns-in-Err-clause-unplaced
returns-in-Err-clause-unplaced g c =
    let tell = c.tell_reading.ensures in read_stayed g.D.Disk.says c.args.self.now c.tell_reading.new.archive tell.used tell.same tell.crash (refl, refl, refl) c.in-Err.ensures.no_memory

pub returns-in-Err-clause-stored : goal.returns-in-Err-clause-stored
returns-in-Err-clause-stored g c = stored_read g.D.Disk.says c.args.self.now.archive c.tell_reading.new.archive c.tell_reading.ensures.used c.tell_reading.ensures.crash

pub returns-in-Err-clause-no_call : goal.returns-in-Err-clause-no_call
returns-in-Err-clause-no_call g c = λ none unread i. record c.args.self.now { archive = c.tell_reading.ensures.no_call unread i }

-- ---- nor for the changes

pub returns-in-Err-place-clause-can : goal.returns-in-Err-place-clause-can
returns-in-Err-place-clause-can g c = can_of g.D.Disk.says _ c.place.ensures.can c.place.ensures.used

pub returns-in-Err-place-clause-unplaced : goal.returns-in-Err-place-clause-unplaced
returns-in-Err-place-clause-unplaced g c =
    let tell = c.tell_reading.ensures in
    let same = c.in-Err-place.ensures in
    read_stayed g.D.Disk.says c.args.self.now c.tell_reading.new.archive tell.used tell.same tell.crash same.nothing (c.in-Ok.ensures.only same.no_memory)

pub returns-in-Err-place-clause-stored : goal.returns-in-Err-place-clause-stored
returns-in-Err-place-clause-stored g c =
    subst (λ (archive : Archive g.row.D.Denot). KeepsStored g.D.Disk.says c.args.self.now.archive archive) (sym c.in-Err-place.ensures.nothing.2)
    (stored_read g.D.Disk.says c.args.self.now.archive c.tell_reading.new.archive c.tell_reading.ensures.used c.tell_reading.ensures.crash)

pub returns-in-Err-place-clause-end : goal.returns-in-Err-place-clause-end
returns-in-Err-place-clause-end g c = λ none. ap (λ (t : Tables). t.archive_end) c.in-Err-place.ensures.nothing.0

pub returns-in-Err-place-clause-no_call : goal.returns-in-Err-place-clause-no_call
returns-in-Err-place-clause-no_call g c = λ none unread i.
    let same = c.in-Err-place.ensures.nothing in
    record { tables = same.0 i; journal = same.1 i; archive = (same.2 ∙ c.tell_reading.ensures.no_call unread) i }

-- ---- it has its place

pub returns-in-Ok-place : goal.returns-in-Ok-place
returns-in-Ok-place g c =
    let says = g.D.Disk.says in
    let old = c.args.self.now in
    let read = c.tell_reading.new.archive in
    let request = c.args.request.now in
    let outcome = c.args.outcome in
    let tell = c.tell_reading.ensures in
    let told = c.in-Ok.ensures in
    let done = c.place.ensures in
    let landed = c.in-Ok-place.ensures in
    let can = read_can says old read tell.used tell.same tell.crash c.requires.can in
    record {
      can = can_of says _ done.can done.used;
      ran = λ since start places h proper is given.
          let run = read_run says old read tell.used tell.same tell.crash since start places h in
          stored_run can run landed.landed.stored (landed.ran (archives.used_of read) [] since start places outcome (beside_now says (record old { archive = read }) since start places run) can.end proper is told.told given);
      answers = λ since start places h is.
          let has = h.over.kept.contents h.tells.0 (g.met.D.Disk.reads_an_image _ h.tells.0 h.tells.1) in
          landed.answers start places outcome told.told (told.reply h.tells.0 (rows_of old.tables) old.tables.archive_end _ request h.tells.1 refl has (is _ h.over.stand));
      rows = λ given. landed.rows outcome told.told given;
      grows = λ d all stand proper is has. landed.grows d all outcome stand proper is told.told has;
      unplaced = tt;
      stored = stored_two says old.archive read _ (stored_read says old.archive read tell.used tell.crash) (stored_so says read _ _ landed.landed.stored);
      end = λ none. landed.landed.end ∙ ap (λ (l : List (List ℕ)). stores_end l old.tables.archive_end) (landed.landed.none (told.told.stores ∙ none));
      no_write = λ none. let same = done.no_call (told.told.changes ∙ none) in (same.1, same.0);
      no_call = λ none unread i. let same = done.no_call (told.told.changes ∙ none) in record { tables = same.0 i; journal = same.1 i; archive = (same.2 ∙ tell.no_call unread) i };
      never_falls = done.never_falls;
      never_falls_contents = (let first = tell.never_falls in let then = done.never_falls_contents in omega (arith, first, then));
      caused = record {
        only = λ whole. record { journal = landed.counted.only whole; archive = landed.counted.only_contents whole ∙ told.only (landed.counted.read whole) };
        cause = λ failed. cause_of _ _ _ tell.never_falls done.never_falls_contents c.in-Ok-place.landed.lost c.in-Ok.told.unread (landed.counted.cause failed) landed.counted.cause_contents told.cause;
      };
    }
