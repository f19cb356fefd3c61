use Rattle.std.proofs.Common.{ℕ, List, length, refl, sym, ap, subst, ◌∙◌, arith}
use Rattle.std.proofs.lemmas.List.{nil_from_length}
use borrow.Author.Tests.{eqb-true}
use Rattle.archive_file.specs.Archive.{disk_of, end_of}
use Rattle.depot_commit.specs.Storing.{AllStoredTo}
use Rattle.depot_commit.proofs.Stored.{cause_passed, stored_in, stored_next, used_same, used_synced, used_two}
use Rattle.depot_commit.proofs.storing.store_all.Goals as goal

-- ---- no content

pub returns-then-is_empty-clause-stored : goal.returns-then-is_empty-clause-stored
returns-then-is_empty-clause-stored g c =
    let none = nil_from_length c.args.contents.now (eqb-true (length c.args.contents.now) 0 (sym c.is_empty.ensures ∙ c.if-is_empty.true)) in
    subst (λ (l : List (List ℕ)). AllStoredTo (g.D.Disk.says.may_leave (disk_of c.args.archive.now)) l c.args.at c.args.at) (sym none)
    (record { end_is = refl; fits = c.requires.fits; stored = tt; room = c.requires.room })

pub returns-then-is_empty-clause-kept : goal.returns-then-is_empty-clause-kept
returns-then-is_empty-clause-kept g c = used_same

-- ---- each content is written

pub loop-content-init : goal.loop-content-init
loop-content-init g c = record {
  stored = record { end_is = refl; fits = c.requires.fits; stored = tt; room = λ files read. c.requires.room files (g.met.D.Disk.reads_an_image _ files read) };
  kept = used_same;
  above = omega arith;
  calls = omega arith;
  counts = refl;
}

pub write-requires-clause-above : goal.write-requires-clause-above
write-requires-clause-above g c =
    let above = c.requires.above in
    let end = c.loop-content.invariant.above in
    let used = c.loop-content.invariant.kept.used in
    omega (arith, above, end, used)

pub write-requires-clause-room : goal.write-requires-clause-room
write-requires-clause-room g c = c.loop-content.invariant.stored.room

pub loop-content-preserved : goal.loop-content-preserved
loop-content-preserved g c =
    let was = c.loop-content.invariant in
    let write = c.write.ensures in
    let ok = c.in_ok-spot.ensures in
    let index = c.loop-content.content-index in
    record {
      stored = stored_next c.args.contents.now index c.args.at c.content-item.result c.loop-content-test.true c.content-item.is c.as_bytes.ensures was.stored ok.read ok.spot ok.written ok.small;
      kept = used_two was.above was.kept (record { kept = write.kept; told = write.told; used = write.used });
      above = (let above = was.above in let end = ap end_of ok.spot in omega (arith, above, end));
      calls = (let calls = was.calls in let asked = ok.asked in omega (arith, calls, asked));
      counts = ok.only ∙ was.counts;
    }

-- ---- a content couldn't be written

pub returns-in_err-spot-clause-kept : goal.returns-in_err-spot-clause-kept
returns-in_err-spot-clause-kept g c =
    let write = c.write.ensures in used_two c.loop-content.invariant.above c.loop-content.invariant.kept (record { kept = write.kept; told = write.told; used = write.used })

pub returns-in_err-spot-clause-cause : goal.returns-in_err-spot-clause-cause
returns-in_err-spot-clause-cause g c =
    cause_passed c.from_residual.result c.loop-content.invariant.counts c.in_err-spot.ensures.cause.never_falls c.in_err-spot.ensures.cause.risen

-- ---- they couldn't be synced

pub returns-in_err-sync-clause-kept : goal.returns-in_err-sync-clause-kept
returns-in_err-sync-clause-kept g c = let sync = c.sync.ensures in used_synced c.loop-content.invariant.kept sync.crash sync.told sync.used

-- ---- all were stored

pub returns-clause-stored : goal.returns-clause-stored
returns-clause-stored g c = stored_in c.args.contents.now c.loop-content.content-index c.loop-content-test.false c.loop-content.invariant.stored c.in_ok-sync.ensures.durable

pub returns-clause-kept : goal.returns-clause-kept
returns-clause-kept g c = let sync = c.sync.ensures in used_synced c.loop-content.invariant.kept sync.crash sync.told sync.used

pub returns-clause-only : goal.returns-clause-only
returns-clause-only g c = c.in_ok-sync.ensures.only ∙ c.loop-content.invariant.counts
