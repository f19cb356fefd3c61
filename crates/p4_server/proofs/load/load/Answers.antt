use Rattle.std.proofs.Common.{◌≡◌, Err, inl, inr}
use Rattle.recovery.specs.declared.fault.MakeFault.TheVariants.{Made, DiskFault}
use Rattle.p4_server.proofs.Loadings.{loads_begun, loads_unbegun}
use Rattle.p4_server.proofs.Mades.{both_only_read}
use Rattle.p4_server.proofs.Writtens.{made_written}
use Rattle.p4_server.proofs.load.load.Goals as goal

pub returns-in-Ok-clause-loads : goal.returns-in-Ok-clause-loads
returns-in-Ok-clause-loads g c =
    let made = c.in-Ok.ensures in
    loads_begun _ _ _ _ _ c.args.seed c.args.count (record {
      made_journal = c.make_files.new.journal;
      made_archive = c.make_files.new.archive;
      files = inr (record { journal_told = made.journal_told; archive_told = made.archive_told; was_empty = made.unmade; empty = λ j a j_left a_left. made.empty_depot j a j_left; written = λ j a j_left a_left. made_written j a (made.made j j_left) });
      counts = (made.cause.journal_never_falls, made.cause.archive_never_falls);
      loads = c.load_files.ensures.loads;
    })
    (made.unfailed (λ e. cc))

pub returns-in-Err-Made-clause-loads : goal.returns-in-Err-Made-clause-loads
returns-in-Err-Made-clause-loads g c =
    let there = c.in-Err-Made.ensures in
    let fault : c.in-Err-Made.field-0 ≡ Made = c.in-Err-Made.field-0-is in
    loads_begun _ _ _ _ _ c.args.seed c.args.count (record {
      made_journal = c.make_files.new.journal;
      made_archive = c.make_files.new.archive;
      files = inl (record { was_there = λ files reads. there.there files reads (λ i. Err (fault i)); untouched = both_only_read _ g.met.D.Disk.only_now _ _ _ _ (there.untouched (λ i. Err (fault i))) });
      counts = (there.cause.journal_never_falls, there.cause.archive_never_falls);
      loads = c.load_files-in-Err-Made.ensures.loads;
    })
    (there.unfailed (λ e. cc))

pub returns-in-Err-DiskFault-clause-loads : goal.returns-in-Err-DiskFault-clause-loads
returns-in-Err-DiskFault-clause-loads g c =
    let failed = c.in-Err-DiskFault.ensures in
    let fault : c.in-Err-DiskFault.field-0 ≡ DiskFault = c.in-Err-DiskFault.field-0-is in
    let end = c.end_alone.ensures in
    loads_unbegun _ _ _ _ _ c.args.seed c.args.count (record {
      told = end.told;
      cause_is = end.cause;
      risen = rw (end.journal, end.archive) (failed.cause.risen (λ i. Err (fault i)));
      disks = record {
        journal_told = rw end.journal failed.journal_told;
        archive_told = rw end.archive failed.archive_told;
        journal_images = rw end.journal failed.images;
        any_moment = rw end.journal failed.any_moment;
        archive_looks = rw end.archive failed.archive_looks;
        archive_reads = elim failed.archive_reads [ inl same ↦ inl (rw end.archive same) | inr sync ↦ inr (end.cause, rw end.archive sync.1) ];
        kept = λ files reads some.
            let both = both_only_read g.D.Disk.says g.met.D.Disk.only_now c.args.journal c.make_files.new.journal c.args.archive c.make_files.new.archive (failed.kept files reads some) in
            record { journal = rw end.journal both.journal; archive = rw end.archive both.archive };
      };
    })
