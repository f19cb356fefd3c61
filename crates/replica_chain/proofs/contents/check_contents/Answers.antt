use Rattle.std.proofs.Common.{◌+◌, refl, drop, take, ◌∙◌, arith}
use Rattle.outside_api.specs.Moments.{started}
use Rattle.archive_file.specs.Archive.{disk_of}
use Rattle.recovery.proofs.Looks.{reads_on}
use Rattle.replica_chain.specs.Copying.{AtBadContent, IsBadContent}
use Rattle.replica_chain.proofs.Named.{named_all, named_more, one_end, parts_at}
use Rattle.replica_chain.proofs.PassedOn.{content_leads, passed_fault}
use Rattle.replica_chain.proofs.contents.check_contents.Goals as goal

pub loop-change-init : goal.loop-change-init
loop-change-init g c =
    let disk = disk_of c.args.archive.now in
    record {
      good = λ files read within. tt;
      reads = record {
        same = record { kept = λ f read. read; no_more = λ f read. read };
        no_more = λ f left. left;
        any_moment = started g.D.Disk.says disk (g.D.Disk.says.may_leave disk) (g.met.D.Disk.only_now disk);
      };
      used = refl;
      count = omega arith;
    }

pub loop-change-preserved : goal.loop-change-preserved
loop-change-preserved g c =
    let inv = c.loop-change.invariant in
    let one = c.check_named.ensures in
    let changes = c.args.changes.now in
    let i = c.loop-change.change-index in
    let change = c.change-item.result in
    let below = c.loop-change-test.true in
    record {
      good = λ files read within.
          let end = one_end changes i change below c.change-item.is in
          named_more (files 0) changes i change below c.change-item.is (inv.good files read within) (c.in_ok-check_named.ensures.good files (inv.reads.same.kept files read) (omega (arith, end, within)));
      reads = reads_on g.D.Disk.says (disk_of c.args.archive.now) (disk_of c.loop-change.archive) (disk_of c.check_named.new.archive) inv.reads one.reads;
      used = one.used ∙ inv.used;
      count = omega (arith, inv.count, one.cause.never_falls);
    }

pub returns-in_err-check_named-clause-bad : goal.returns-in_err-check_named-clause-bad
returns-in_err-check_named-clause-bad g c = λ files read within.
    let inv = c.loop-change.invariant in
    let changes = c.args.changes.now in
    let i = c.loop-change.change-index in
    let change = c.change-item.result in
    let below = c.loop-change-test.true in
    let end = one_end changes i change below c.change-item.is in
    passed_fault (AtBadContent (IsBadContent (files 0) changes)) _ c.in_err-check_named.field-0.0 c.from_residual.ensures.1
    (content_leads _ (IsBadContent (files 0) changes) c.in_err-check_named.field-0.0
    (λ place bad. record {
      front = take i changes;
      change = change;
      after = drop (i + 1) changes;
      row = bad.0;
      parts = parts_at changes i change below c.change-item.is;
      is = bad.1.0;
      place = bad.1.1.0;
      other = bad.1.1.1;
      good = inv.good files read within;
    })
    (c.in_err-check_named.ensures.bad files (inv.reads.same.kept files read) (omega (arith, end, within))))

pub returns-clause-good : goal.returns-clause-good
returns-clause-good g c = λ files read within.
    named_all (files 0) c.args.changes.now c.loop-change.change-index (omega (arith, c.loop-change-test.false)) (c.loop-change.invariant.good files read within)
