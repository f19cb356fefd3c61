use Rattle.std.proofs.Common.{◌≡◌, ◌∷◌, ◌∙◌, ◌+◌, ℕ, Bool, true, false, cond, length, ap, refl, arith, rules}
use mir.Val.{bool_byte}
use Rattle.outside_api.specs.Moments.{started}
use Rattle.archive_file.specs.Archive.{disk_of}
use Rattle.depot_rows.specs.db_records.declared.table.TableId.TheVariants.{Rev}
use Rattle.depot_rows.specs.table_changes.Changed.{rows_of}
use Rattle.recovery.specs.Contents.{IsBadAt, IsSpotDamage}
use Rattle.recovery.proofs.Looks.{reads_on}
use Rattle.replica_chain.specs.Copying.{AtBadContent}
use Rattle.replica_chain.proofs.PassedOn.{content_leads, passed_fault}
use Rattle.replica_chain.proofs.Verified.{next_within, verified_all, verified_bad, verified_more, verified_none}
use Rattle.replica_chain.proofs.verifying.verify_rows.Goals as goal

-- a live row counts as one
byte_is : (live : Bool) → bool_byte live ≡ cond live 1 0
byte_is true = refl
byte_is false = refl

pub loop-row-init : goal.loop-row-init
loop-row-init g c =
    let disk = disk_of c.args.archive.now in
    record {
      verified = verified_none (g.D.Disk.says.seen disk) (rows_of c.args.tables.now Rev) c.into_iter-row-iterator.result (search rules);
      reads = record {
        same = record { kept = λ f read. read; no_more = λ f read. read };
        no_more = λ f left. left;
        any_moment = started g.D.Disk.says disk (g.D.Disk.says.may_leave disk) (g.met.D.Disk.only_now disk);
      };
      used = refl;
      faults = omega arith;
    }

pub returns-in_err-live-clause-bad : goal.returns-in_err-live-clause-bad
returns-in_err-live-clause-bad g c = λ files read within.
    let inv = c.loop-row.invariant in
    let seen = g.D.Disk.says.seen (disk_of c.args.archive.now) in
    let rows = rows_of c.args.tables.now Rev in
    let row = c.in-Some.row.now in
    let rest = c.next.new.self in
    let head : c.loop-row.row-iterator ≡ row ∷ rest = search rules in
    let inside = next_within seen rows c.loop-row.row-iterator c.loop-row.count inv.verified row rest head _ within in
    passed_fault (AtBadContent (IsSpotDamage (files 0) rows)) _ c.in_err-live.field-0.0 c.from_residual.ensures.1
    (content_leads (IsBadAt (files 0) row) (IsSpotDamage (files 0) rows) c.in_err-live.field-0.0
    (λ place bad. verified_bad seen rows c.loop-row.row-iterator c.loop-row.count inv.verified row rest head files place read within bad)
    (c.in_err-live.ensures.bad files (inv.reads.same.kept files read) inside))

pub loop-row-preserved : goal.loop-row-preserved
loop-row-preserved g c =
    let inv = c.loop-row.invariant in
    let seen = g.D.Disk.says.seen (disk_of c.args.archive.now) in
    let rows = rows_of c.args.tables.now Rev in
    let row = c.in-Some.row.now in
    let rest = c.next.new.self in
    let ok = c.in_ok-live.ensures in
    let head : c.loop-row.row-iterator ≡ row ∷ rest = search rules in
    record {
      verified = verified_more seen rows c.loop-row.row-iterator c.loop-row.count inv.verified row rest head c.in_ok-live.live (c.loop-row.count + bool_byte c.in_ok-live.live) ok.live (ap (λ (n : ℕ). c.loop-row.count + n) (byte_is c.in_ok-live.live))
          (λ files read within. ok.whole files (inv.reads.same.kept files read) (next_within seen rows c.loop-row.row-iterator c.loop-row.count inv.verified row rest head (length (files 0)) within));
      reads = reads_on g.D.Disk.says (disk_of c.args.archive.now) (disk_of c.loop-row.archive) (disk_of c.verify_row.new.archive) inv.reads c.verify_row.ensures.reads;
      used = c.verify_row.ensures.used ∙ inv.used;
      faults = omega (arith, inv.faults, c.verify_row.ensures.cause.never_falls);
    }

pub returns-clause-verified : goal.returns-clause-verified
returns-clause-verified g c =
    (verified_all (g.D.Disk.says.seen (disk_of c.args.archive.now)) (rows_of c.args.tables.now Rev) c.loop-row.row-iterator c.loop-row.count c.loop-row.invariant.verified c.in-None.ensures.steps.0).1

pub returns-clause-count : goal.returns-clause-count
returns-clause-count g c =
    (verified_all (g.D.Disk.says.seen (disk_of c.args.archive.now)) (rows_of c.args.tables.now Rev) c.loop-row.row-iterator c.loop-row.count c.loop-row.invariant.verified c.in-None.ensures.steps.0).0
