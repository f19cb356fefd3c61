use Rattle.std.proofs.Common.{refl, arith}
use Rattle.outside_api.specs.Disk.{Files}
use Rattle.disk_journal.specs.Images.{IsAtRest}
use Rattle.disk_journal.specs.Made.{made}
use Rattle.disk_journal.proofs.Keeping.{tells_two}
use Rattle.disk_journal.proofs.Made.{made_rest, made_root, first_kept, same_others, begun_same, begun_always, root_same, root_always}
use Rattle.disk_journal.proofs.make.make_files.Goals as goal

pub returns-in_err-make_first-clause-crash : goal.returns-in_err-make_first-clause-crash
returns-in_err-make_first-clause-crash g c =
    begun_same g.D.Disk.says c.args.disk.now c.make_first.new.disk c.make_first.new.disk c.make_first.ensures.crash

pub returns-in_err-make_first-clause-any_moment : goal.returns-in_err-make_first-clause-any_moment
returns-in_err-make_first-clause-any_moment g c =
    begun_always g.D.Disk.says c.args.disk.now c.make_first.new.disk c.make_first.new.disk c.make_first.ensures.any_moment

pub returns-in_err-write_through-clause-crash : goal.returns-in_err-write_through-clause-crash
returns-in_err-write_through-clause-crash g c =
    root_same g.D.Disk.says c.args.disk.now c.make_first.new.disk c.write_through.new.disk g.met.D.Disk.reads_an_image c.in_ok-make_first.ensures.made 4095 c.write_through.ensures.crash

pub returns-in_err-write_through-clause-any_moment : goal.returns-in_err-write_through-clause-any_moment
returns-in_err-write_through-clause-any_moment g c =
    root_always g.D.Disk.says c.args.disk.now c.make_first.new.disk c.write_through.new.disk g.met.D.Disk.reads_an_image c.in_ok-make_first.ensures.made 4095 c.make_first.ensures.any_moment c.write_through.ensures.any_moment

pub returns-clause-crash : goal.returns-clause-crash
returns-clause-crash g c =
    root_same g.D.Disk.says c.args.disk.now c.make_first.new.disk c.write_through.new.disk g.met.D.Disk.reads_an_image c.in_ok-make_first.ensures.made 4095 c.write_through.ensures.crash

pub returns-clause-any_moment : goal.returns-clause-any_moment
returns-clause-any_moment g c =
    root_always g.D.Disk.says c.args.disk.now c.make_first.new.disk c.write_through.new.disk g.met.D.Disk.reads_an_image c.in_ok-make_first.ensures.made 4095 c.make_first.ensures.any_moment c.write_through.ensures.any_moment

pub returns-clause-made : goal.returns-clause-made
returns-clause-made g c =
    let each : (f : Files) → g.D.Disk.says.may_leave c.write_through.new.disk f → IsAtRest made f = λ f left.
    let root = c.in_ok-write_through.ensures.durable f left in
    let first = c.in_ok-make_first.ensures.made root.0 (g.met.D.Disk.reads_an_image c.make_first.new.disk root.0 root.1) in
    made_rest 4095 _ first.0 root.0 f refl refl (c.requires first.0 first.1) first.2 root.2 in
    record { generation_is = refl; last = omega arith; are_groups = tt; count = refl; length_is = refl; short = omega arith; each = each }

pub returns-clause-closed : goal.returns-clause-closed
returns-clause-closed g c = λ f left.
    let root = c.in_ok-write_through.ensures.durable f left in
    let first = c.in_ok-make_first.ensures.made root.0 (g.met.D.Disk.reads_an_image c.make_first.new.disk root.0 root.1) in
    let kept = first_kept _ root.0 f first.2.first root.2 in
    kept.journal

pub returns-clause-closed_root : goal.returns-clause-closed_root
returns-clause-closed_root g c = λ f left.
    let root = c.in_ok-write_through.ensures.durable f left in
    let first = c.in_ok-make_first.ensures.made root.0 (g.met.D.Disk.reads_an_image c.make_first.new.disk root.0 root.1) in
    made_root 4095 _ first.0 root.0 f refl refl (c.requires first.0 first.1) first.2 root.2

pub returns-clause-others : goal.returns-clause-others
returns-clause-others g c = λ f left.
    let root = c.in_ok-write_through.ensures.durable f left in
    let first = c.in_ok-make_first.ensures.made root.0 (g.met.D.Disk.reads_an_image c.make_first.new.disk root.0 root.1) in
    (first.0, first.1, same_others _ first.0 root.0 f first.2 root.2)

pub returns-in_err-write_through-clause-told : goal.returns-in_err-write_through-clause-told
returns-in_err-write_through-clause-told g c =
    let seen = g.D.Disk.says.seen in
    tells_two (seen c.args.disk.now) (seen c.make_first.new.disk) (seen c.write_through.new.disk) c.make_first.ensures.told c.write_through.ensures.told

pub returns-clause-told : goal.returns-clause-told
returns-clause-told g c =
    let seen = g.D.Disk.says.seen in
    tells_two (seen c.args.disk.now) (seen c.make_first.new.disk) (seen c.write_through.new.disk) c.make_first.ensures.told c.write_through.ensures.told
