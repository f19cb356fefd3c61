use Rattle.disk_journal.proofs.Keeping.{tells_two}
use Rattle.disk_journal.proofs.Made.{both_made, first_same, first_always, second_same, second_always}
use Rattle.disk_journal.proofs.make.make_first.Goals as goal

pub returns-in_err-write_at-clause-crash : goal.returns-in_err-write_at-clause-crash
returns-in_err-write_at-clause-crash g c =
    first_same g.D.Disk.says c.args.disk.now c.write_at.new.self c.write_at.new.self 9 c.write_at.ensures.crash

pub returns-in_err-write_at-clause-any_moment : goal.returns-in_err-write_at-clause-any_moment
returns-in_err-write_at-clause-any_moment g c =
    first_always g.D.Disk.says c.args.disk.now c.write_at.new.self c.write_at.new.self 9 c.write_at.ensures.crash (g.met.D.Disk.only_now c.args.disk.now) c.write_at.ensures.time

pub returns-in_err-write_through-clause-crash : goal.returns-in_err-write_through-clause-crash
returns-in_err-write_through-clause-crash g c =
    second_same g.D.Disk.says c.args.disk.now c.write_at.new.self c.write_through.new.disk 9 c.write_at.ensures.crash 5 c.write_through.ensures.crash

pub returns-in_err-write_through-clause-any_moment : goal.returns-in_err-write_through-clause-any_moment
returns-in_err-write_through-clause-any_moment g c =
    second_always g.D.Disk.says c.args.disk.now c.write_at.new.self c.write_through.new.disk 9 c.write_at.ensures.crash 5
    (first_always g.D.Disk.says c.args.disk.now c.write_at.new.self c.write_at.new.self 9 c.write_at.ensures.crash (g.met.D.Disk.only_now c.args.disk.now) c.write_at.ensures.time)
    c.write_through.ensures.any_moment

pub returns-clause-made : goal.returns-clause-made
returns-clause-made g c = λ image left.
    let second = c.in_ok-write_through.ensures.durable image left in
    let first = c.in_ok-write_at.ensures.written.from second.0 second.1 in
    (first.0, first.1, both_made first.0 second.0 image first.2 second.2)

pub returns-clause-crash : goal.returns-clause-crash
returns-clause-crash g c =
    second_same g.D.Disk.says c.args.disk.now c.write_at.new.self c.write_through.new.disk 9 c.write_at.ensures.crash 5 c.write_through.ensures.crash

pub returns-clause-any_moment : goal.returns-clause-any_moment
returns-clause-any_moment g c =
    second_always g.D.Disk.says c.args.disk.now c.write_at.new.self c.write_through.new.disk 9 c.write_at.ensures.crash 5
    (first_always g.D.Disk.says c.args.disk.now c.write_at.new.self c.write_at.new.self 9 c.write_at.ensures.crash (g.met.D.Disk.only_now c.args.disk.now) c.write_at.ensures.time)
    c.write_through.ensures.any_moment

pub returns-in_err-write_through-clause-told : goal.returns-in_err-write_through-clause-told
returns-in_err-write_through-clause-told g c =
    let seen = g.D.Disk.says.seen in
    tells_two (seen c.args.disk.now) (seen c.write_at.new.self) (seen c.write_through.new.disk) c.write_at.ensures.told c.write_through.ensures.told

pub returns-clause-told : goal.returns-clause-told
returns-clause-told g c =
    let seen = g.D.Disk.says.seen in
    tells_two (seen c.args.disk.now) (seen c.write_at.new.self) (seen c.write_through.new.disk) c.write_at.ensures.told c.write_through.ensures.told
