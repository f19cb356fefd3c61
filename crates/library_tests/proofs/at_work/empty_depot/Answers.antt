use Rattle.std.proofs.Common.{sym, subst, arith}
use Rattle.disk_journal.specs.Stands.{nothing}
use Rattle.serial_depot.specs.Running.{CanTake}
use Rattle.library_tests.proofs.at_work.empty_depot.Goals as goal

pub returns-in-Ok : goal.returns-in-Ok
returns-in-Ok g c =
    let opened = c.in-Ok.ensures in
    let is = opened.«open» in
    let synced = opened.archive_synced in
    let used = is.1.used in
    subst (CanTake g.D.Disk.says) (sym c.new.ensures) (record {
      was = is.0;
      doubt = nothing;
      stands = is.1.stands;
      end = sym used;
      room = λ image left. let le = opened.within image (synced.same.no_more image (synced.durable image left)) in omega (arith, used, le);
    })
