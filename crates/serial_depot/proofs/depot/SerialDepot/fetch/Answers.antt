use Rattle.archive_file.specs.Archive as archives
use Rattle.depot_commit.proofs.Growing.{stored_same}
use Rattle.depot_commit.proofs.Moved.{over_fetched}
use Rattle.serial_depot.proofs.depot.SerialDepot.fetch.Goals as goal

pub returns-clause-answers : goal.returns-clause-answers
returns-clause-answers g c = c.fetch_texts.ensures.answers

pub returns-clause-can : goal.returns-clause-can
returns-clause-can g c = λ can. record {
  was = can.was;
  doubt = can.doubt;
  stands = c.fetch_texts.ensures.fetched.stands can.was can.doubt can.stands;
  end = can.end;
  room = can.room;
}

pub returns-clause-ran : goal.returns-clause-ran
returns-clause-ran g c = λ since start places h.
    let D = g.D.Disk in
    let depot = c.args.self.now in
    record {
      tells = h.tells;
      over = over_fetched D.says (D.says.may_leave (archives.disk_of depot.archive)) (archives.used_of depot.archive) depot.tables depot.journal since start places h.over c.fetch_texts.new.journal
          c.fetch_texts.ensures.fetched;
    }

pub returns-clause-groups : goal.returns-clause-groups
returns-clause-groups g c = c.fetch_texts.ensures.fetched.groups

pub returns-clause-stored : goal.returns-clause-stored
returns-clause-stored g c = stored_same g.D.Disk.says c.args.self.now.archive
