use Rattle.depot_commit.proofs.Moved.{read_none}
use Rattle.depot_commit.proofs.fetching.read_contents.Goals as goal

pub returns-then-not-are_within-clause-read : goal.returns-then-not-are_within-clause-read
returns-then-not-are_within-clause-read g c = read_none g.D.Disk.says c.args.archive.now

pub returns-clause-read : goal.returns-clause-read
returns-clause-read g c = record { same = c.read_all.ensures.same; crash = c.read_all.ensures.crash; used = c.read_all.ensures.used }
