use Rattle.disk_journal.specs.Stands.{disk_of}
use Rattle.replica_chain.proofs.Counts.{piece_has_room}
use Rattle.replica_chain.proofs.Told.{not_looked}
use Rattle.replica_chain.proofs.counting.count_journal.Goals as goal

pub count_through-counts-requires : goal.count_through-counts-requires
count_through-counts-requires g c = record { room = piece_has_room _ _ c.as_mut_slice.ensures.len c.in_ok-buffer.ensures.len }

pub returns-in_err-buffer-clause-looked : goal.returns-in_err-buffer-clause-looked
returns-in_err-buffer-clause-looked g c = not_looked g.D.Disk.says c.args.journal.now (g.met.D.Disk.only_now (disk_of c.args.journal.now))

pub returns-clause-counted : goal.returns-clause-counted
returns-clause-counted g c = c.count_through-counts.ensures.counted

pub returns-clause-only : goal.returns-clause-only
returns-clause-only g c = c.count_through-counts.ensures.only

pub returns-clause-looked : goal.returns-clause-looked
returns-clause-looked g c = c.count_through-counts.ensures.looked

pub returns-clause-cause : goal.returns-clause-cause
returns-clause-cause g c = c.count_through-counts.ensures.cause
