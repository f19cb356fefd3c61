use Rattle.std.proofs.Common.{refl, arith}
use Rattle.disk_journal.specs.Stands.{nothing}
use Rattle.disk_journal.proofs.Blocks.{length-blocks}
use Rattle.disk_journal.proofs.Standing.{standing}
use Rattle.disk_journal.proofs.journal.Journal.adopt.Goals as goal

pub invariant_of-result : goal.invariant_of-result
invariant_of-result g c =
    let can = c.requires.1 in
    record {
      last = omega (arith, can.generation_is, can.last);
      few = omega (arith, can.count, can.length_is, length-blocks c.requires.0.groups);
      short = can.short;
    }

pub returns-clause-stands : goal.returns-clause-stands
returns-clause-stands g c = λ was can. standing g.D.Disk.says _ was nothing can.generation_is can.are_groups can.count can.length_is refl can.each
