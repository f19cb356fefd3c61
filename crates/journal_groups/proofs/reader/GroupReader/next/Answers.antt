use Rattle.journal_groups.proofs.Clauses.{next_taken, next_only, next_at_closed, next_kept, next_records, next_short, next_goes, next_bad}
use Rattle.journal_groups.proofs.reader.GroupReader.next.Goals as goal

pub returns-clause-short : goal.returns-clause-short
returns-clause-short c = next_short c.args.self.now c.advance.new.self c.advance.result c.advance.ensures.small c.advance.ensures.next

pub returns-clause-goes : goal.returns-clause-goes
returns-clause-goes c = λ g. next_goes c.args.self.now c.advance.new.self c.advance.result c.advance.ensures.small c.advance.ensures.next g

pub returns-clause-bad : goal.returns-clause-bad
returns-clause-bad c = next_bad c.args.self.now c.advance.new.self c.advance.result c.advance.ensures.small c.advance.ensures.next

pub returns-clause-found : goal.returns-clause-found
returns-clause-found c = next_taken c.args.self.now c.advance.new.self c.advance.result c.advance.ensures.next

pub returns-clause-only : goal.returns-clause-only
returns-clause-only c = λ changes rest is same. next_only c.args.self.now c.advance.new.self c.advance.result changes rest c.advance.ensures.next is same

pub returns-clause-closed : goal.returns-clause-closed
returns-clause-closed c = λ byte rest shut same. next_at_closed c.args.self.now c.advance.new.self c.advance.result byte rest c.advance.ensures.next shut same

pub returns-clause-kept : goal.returns-clause-kept
returns-clause-kept c = next_kept c.args.self.now c.advance.new.self c.advance.result c.advance.ensures.next

pub returns-clause-records : goal.returns-clause-records
returns-clause-records c = next_records c.args.self.now c.advance.new.self c.advance.result c.advance.ensures.next
