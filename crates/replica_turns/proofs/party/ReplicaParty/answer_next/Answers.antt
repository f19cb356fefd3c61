use Rattle.std.proofs.Common.{refl}
use Rattle.replica_turns.proofs.Replies.{turned_by}
use Rattle.depot_commit.proofs.Growing.{stored_same}
use Rattle.replica_turns.proofs.party.ReplicaParty.answer_next.Goals as goal

pub returns-in-Some-clause-turned : goal.returns-in-Some-clause-turned
returns-in-Some-clause-turned g c = λ some.
    turned_by g.D.Disk.says c.args.depot.now c.args.self.now (record { replica = c.answer_request-answered.new.replica; left = c.pop.new.self }) c.in-Some.request
    c.answer_request-answered.result c.in-Some.ensures.items c.answer_request-answered.ensures.answered c.answer_request-answered.ensures.kept

pub returns-then-is_empty-clause-stored : goal.returns-then-is_empty-clause-stored
returns-then-is_empty-clause-stored g c = stored_same g.D.Disk.says c.args.depot.now.archive

pub returns-in-None-clause-stored : goal.returns-in-None-clause-stored
returns-in-None-clause-stored g c = stored_same g.D.Disk.says c.args.depot.now.archive

pub returns-then-is_empty-clause-no_memory : goal.returns-then-is_empty-clause-no_memory
returns-then-is_empty-clause-no_memory g c = record { journal = refl; archive = refl }

pub returns-in-None-clause-no_memory : goal.returns-in-None-clause-no_memory
returns-in-None-clause-no_memory g c = record { journal = refl; archive = refl }
