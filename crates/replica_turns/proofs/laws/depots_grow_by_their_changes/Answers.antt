use Rattle.replica_turns.proofs.Masters.{place_master, texts_grow, unmoved_master}
use Rattle.replica_turns.proofs.laws.depots_grow_by_their_changes.Goals as goal

pub returns-clause-placed : goal.returns-clause-placed
returns-clause-placed g c = λ past start places old new all since request outcome fault master h is stored.
    place_master g.D.Disk.says past start places old new all master since h stored request outcome is fault

pub returns-clause-texts : goal.returns-clause-texts
returns-clause-texts g c = texts_grow

pub returns-clause-kept : goal.returns-clause-kept
returns-clause-kept g c = λ past start places old new all master same groups stored. unmoved_master g.D.Disk.says past start places old new all master stored same groups
