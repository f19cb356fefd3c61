use Rattle.std.proofs.Common.{◌≡◌, refl}
use Rattle.replica_turns.proofs.Replies.{by_other, of_bare}
use Rattle.replica_turns.proofs.party.ReplicaParty.answer_alone.Goals as goal

pub returns-clause-answered : goal.returns-clause-answered
returns-clause-answered g c = λ depot formed.
    let replica = c.args.self.now.replica in
    by_other (λ been. been ≡ depot) g.D.Disk.says replica replica c.args.request.now c.reply_bare.result c.requires.1 refl
    (of_bare depot g.D.Disk.says replica c.args.request.now c.reply_bare.result c.requires.0 c.reply_bare.ensures.kept (λ d stand. c.reply_bare.ensures.told d stand formed))
