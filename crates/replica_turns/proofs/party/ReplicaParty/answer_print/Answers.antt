use Rattle.std.proofs.Common.{◌≡◌, refl}
use Rattle.replica_turns.proofs.Replies.{by_other, prints_no_pull}
use Rattle.replica_turns.proofs.party.ReplicaParty.answer_print.Goals as goal

pub returns-clause-answered : goal.returns-clause-answered
returns-clause-answered g c = λ depot same formed.
    let replica = c.args.self.now.replica in
    by_other (λ been. been ≡ depot) g.D.Disk.says replica replica c.args.request.now c.reply_print.result (prints_no_pull c.args.request.now.command c.requires) refl
    (c.reply_print.ensures.answered depot same formed)
