use Rattle.depot_runs.specs.Replica.{replica_reply}
use Rattle.reply_rows.proofs.Bare.{none_told}
use Rattle.replica_replies.proofs.Bare.{reply_bare}
use Rattle.replica_replies.proofs.laws.print_alone_is_answered_with_contents.Goals as goal

pub returns : goal.returns
returns c = λ d request other. none_told (replica_reply d request) (reply_bare d request other)
