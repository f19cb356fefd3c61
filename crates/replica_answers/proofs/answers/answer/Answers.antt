use Rattle.depot_rows.specs.table_changes.Changed.{rows_of}
use Rattle.replica_answers.proofs.Named.{bare_so}
use Rattle.replica_answers.proofs.answers.answer.Goals as goal

pub returns : goal.returns
returns c = bare_so (rows_of c.args.replica.now.tables) c.args.request.now c.requires c.waiting_reply.result c.waiting_reply.ensures
