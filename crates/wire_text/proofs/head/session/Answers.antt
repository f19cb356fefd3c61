use Rattle.wire_text.proofs.Heads.{session_more}
use Rattle.wire_text.proofs.head.session.Goals as goal

pub returns-in-len1-up : goal.returns-in-len1-up
returns-in-len1-up c = session_more c.args.user.now c.args.client.now c.args.host.now c.args.more.now c.in-len1-up.len_at_least
