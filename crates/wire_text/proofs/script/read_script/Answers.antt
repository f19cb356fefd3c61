use Rattle.wire_text.proofs.Scripts.{both_read}
use Rattle.wire_text.proofs.script.read_script.Goals as goal

pub returns-clause-read : goal.returns-clause-read
returns-clause-read g c =
    both_read _ _ _ _ _ _ _ c.in-Head.head _ c.in_ok-entries-in-Head.end c.in_ok-read_head.ensures.counts
    (rw c.in-Head.is at c.in_ok-read_head.ensures.head) (rw c.client.ensures at c.in_ok-entries-in-Head.ensures.read)
