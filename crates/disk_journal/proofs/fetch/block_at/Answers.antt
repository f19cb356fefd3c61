use Rattle.std.proofs.Common.{drop}
use Rattle.disk_journal.proofs.Scanning.{block_seen}
use Rattle.disk_journal.proofs.fetch.block_at.Goals as goal

pub returns-clause-block : goal.returns-clause-block
returns-clause-block g c = λ files read.
    block_seen (drop c.args.at (files c.args.file)) _ c.block_length-found.result (c.in_ok-count.ensures.bytes files read) c.block_length-found.ensures.block c.block_length-found.ensures.closed
