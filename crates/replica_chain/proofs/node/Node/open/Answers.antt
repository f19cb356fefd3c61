use Rattle.recovery.proofs.Synced.{synced_then}
use Rattle.replica_chain.proofs.Opened.{IsNodeOf, opened_at, opened_can, opened_fresh, opened_is, opened_texts}
use Rattle.replica_chain.proofs.node.Node.open.Goals as goal

pub returns-in-Ok-count_journal-clause-can : goal.returns-in-Ok-count_journal-clause-can
returns-in-Ok-count_journal-clause-can g c =
    let says = g.D.Disk.says in
    let opened = c.in-Ok.opened in
    let journal = c.count_journal.new.journal in
    let looked = c.count_journal.ensures.looked in
    let node = c.node_of.result in
    let parts = c.node_of.ensures.parts in
    let figures = c.node_of.ensures.counts in
    let of : IsNodeOf opened journal c.in-Ok-count_journal.counts node = record {
      journal_is = parts.0;
      archive_is = parts.1;
      tables_are = parts.2;
      rest = parts.3;
      before = figures.0;
      at = figures.1;
      number = figures.2;
      changes = figures.3;
    } in
    let open_now = c.in-Ok.ensures.open in
    opened_can says opened open_now.0 open_now.1 journal looked c.in-Ok-count_journal.counts node of c.args.archive c.in-Ok.ensures.archive_synced c.in-Ok.ensures.within

pub returns-in-Ok-count_journal-clause-node : goal.returns-in-Ok-count_journal-clause-node
returns-in-Ok-count_journal-clause-node g c = λ chronicle files contents sees told written.
    let says = g.D.Disk.says in
    let opened = c.in-Ok.opened in
    let journal = c.count_journal.new.journal in
    let looked = c.count_journal.ensures.looked in
    let node = c.node_of.result in
    let parts = c.node_of.ensures.parts in
    let figures = c.node_of.ensures.counts in
    let of : IsNodeOf opened journal c.in-Ok-count_journal.counts node = record {
      journal_is = parts.0;
      archive_is = parts.1;
      tables_are = parts.2;
      rest = parts.3;
      before = figures.0;
      at = figures.1;
      number = figures.2;
      changes = figures.3;
    } in
    let open_now = c.in-Ok.ensures.open in
    let image = g.met.D.Disk.reads_an_image in
    let one = g.met.D.Disk.reads_one in
    let read = c.in-Ok.ensures.journal_synced.same.kept files sees in
    let texts = opened_texts says image one opened open_now.0 open_now.1 chronicle files read written in
    let at = opened_at says image one opened open_now.0 open_now.1 chronicle files read written in
    opened_is says opened open_now.0 open_now.1 journal looked c.in-Ok-count_journal.counts node of c.args.archive c.in-Ok.ensures.archive_synced c.in-Ok.ensures.within image one c.args.journal c.in-Ok.ensures.journal_synced
    chronicle files contents sees told written (c.in-Ok.ensures.held files sees) (c.in-Ok.ensures.contents contents told) (c.in-Ok-count_journal.ensures.counted chronicle texts at written.are_groups) c.node_of.ensures.scanned

pub returns-in-Ok-count_journal-clause-fresh : goal.returns-in-Ok-count_journal-clause-fresh
returns-in-Ok-count_journal-clause-fresh g c =
    let says = g.D.Disk.says in
    let opened = c.in-Ok.opened in
    let journal = c.count_journal.new.journal in
    let looked = c.count_journal.ensures.looked in
    let node = c.node_of.result in
    let parts = c.node_of.ensures.parts in
    let figures = c.node_of.ensures.counts in
    let of : IsNodeOf opened journal c.in-Ok-count_journal.counts node = record {
      journal_is = parts.0;
      archive_is = parts.1;
      tables_are = parts.2;
      rest = parts.3;
      before = figures.0;
      at = figures.1;
      number = figures.2;
      changes = figures.3;
    } in
    let open_now = c.in-Ok.ensures.open in
    opened_fresh says opened open_now.0 open_now.1 journal looked c.in-Ok-count_journal.counts node of c.args.archive c.in-Ok.ensures.archive_synced c.in-Ok.ensures.within

pub returns-in-Ok-count_journal-clause-holds : goal.returns-in-Ok-count_journal-clause-holds
returns-in-Ok-count_journal-clause-holds g c = λ files sees. rw c.node_of.ensures.parts.2 (c.in-Ok.ensures.held files sees)

pub returns-in-Ok-count_journal-clause-journal_synced : goal.returns-in-Ok-count_journal-clause-journal_synced
returns-in-Ok-count_journal-clause-journal_synced g c =
    rw c.node_of.ensures.parts.0 (synced_then g.D.Disk.says _ _ _ c.in-Ok.ensures.journal_synced.same c.in-Ok.ensures.journal_synced.durable c.count_journal.ensures.looked.reads)

pub returns-in-Err-count_journal-clause-unopened : goal.returns-in-Err-count_journal-clause-unopened
returns-in-Err-count_journal-clause-unopened g c = λ other.
    let left = c.not_counted.ensures in
    rw (left.1, left.2) (synced_then g.D.Disk.says _ _ _ c.in-Ok.ensures.journal_synced.same c.in-Ok.ensures.journal_synced.durable c.count_journal.ensures.looked.reads, c.in-Ok.ensures.archive_synced)
