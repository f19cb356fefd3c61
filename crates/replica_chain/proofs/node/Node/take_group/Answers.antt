use Rattle.std.proofs.Common.{◌+◌, length, ◌∙◌, arith}
use Rattle.archive_file.specs.Archive.{disk_of as archive_disk_of}
use Rattle.depot_rows.specs.table_store.declared.tables.Tables.{Tables}
use Rattle.disk_journal.specs.Images.{with_group}
use Rattle.journal_groups.specs.Groups.{group_text}
use Rattle.replica_chain.specs.Pulling.{IsRefused}
use Rattle.replica_chain.proofs.Growing.{earlier_self}
use Rattle.replica_chain.proofs.PassedOn.{passed_fault}
use Rattle.replica_chain.proofs.Refusals.{contents_refused, misfit_refused}
use Rattle.replica_chain.proofs.Steps.{at_first}
use Rattle.replica_chain.proofs.Grouping.{settled_stands}
use Rattle.replica_chain.proofs.Tried.{committed_behind, committed_fewer, group_taken, next_stands, same_rest, stands_of, taken_can, tried_behind, tried_can, tried_fewer, uncommitted_generation, where_it_was}
use Rattle.outside_api.specs.Reaching.{stays}
use Rattle.replica_chain.proofs.Kept.{keeps_first}
use Rattle.replica_chain.proofs.node.Node.take_group.Goals as goal

-- the changes don't fit, or there is no memory

pub returns-in_err-tables-clause-refused : goal.returns-in_err-tables-clause-refused
returns-in_err-tables-clause-refused g c =
    let says = g.D.Disk.says in
    let told = g.C.Contents.tells c.args.contents.now in
    let old = c.args.self.now in
    let fault = c.in_err-tables.field-0.0 in
    passed_fault (IsRefused says told old old c.args.changes.now c.args.end) _ fault c.from_residual.ensures.1
    (misfit_refused says told Tables old old c.args.changes.now c.args.end fault c.in_err-tables.ensures.only c.in_err-tables.ensures.bad)

pub returns-in_err-tables-clause-node : goal.returns-in_err-tables-clause-node
returns-in_err-tables-clause-node g c = λ chronicle n. record { now = chronicle; no_fewer = earlier_self chronicle; is_node = n }

pub returns-in_err-tables-clause-behind : goal.returns-in_err-tables-clause-behind
returns-in_err-tables-clause-behind g c = λ chronicle up told b has.
    let node = c.args.self.now in
    at_first g.D.Disk.says g.met.D.Disk.only_now node chronicle up (g.C.Contents.tells c.args.contents.now) told b

-- ---- it wasn't committed

pub returns-in-Err-clause-can : goal.returns-in-Err-clause-can
returns-in-Err-clause-can g c =
    let says = g.D.Disk.says in
    let old = c.args.self.now in
    let new = c.commit_group.new.self in
    let was = c.requires.settled.0 in
    let found = c.in-Err.ensures.uncommitted was c.requires.settled.1 in
    let stands = stands_of says old new was _ _ found in
    tried_can says old new c.commit_group.ensures.others c.requires.can (uncommitted_generation says old new was c.requires.settled.1 stands) was stands.0 stands.1 _ _ c.commit_group.ensures.filled

pub returns-in-Err-clause-rest : goal.returns-in-Err-clause-rest
returns-in-Err-clause-rest g c = same_rest g.D.Disk.says c.args.self.now c.commit_group.new.self c.commit_group.ensures.others ∙ c.requires.rest

pub returns-in-Err-clause-kept : goal.returns-in-Err-clause-kept
returns-in-Err-clause-kept g c =
    let says = g.D.Disk.says in
    let old = c.args.self.now in
    let new = c.commit_group.new.self in
    let was = c.requires.settled.0 in
    let found = stands_of says old new was _ _ (c.in-Err.ensures.uncommitted was c.requires.settled.1) in
    where_it_was says old new c.commit_group.ensures.others (uncommitted_generation says old new was c.requires.settled.1 found)

pub returns-in-Err-clause-refused : goal.returns-in-Err-clause-refused
returns-in-Err-clause-refused g c =
    let says = g.D.Disk.says in
    let told = g.C.Contents.tells c.commit_group.new.contents in
    contents_refused says told c.args.self.now c.commit_group.new.self c.args.changes.now c.args.end c.in-Err.fault c.in_ok-tables.ensures.fit c.in-Err.ensures.only c.in-Err.ensures.absent c.in-Err.ensures.bad

pub returns-in-Err-clause-node : goal.returns-in-Err-clause-node
returns-in-Err-clause-node g c = λ chronicle n.
    let says = g.D.Disk.says in
    let old = c.args.self.now in
    let new = c.commit_group.new.self in
    let done = c.commit_group.ensures in
    let stands = settled_stands says old chronicle n c.requires.settled in
    let found = c.in-Err.ensures.uncommitted n.was stands in
    let where_is = where_it_was says old new done.others (uncommitted_generation says old new n.was stands (stands_of says old new n.was _ _ found)) in
    tried_fewer says old new c.requires.settled (g.C.Contents.tells c.args.contents.now) (g.C.Contents.tells c.commit_group.new.contents) done.filled done.older done.scanned
    (g.met.D.Disk.reads_an_image (archive_disk_of new.archive)) c.args.changes.now c.requires.is_group c.in_ok-tables.ensures.fit where_is chronicle n found

pub returns-in-Err-clause-behind : goal.returns-in-Err-clause-behind
returns-in-Err-clause-behind g c = λ chronicle up told b has.
    let says = g.D.Disk.says in
    let old = c.args.self.now in
    let new = c.commit_group.new.self in
    let done = c.commit_group.ensures in
    let n = b.is_node in
    let stands = settled_stands says old chronicle n c.requires.settled in
    let found = c.in-Err.ensures.uncommitted n.was stands in
    let where_is = where_it_was says old new done.others (uncommitted_generation says old new n.was stands (stands_of says old new n.was _ _ found)) in
    tried_behind says old new c.requires.settled (g.C.Contents.tells c.args.contents.now) (g.C.Contents.tells c.commit_group.new.contents) done.filled done.older done.scanned
    (g.met.D.Disk.reads_an_image (archive_disk_of new.archive)) c.args.changes.now c.requires.is_group c.in_ok-tables.ensures.fit chronicle up b told
    (next_stands says old chronicle up b c.args.changes.now c.args.end c.requires.end has) (done.any_moment n.was stands) where_is (same_rest says old new done.others) found

-- ---- it was committed

pub returns-in-Ok-clause-can : goal.returns-in-Ok-clause-can
returns-in-Ok-clause-can g c =
    let done = c.commit_group.ensures in
    taken_can g.D.Disk.says c.args.self.now c.commit_group.new.self done.others c.requires.settled c.in_ok-tables.tables c.args.changes.now c.args.end c.in-Ok.ensures.committed c.in_ok-tables.ensures.fit c.in_ok-tables.ensures.rows
    (g.C.Contents.tells c.args.contents.now) (g.C.Contents.tells c.commit_group.new.contents) done.filled c.requires.end c.requires.rest c.requires.can c.requires.room

pub returns-in-Ok-clause-settled : goal.returns-in-Ok-clause-settled
returns-in-Ok-clause-settled g c =
    let was = c.requires.settled.0 in
    (with_group was (group_text (length was.groups + 1) c.args.changes.now), c.in-Ok.ensures.committed was c.requires.settled.1)

pub returns-in-Ok-clause-rest : goal.returns-in-Ok-clause-rest
returns-in-Ok-clause-rest g c = same_rest g.D.Disk.says c.args.self.now c.commit_group.new.self c.commit_group.ensures.others ∙ c.requires.rest

pub returns-in-Ok-clause-taken : goal.returns-in-Ok-clause-taken
returns-in-Ok-clause-taken g c =
    group_taken g.D.Disk.says c.args.self.now c.commit_group.new.self c.commit_group.ensures.others c.requires.settled c.in_ok-tables.tables c.args.changes.now c.args.end c.in-Ok.ensures.committed c.in_ok-tables.ensures.fit
    c.in_ok-tables.ensures.rows

pub returns-in-Ok-clause-node : goal.returns-in-Ok-clause-node
returns-in-Ok-clause-node g c =
    let new = c.commit_group.new.self in
    let done = c.commit_group.ensures in
    committed_fewer g.D.Disk.says c.args.self.now new done.others c.requires.settled c.in_ok-tables.tables c.args.changes.now c.args.end c.in-Ok.ensures.committed c.in_ok-tables.ensures.fit c.in_ok-tables.ensures.rows
    (g.C.Contents.tells c.args.contents.now) (g.C.Contents.tells c.commit_group.new.contents) done.filled c.requires.end c.requires.rest done.older done.scanned
    (g.met.D.Disk.reads_an_image (archive_disk_of new.archive)) c.requires.is_group c.in-Ok.ensures.brought

pub returns-in-Ok-clause-behind : goal.returns-in-Ok-clause-behind
returns-in-Ok-clause-behind g c = λ chronicle up told b has.
    let says = g.D.Disk.says in
    let old = c.args.self.now in
    let new = c.commit_group.new.self in
    let done = c.commit_group.ensures in
    let within = has.within in
    committed_behind says old new done.others c.requires.settled c.in_ok-tables.tables c.args.changes.now c.args.end c.in-Ok.ensures.committed c.in_ok-tables.ensures.fit c.in_ok-tables.ensures.rows
    (g.C.Contents.tells c.args.contents.now) (g.C.Contents.tells c.commit_group.new.contents) done.filled c.requires.end c.requires.rest done.older done.scanned
    (g.met.D.Disk.reads_an_image (archive_disk_of new.archive)) c.requires.is_group c.in-Ok.ensures.brought chronicle up b told
    (next_stands says old chronicle up b c.args.changes.now c.args.end c.requires.end has) done.any_moment (omega (arith, within, c.requires.end))

pub returns-in_err-tables-clause-contents_reached : goal.returns-in_err-tables-clause-contents_reached
returns-in_err-tables-clause-contents_reached g c = stays

pub returns-in-Ok-clause-contents_reached : goal.returns-in-Ok-clause-contents_reached
returns-in-Ok-clause-contents_reached g c = c.commit_group.ensures.contents_reached

pub returns-in-Err-clause-contents_reached : goal.returns-in-Err-clause-contents_reached
returns-in-Err-clause-contents_reached g c = c.commit_group.ensures.contents_reached

pub returns-in_err-tables-clause-keeps : goal.returns-in_err-tables-clause-keeps
returns-in_err-tables-clause-keeps g c = keeps_first g.D.Disk.says g.met.D.Disk.only_now c.args.self.now.archive

pub returns-in-Ok-clause-keeps : goal.returns-in-Ok-clause-keeps
returns-in-Ok-clause-keeps g c = c.commit_group.ensures.filled.keeps

pub returns-in-Err-clause-keeps : goal.returns-in-Err-clause-keeps
returns-in-Err-clause-keeps g c = c.commit_group.ensures.filled.keeps
