use Rattle.std.proofs.Common.{◌≡◌, ◌⊎◌, inl, refl, sym, subst, arith}
use Rattle.archive_file.specs.Archive.{disk_of as archive_disk_of}
use Rattle.disk_journal.specs.Stands.{disk_of, nothing}
use Rattle.journal_groups.specs.declared.moved.Moved.{Moved}
use Rattle.replica_pull.proofs.Moves.{err_on, ok_on}
use Rattle.replica_chain.specs.Copying.{IsOfContents}
use Rattle.replica_chain.specs.Pulling.{HasFollowed, HasStopped, IsUnread}
use Rattle.replica_chain.specs.declared.fault.NodeFault.{NodeFault}
use Rattle.replica_chain.specs.declared.fault.NodeFault.TheVariants.{LinkFault, ContentsFailed, DiskFault, Memory}
use Rattle.replica_chain.proofs.Followed.{causes_since, followed_from, only_passed, stopped_from, told_as}
use Rattle.replica_chain.proofs.Growing.{earlier_self}
use Rattle.replica_chain.proofs.PassedOn.{passed_fault}
use Rattle.replica_chain.proofs.Rests.{with_link}
use Rattle.replica_chain.proofs.Settled.{doubted_goes, doubted_still, settled_can, settled_goes, settled_node, where_settled}
use Rattle.replica_chain.proofs.Steps.{at_first, behind_on}
use Rattle.replica_chain.proofs.Tried.{same_generation}
use Rattle.outside_api.specs.Reaching.{stays}
use Rattle.replica_chain.proofs.Kept.{keeps_first}
use Rattle.replica_chain.proofs.node.Node.pull_on.Goals as goal

-- ---- there was no memory for a piece

pub returns-in_err-piece-clause-stopped : goal.returns-in_err-piece-clause-stopped
returns-in_err-piece-clause-stopped g c =
    let node = c.args.self.now in
    passed_fault (λ fault. IsUnread node node fault ⊎ HasStopped g.D.Disk.says g.L.Link.says (g.C.Contents.tells c.args.contents.now) c.args.link.now node node fault) _ Memory c.from_residual.ensures.1
    (inl (record { generation = refl; rows = refl; before = refl; at = refl; number = refl; changes = refl }))

pub returns-in_err-piece-clause-node : goal.returns-in_err-piece-clause-node
returns-in_err-piece-clause-node g c = λ chronicle n. record { now = chronicle; no_fewer = earlier_self chronicle; is_node = n }

pub returns-in_err-piece-clause-behind : goal.returns-in_err-piece-clause-behind
returns-in_err-piece-clause-behind g c = λ chronicle up told bytes groups b.
    let node = c.args.self.now in
    let T = g.L.Link.says.tells c.args.link.now in
    let B = g.C.Contents.tells c.args.contents.now in
    told_as g.D.Disk.says node node chronicle up (λ texts. texts ≡ up.texts) T B B (λ texts is. subst T (sym is) told) (λ bytes has. has)
    (at_first g.D.Disk.says g.met.D.Disk.only_now node chronicle up B bytes b)

-- ---- what is in doubt can't be settled

pub returns-in_err-settle-clause-can : goal.returns-in_err-settle-clause-can
returns-in_err-settle-clause-can g c =
    let says = g.D.Disk.says in
    let can = c.requires.can in
    let stands = c.in_err-settle.ensures.err can.was can.doubt can.stands refl in
    settled_can says c.args.self.now (record { journal = c.settle.new.self; scanned = c.nothing-self.result }) can (same_generation says c.args.self.now.link.journal c.settle.new.self can.was can.was can.doubt can.doubt can.stands stands refl) can.was can.doubt stands

pub returns-in_err-settle-clause-stopped : goal.returns-in_err-settle-clause-stopped
returns-in_err-settle-clause-stopped g c =
    let says = g.D.Disk.says in
    let old = c.args.self.now in
    let can = c.requires.can in
    let stands = c.in_err-settle.ensures.err can.was can.doubt can.stands refl in
    let same = same_generation says old.link.journal c.settle.new.self can.was can.was can.doubt can.doubt can.stands stands refl in
    let new = with_link old (record { journal = c.settle.new.self; scanned = c.nothing-self.result }) in
    passed_fault (λ fault. IsUnread old new fault ⊎ HasStopped says g.L.Link.says (g.C.Contents.tells c.args.contents.now) c.args.link.now old new fault) _ DiskFault c.from_residual-in_err-settle.ensures.1
    (inl (where_settled says old (record { journal = c.settle.new.self; scanned = c.nothing-self.result }) same))

pub returns-in_err-settle-clause-node : goal.returns-in_err-settle-clause-node
returns-in_err-settle-clause-node g c = λ chronicle n.
    let says = g.D.Disk.says in
    let old = c.args.self.now in
    let stands = c.in_err-settle.ensures.err n.was n.doubt n.stands refl in
    let same = same_generation says old.link.journal c.settle.new.self n.was n.was n.doubt n.doubt n.stands stands refl in
    record { now = chronicle; no_fewer = earlier_self chronicle; is_node = doubted_still says old (record { journal = c.settle.new.self; scanned = c.nothing-self.result }) c.settle.ensures.keeps (λ scanned files sees. c.nothing-self.ensures _) same chronicle n stands }

pub returns-in_err-settle-clause-behind : goal.returns-in_err-settle-clause-behind
returns-in_err-settle-clause-behind g c = λ chronicle up told bytes groups b.
    let says = g.D.Disk.says in
    let old = c.args.self.now in
    let n = b.is_node in
    let stands = c.in_err-settle.ensures.err n.was n.doubt n.stands refl in
    let same = same_generation says old.link.journal c.settle.new.self n.was n.was n.doubt n.doubt n.stands stands refl in
    let T = g.L.Link.says.tells c.args.link.now in
    let B = g.C.Contents.tells c.args.contents.now in
    told_as says old (with_link old (record { journal = c.settle.new.self; scanned = c.nothing-self.result })) chronicle up (λ texts. texts ≡ up.texts) T B B (λ texts is. subst T (sym is) told) (λ bytes has. has)
    (doubted_goes says old (record { journal = c.settle.new.self; scanned = c.nothing-self.result }) c.settle.ensures.keeps (λ scanned files sees. c.nothing-self.ensures _) same chronicle up b B bytes (c.settle.ensures.any_moment n.was n.doubt n.stands) stands)

pub returns-in_err-settle-clause-link_cause : goal.returns-in_err-settle-clause-link_cause
returns-in_err-settle-clause-link_cause g c = record {
  never_falls = omega arith;
  risen = λ is. absurd (only_passed IsOfContents _ DiskFault LinkFault c.from_residual-in_err-settle.ensures.1 tt is);
}

pub returns-in_err-settle-clause-contents_cause : goal.returns-in_err-settle-clause-contents_cause
returns-in_err-settle-clause-contents_cause g c = record {
  never_falls = omega arith;
  risen = λ is. absurd (only_passed IsOfContents _ DiskFault ContentsFailed c.from_residual-in_err-settle.ensures.1 tt is);
}

pub returns-in_err-settle-clause-cause : goal.returns-in_err-settle-clause-cause
returns-in_err-settle-clause-cause g c =
    let cause = c.in_err-settle.ensures.cause in
    record { journal_never_falls = cause.never_falls; archive_never_falls = omega arith; risen = λ is. inl cause.risen }

-- ---- it was settled

pub pull_into-moved-requires-clause-can : goal.pull_into-moved-requires-clause-can
pull_into-moved-requires-clause-can g c =
    let says = g.D.Disk.says in
    let can = c.requires.can in
    let stands = c.in_ok-settle.ensures.ok can.was can.doubt can.stands in
    settled_can says c.args.self.now (record { journal = c.settle.new.self; scanned = c.nothing-self.result }) can (same_generation says c.args.self.now.link.journal c.settle.new.self can.was can.was can.doubt nothing can.stands stands refl) can.was nothing stands

pub pull_into-moved-requires-clause-settled : goal.pull_into-moved-requires-clause-settled
pull_into-moved-requires-clause-settled g c = let can = c.requires.can in (can.was, c.in_ok-settle.ensures.ok can.was can.doubt can.stands)

pub returns-clause-followed : goal.returns-clause-followed
returns-clause-followed g c =
    let says = g.D.Disk.says in
    let old = c.args.self.now in
    let new = c.pull_into-moved.new.self in
    let link = c.pull_into-moved.new.link in
    let can = c.requires.can in
    let stands = c.in_ok-settle.ensures.ok can.was can.doubt can.stands in
    let same = same_generation says old.link.journal c.settle.new.self can.was can.was can.doubt nothing can.stands stands refl in
    ok_on Moved NodeFault (HasFollowed g.L.Link.says link (with_link old (record { journal = c.settle.new.self; scanned = c.nothing-self.result })) new) (HasFollowed g.L.Link.says link old new) c.pull_into-moved.result c.pull_into-moved.ensures.followed
    (followed_from old (record { journal = c.settle.new.self; scanned = c.nothing-self.result }) same says g.L.Link.says (g.C.Contents.tells c.pull_into-moved.new.contents) link new)

pub returns-clause-stopped : goal.returns-clause-stopped
returns-clause-stopped g c =
    let says = g.D.Disk.says in
    let old = c.args.self.now in
    let new = c.pull_into-moved.new.self in
    let link = c.pull_into-moved.new.link in
    let mid = with_link old (record { journal = c.settle.new.self; scanned = c.nothing-self.result }) in
    let told = g.C.Contents.tells c.pull_into-moved.new.contents in
    let can = c.requires.can in
    let stands = c.in_ok-settle.ensures.ok can.was can.doubt can.stands in
    let same = same_generation says old.link.journal c.settle.new.self can.was can.was can.doubt nothing can.stands stands refl in
    err_on Moved NodeFault (λ fault. IsUnread mid new fault ⊎ HasStopped says g.L.Link.says told link mid new fault) (λ fault. IsUnread old new fault ⊎ HasStopped says g.L.Link.says told link old new fault)
    c.pull_into-moved.result c.pull_into-moved.ensures.stopped (stopped_from old (record { journal = c.settle.new.self; scanned = c.nothing-self.result }) same says g.L.Link.says told link new)

pub returns-clause-node : goal.returns-clause-node
returns-clause-node g c = λ chronicle n.
    let says = g.D.Disk.says in
    let old = c.args.self.now in
    let stands = c.in_ok-settle.ensures.ok n.was n.doubt n.stands in
    let same = same_generation says old.link.journal c.settle.new.self n.was n.was n.doubt nothing n.stands stands refl in
    c.pull_into-moved.ensures.node chronicle (settled_node says old (record { journal = c.settle.new.self; scanned = c.nothing-self.result }) c.settle.ensures.keeps (λ scanned files sees. c.nothing-self.ensures _) same chronicle n stands)

pub returns-clause-behind : goal.returns-clause-behind
returns-clause-behind g c = λ chronicle up told bytes groups b.
    let says = g.D.Disk.says in
    let old = c.args.self.now in
    let new = c.pull_into-moved.new.self in
    let n = b.is_node in
    let stands = c.in_ok-settle.ensures.ok n.was n.doubt n.stands in
    let same = same_generation says old.link.journal c.settle.new.self n.was n.was n.doubt nothing n.stands stands refl in
    let before = g.L.Link.says.tells c.args.link.now in
    let T = g.L.Link.says.tells c.pull_into-moved.new.link in
    let B = g.C.Contents.tells c.args.contents.now in
    let first = settled_goes says old (record { journal = c.settle.new.self; scanned = c.nothing-self.result }) c.settle.ensures.keeps (λ scanned files sees. c.nothing-self.ensures _) same chronicle up b B bytes (c.settle.ensures.any_moment n.was n.doubt n.stands) stands in
    behind_on says old (with_link old (record { journal = c.settle.new.self; scanned = c.nothing-self.result })) new chronicle up (λ texts. texts ≡ up.texts) T T B (g.C.Contents.tells c.pull_into-moved.new.contents) c.pull_into-moved.ensures.keeps.used first
    (c.pull_into-moved.ensures.behind first.stays.now first.later (subst before (sym first.texts_told) told) first.bytes_told groups first.stays.behind) (λ texts was has. has)

pub returns-clause-cause : goal.returns-clause-cause
returns-clause-cause g c =
    let says = g.D.Disk.says in
    let old = c.args.self.now in
    let new = c.pull_into-moved.new.self in
    causes_since (says.faults (disk_of old.link.journal)) (says.faults (disk_of c.settle.new.self)) (says.faults (disk_of new.link.journal)) (says.faults (archive_disk_of old.archive)) (says.faults (archive_disk_of new.archive)) _
    c.in_ok-settle.ensures.cause.never_falls c.pull_into-moved.ensures.cause

pub returns-in_err-piece-clause-link_reached : goal.returns-in_err-piece-clause-link_reached
returns-in_err-piece-clause-link_reached g c = stays

pub returns-in_err-piece-clause-contents_reached : goal.returns-in_err-piece-clause-contents_reached
returns-in_err-piece-clause-contents_reached g c = stays

pub returns-in_err-settle-clause-link_reached : goal.returns-in_err-settle-clause-link_reached
returns-in_err-settle-clause-link_reached g c = stays

pub returns-in_err-settle-clause-contents_reached : goal.returns-in_err-settle-clause-contents_reached
returns-in_err-settle-clause-contents_reached g c = stays

pub returns-clause-link_reached : goal.returns-clause-link_reached
returns-clause-link_reached g c = c.pull_into-moved.ensures.link_reached

pub returns-clause-contents_reached : goal.returns-clause-contents_reached
returns-clause-contents_reached g c = c.pull_into-moved.ensures.contents_reached

pub returns-in_err-piece-clause-keeps : goal.returns-in_err-piece-clause-keeps
returns-in_err-piece-clause-keeps g c = keeps_first g.D.Disk.says g.met.D.Disk.only_now c.args.self.now.archive

pub returns-in_err-settle-clause-keeps : goal.returns-in_err-settle-clause-keeps
returns-in_err-settle-clause-keeps g c = keeps_first g.D.Disk.says g.met.D.Disk.only_now c.args.self.now.archive

pub returns-clause-keeps : goal.returns-clause-keeps
returns-clause-keeps g c = c.pull_into-moved.ensures.keeps
