-- Pulls one after another.
use Rattle.std.proofs.Common.{◌≡◌, ◌⊎◌, inl, inr, ℕ, ◌≤◌, List, length, Option, Some, None, refl, ap, arith}
use Rattle.outside_api.specs.Disk.{Files}
use Rattle.outside_api.specs.Says.{DiskSays}
use Rattle.archive_file.specs.Archive.{disk_of as archive_disk_of}
use Rattle.archive_file.specs.Contents.{IsTold}
use Rattle.depot_rows.specs.db_records.declared.table.TableId.TheVariants.{Rev}
use Rattle.depot_rows.specs.table_changes.Changed.{rows_of}
use Rattle.disk_journal.specs.Stands.{generation_of_journal}
use Rattle.recovery.specs.Contents.{IsSpotDamage}
use Rattle.recovery.specs.Holding.{spots_end}
use Rattle.replica_chain.specs.Apart.{IsComparison}
use Rattle.replica_chain.specs.Chronicle.{Chronicle, texts_of}
use Rattle.replica_chain.specs.Copying.{AtBadContent, IsOfContents}
use Rattle.replica_chain.specs.Ends.{IsLooked, link_says}
use Rattle.replica_chain.specs.Masters.{GoesOnBehindNode, HasNoFewer}
use Rattle.replica_chain.specs.Node.{IsNode}
use Rattle.replica_chain.specs.Pulling.{HasStopped as IsPullStopped, IsUnread}
use Rattle.replica_chain.specs.declared.apart.Departure.{Departure}
use Rattle.replica_chain.specs.declared.fault.NodeFault.{NodeFault}
use Rattle.replica_chain.specs.declared.fault.NodeFault.TheVariants as faults
use Rattle.replica_chain.specs.declared.node.Node.{Node}
use Rattle.replica_chain.specs.declared.node.Pair.{Pair}
use Rattle.replica_chain.proofs.Chains.{earlier_on}
use Rattle.replica_chain.proofs.Growing.{earlier_self}
use Rattle.replica_chain.proofs.Reached.{goes_first, goes_then}
use Rattle.recovery.proofs.Looks.{rises_on}
use Rattle.depot_follow.specs.Ends.{cause_by_pull}
use Rattle.depot_follow.specs.Following.{AgreeWith, AreLooked, HasPullStopped, HasStopped, HaveStopped, IsSoFar}
use Rattle.depot_follow.specs.Opening.{NeverFalls, PairRose}
use Rattle.depot_follow.specs.declared.ended.ChainCause.{ChainCause}
use Rattle.depot_follow.specs.declared.ended.ChainCause.TheVariants as causes

-- a comparison that found no departure
pub agree_of : (texts others : List (List ℕ)) (found : Option Departure) → ((departure : Departure) → found ≡ Some departure → ⊥) → IsComparison texts others found → IsComparison texts others None
agree_of texts others None none is = is
agree_of texts others (Some departure) none is = absurd (none departure refl)

module _ {D : Type 0} (disk_says : DiskSays D) where
  -- a node has no fewer changes than it has
  pub no_fewer_now : (node : Node D) (c : Chronicle) → IsNode disk_says node c → HasNoFewer disk_says node c
  no_fewer_now node c is = record { now = c; no_fewer = earlier_self c; is_node = is }

  -- nor where it has what it had
  pub no_fewer_kept : (old new : Node D) → ((c : Chronicle) → IsNode disk_says old c → IsNode disk_says new c) → (c : Chronicle) → IsNode disk_says old c → HasNoFewer disk_says new c
  no_fewer_kept old new kept c is = no_fewer_now new c (kept c is)

  pub no_fewer_on : (old mid new : Node D) → ((c : Chronicle) → IsNode disk_says old c → HasNoFewer disk_says mid c) → ((c : Chronicle) → IsNode disk_says mid c → HasNoFewer disk_says new c)
      → (c : Chronicle) → IsNode disk_says old c → HasNoFewer disk_says new c
  no_fewer_on old mid new first second c is =
      let one = first c is in
      let two = second one.now one.is_node in
      record { now = two.now; no_fewer = earlier_on (texts_of c) (texts_of one.now) (texts_of two.now) one.no_fewer two.no_fewer; is_node = two.is_node }

  pub same_falls : (files : Pair D) → NeverFalls disk_says files files
  same_falls files = record { journal = omega arith; archive = omega arith }

  pub falls_on : (old mid new : Pair D) → NeverFalls disk_says old mid → NeverFalls disk_says mid new → NeverFalls disk_says old new
  falls_on old mid new first second = record { journal = omega (arith, first.journal, second.journal); archive = omega (arith, first.archive, second.archive) }

  pub rose_on : (old mid new : Pair D) → NeverFalls disk_says old mid → PairRose disk_says mid new → PairRose disk_says old new
  rose_on old mid new falls (inl journal) = inl (rises_on _ _ _ falls.journal journal)
  rose_on old mid new falls (inr archive) = inr (rises_on _ _ _ falls.archive archive)

  -- two nodes whose journals were compared
  pub looked_of : (up node up_last node_last : Node D) → IsLooked disk_says up.link.journal up_last.link.journal → IsLooked disk_says node.link.journal node_last.link.journal
      → up_last ≡ record up { link = up_last.link } → node_last ≡ record node { link = node_last.link } → AreLooked disk_says up node up_last node_last
  looked_of up node up_last node_last up_looked node_looked up_others node_others = record {
    up_journal = up_looked;
    node_journal = node_looked;
    up_archive = ap (λ (n : Node D). n.archive) up_others;
    node_archive = ap (λ (n : Node D). n.archive) node_others;
  }

  -- pulls that stopped, of journals that don't depart
  pub stopped_of : (up node up_last node_last : Node D) (cause : ChainCause) → HaveStopped disk_says up node up_last node_last cause → AgreeWith disk_says up node → HasStopped disk_says up node up_last node_last cause
  stopped_of up node up_last node_last causes.Done stopped agrees = stopped
  stopped_of up node up_last node_last causes.Usage stopped agrees = stopped
  stopped_of up node up_last node_last (causes.Shut fault) stopped agrees = stopped
  stopped_of up node up_last node_last (causes.NodeShut fault) stopped agrees = stopped
  stopped_of up node up_last node_last (causes.Apart departure) stopped agrees = absurd stopped
  stopped_of up node up_last node_last (causes.Bad place) stopped agrees = (agrees, inl stopped)
  stopped_of up node up_last node_last causes.Incomplete stopped agrees = absurd stopped
  stopped_of up node up_last node_last causes.Fault stopped agrees = tt
  stopped_of up node up_last node_last causes.Memory stopped agrees = agrees

  -- a verification that stopped
  pub verified_of : (up node up_last node_last : Node D) (fault : NodeFault) → IsOfContents fault → AgreeWith disk_says up node
      → ((c : Chronicle) → IsNode disk_says up c → IsSoFar c (generation_of_journal node_last.link.journal) node_last.changes)
      → ((a : Files) → disk_says.seen (archive_disk_of node_last.archive) a → spots_end (rows_of node_last.tables Rev) ≤ length (a 0) → AtBadContent (IsSpotDamage (a 0) (rows_of node_last.tables Rev)) fault)
      → HasStopped disk_says up node up_last node_last (cause_by_pull fault)
  verified_of up node up_last node_last faults.LinkFault of agrees as_far bad = absurd of
  verified_of up node up_last node_last faults.ContentsFailed of agrees as_far bad = absurd of
  verified_of up node up_last node_last faults.DiskFault of agrees as_far bad = tt
  verified_of up node up_last node_last (faults.BadFeed place) of agrees as_far bad = absurd of
  verified_of up node up_last node_last (faults.BadContent place) of agrees as_far bad = (agrees, inr (record { as_far = as_far; first = bad }))
  verified_of up node up_last node_last (faults.NoBytes place) of agrees as_far bad = absurd of
  verified_of up node up_last node_last faults.NoGeneration of agrees as_far bad = absurd of
  verified_of up node up_last node_last faults.Memory of agrees as_far bad = agrees

-- Pulls that stopped, one after another.
module _ {D : Type 0} (disk_says : DiskSays D) (only_now : (disk : D) (image : Files) → disk_says.left_since disk (disk_says.moment disk) image → disk_says.may_leave disk image) where
  -- at a bad place
  module _ (up old up_new new : Node D) where
    bad_pull : (fault : NodeFault) (place : ℕ) → cause_by_pull fault ≡ causes.Bad place → IsPullStopped disk_says (link_says disk_says) (IsTold disk_says up_new.archive) up_new.link old new fault → HasPullStopped disk_says up old up_new new place
    bad_pull fault place tells stopped = record {
      up_then = up;
      node_then = old;
      followed = goes_first disk_says only_now up old;
      no_fewer = no_fewer_now disk_says old;
      fault = fault;
      tells = tells;
      stopped = stopped;
    }

    -- the first of them
    pub pull_stopped : (fault : NodeFault) → IsUnread old new fault ⊎ IsPullStopped disk_says (link_says disk_says) (IsTold disk_says up_new.archive) up_new.link old new fault → HaveStopped disk_says up old up_new new (cause_by_pull fault)
    pull_stopped faults.LinkFault why = tt
    pull_stopped faults.ContentsFailed why = tt
    pull_stopped faults.DiskFault why = tt
    pull_stopped (faults.BadFeed place) (inl unread) = absurd unread
    pull_stopped (faults.BadFeed place) (inr stopped) = bad_pull (faults.BadFeed place) place refl stopped
    pull_stopped (faults.BadContent place) (inl unread) = absurd unread
    pull_stopped (faults.BadContent place) (inr stopped) = bad_pull (faults.BadContent place) place refl stopped
    pull_stopped (faults.NoBytes place) (inl unread) = absurd unread
    pull_stopped (faults.NoBytes place) (inr stopped) = bad_pull (faults.NoBytes place) place refl stopped
    pull_stopped faults.NoGeneration why = tt
    pull_stopped faults.Memory why = tt

  -- behind others
  pub stopped_on : (up up_mid up_last node node_mid node_last : Node D) → GoesOnBehindNode disk_says up up_mid node node_mid → ((c : Chronicle) → IsNode disk_says node c → HasNoFewer disk_says node_mid c)
      → (cause : ChainCause) → HaveStopped disk_says up_mid node_mid up_last node_last cause → HaveStopped disk_says up node up_last node_last cause
  stopped_on up up_mid up_last node node_mid node_last followed fewer causes.Done stopped = stopped
  stopped_on up up_mid up_last node node_mid node_last followed fewer causes.Usage stopped = stopped
  stopped_on up up_mid up_last node node_mid node_last followed fewer (causes.Shut fault) stopped = stopped
  stopped_on up up_mid up_last node node_mid node_last followed fewer (causes.NodeShut fault) stopped = stopped
  stopped_on up up_mid up_last node node_mid node_last followed fewer (causes.Apart departure) stopped = stopped
  stopped_on up up_mid up_last node node_mid node_last followed fewer (causes.Bad place) stopped = record {
    up_then = stopped.up_then;
    node_then = stopped.node_then;
    followed = goes_then disk_says only_now up up_mid stopped.up_then node node_mid stopped.node_then followed stopped.followed;
    no_fewer = no_fewer_on disk_says node node_mid stopped.node_then fewer stopped.no_fewer;
    fault = stopped.fault;
    tells = stopped.tells;
    stopped = stopped.stopped;
  }
  stopped_on up up_mid up_last node node_mid node_last followed fewer causes.Incomplete stopped = stopped
  stopped_on up up_mid up_last node node_mid node_last followed fewer causes.Fault stopped = tt
  stopped_on up up_mid up_last node node_mid node_last followed fewer causes.Memory stopped = tt
