-- How the ends of a following's parts lead to what it promises.
use Rattle.std.proofs.Common.{◌≡◌, ◌⊎◌, inl, inr, ◌≤◌, ℕ, List, length, refl, sym, ap, subst, ◌∙◌, arith}
use Rattle.outside_api.specs.Count.{HasRisen}
use Rattle.outside_api.specs.Says.{DiskSays, SinkSays}
use Rattle.depot_rows.specs.table_changes.Changed.{rows_of}
use Rattle.recovery.specs.declared.fault.OpenFault.{OpenFault}
use Rattle.recovery.specs.declared.fault.OpenFault.TheVariants.{Unmade, Damaged, DiskFault, Memory}
use Rattle.replica_chain.specs.Chronicle.{Chronicle}
use Rattle.replica_chain.specs.Masters.{GoesOnBehindNode, HasNoFewer}
use Rattle.replica_chain.specs.Node.{IsNode, files_of}
use Rattle.replica_chain.specs.declared.node.Node.{Node}
use Rattle.replica_chain.specs.declared.node.Pair.{Pair}
use Rattle.replica_chain.specs.declared.opening.NotNode.{NotNode}
use Rattle.depot_follow.specs.Chain.{After, Before, Chains}
use Rattle.depot_follow.specs.Ends.{IsEndedBy, cause_by_node, cause_by_upstream, status_of}
use Rattle.depot_follow.specs.Following.{AgreeWith, AreVerified, Follows, FollowsFrom, GotLines, HasAll, HasBroken, HasNotOpened, HasStopped, IsAllTold, IsPosition, IsSoFar, TakesAll}
use Rattle.depot_follow.specs.Lines.{chain_line}
use Rattle.depot_follow.specs.Opening.{IsNotOpened, IsNotOpenedOrMade, IsOpenedFrom, PairRose, left_by}
use Rattle.depot_follow.specs.declared.ended.ChainCause.{ChainCause}
use Rattle.depot_follow.specs.declared.ended.ChainCause.TheVariants as causes
use Rattle.depot_follow.specs.declared.ended.ChainEnded.{ChainEnded}
use Rattle.depot_follow.proofs.Followed.{rose_on}

-- a pair of disks by its disks
pub pair_is : {D : Type 0} (files : Pair D) (journal archive : D) → files.journal ≡ journal → files.archive ≡ archive → files ≡ record { journal = journal; archive = archive }
pair_is files journal archive e f = λ i. record { journal = e i; archive = f i }

-- ---- causes

upstream_fault : (fault : OpenFault) → cause_by_upstream fault ≡ causes.Fault → fault ≡ DiskFault
upstream_fault Unmade e = absurd cc
upstream_fault (Damaged disk file place) e = absurd cc
upstream_fault DiskFault e = refl
upstream_fault Memory e = absurd cc

upstream_unused : (fault : OpenFault) → cause_by_upstream fault ≡ causes.Usage → ⊥
upstream_unused Unmade e = cc
upstream_unused (Damaged disk file place) e = cc
upstream_unused DiskFault e = cc
upstream_unused Memory e = cc

node_fault : (fault : OpenFault) → cause_by_node fault ≡ causes.Fault → fault ≡ DiskFault
node_fault Unmade e = absurd cc
node_fault (Damaged disk file place) e = absurd cc
node_fault DiskFault e = refl
node_fault Memory e = absurd cc

node_unused : (fault : OpenFault) → cause_by_node fault ≡ causes.Usage → ⊥
node_unused Unmade e = cc
node_unused (Damaged disk file place) e = cc
node_unused DiskFault e = cc
node_unused Memory e = cc

-- what is done isn't a fault
pub done_unfailed : (cause : ChainCause) → cause ≡ causes.Done → cause ≡ causes.Fault → ⊥
done_unfailed cause done failed = let clash : causes.Done ≡ causes.Fault = sym done ∙ failed in cc

-- ---- a following

module _ {D K : Type 0} (disk_says : DiskSays D) (sink_says : SinkSays K) (up node up_last node_last : Node D) (old_out new_out : K) (ended : ChainEnded D) where
  abbrev Ends : Type 0
  Ends = HasBroken disk_says sink_says up node old_out new_out ended up_last node_last ⊎ HasAll disk_says sink_says up node old_out new_out ended node_last

  -- a node that hasn't all
  pub ends_of : (cause : ChainCause) → ended.cause ≡ cause → HasStopped disk_says up node up_last node_last cause → GotLines sink_says old_out new_out (chain_line cause) → Ends
  ends_of cause is stopped line = inl (record {
    stopped = subst (HasStopped disk_says up node up_last node_last) (sym is) stopped;
    line = subst (λ (c : ChainCause). GotLines sink_says old_out new_out (chain_line c)) (sym is) line;
  })

  -- a node that has all
  pub all_of : (generation changes verified : ℕ) → AgreeWith disk_says up node → ((c : Chronicle) → IsNode disk_says up c → IsSoFar c generation changes) → IsPosition node_last generation changes
      → rows_of node_last.tables ≡ rows_of up.tables → AreVerified disk_says node_last verified → TakesAll disk_says up node node_last → IsAllTold disk_says sink_says up node old_out new_out ended generation changes verified → Ends
  all_of generation changes verified agrees upstream position rows are all told = inr (record {
    agrees = agrees;
    generation = generation;
    changes = changes;
    upstream = upstream;
    position = position;
    rows = rows;
    verified = verified;
    are = are;
    all = all;
    told = told;
  })

  -- what failed of both nodes' disks
  pub rose_of : PairRose disk_says (files_of up) (files_of up_last) ⊎ PairRose disk_says (files_of node) (files_of node_last)
      → PairRose disk_says (files_of up) (files_of up_last) ⊎ (PairRose disk_says (files_of node) (files_of node_last) ⊎ HasRisen (sink_says.faults old_out) (sink_says.faults new_out))
  rose_of (inl rose) = inl rose
  rose_of (inr rose) = inr (inl rose)

  -- by how it ended, and the disks that it left
  pub follows_of : ended.up ≡ files_of up_last → ended.node ≡ files_of node_last → ((c : Chronicle) → IsNode disk_says node c → HasNoFewer disk_says node_last c) → GoesOnBehindNode disk_says up up_last node node_last → Ends
      → (ended.cause ≡ causes.Fault → PairRose disk_says (files_of up) (files_of up_last) ⊎ (PairRose disk_says (files_of node) (files_of node_last) ⊎ HasRisen (sink_says.faults old_out) (sink_says.faults new_out)))
      → Follows disk_says sink_says up node old_out new_out ended
  follows_of up_is node_is no_fewer behind ends fault = record {
    up_last = up_last;
    node_last = node_last;
    up_is = up_is;
    node_is = node_is;
    no_fewer = no_fewer;
    behind = behind;
    ends = ends;
    fault = rw (up_is, node_is) fault;
  }

module _ {D K : Type 0} (disk_says : DiskSays D) (sink_says : SinkSays K) (up : Node D) (files : Pair D) (old_out new_out : K) (ended : ChainEnded D) where
  -- the node's files weren't opened
  pub has_not_opened : (found : NotNode D) → IsEndedBy ended (cause_by_node found.fault) (files_of up) (left_by found) → GotLines sink_says old_out new_out (chain_line (cause_by_node found.fault))
      → IsNotOpenedOrMade disk_says files found.fault (left_by found) → HasNotOpened disk_says sink_says up files old_out new_out ended
  has_not_opened found is line unopened = record {
    fault = found.fault;
    cause_is = is.cause_is;
    line = subst (λ (c : ChainCause). GotLines sink_says old_out new_out (chain_line c)) (sym is.cause_is) line;
    up_is = is.up_is;
    node = subst (λ (left : Pair D). IsNotOpenedOrMade disk_says files found.fault left) (sym is.node_is) unopened;
  }

  -- usage is no end of it
  pub followed_unused : FollowsFrom disk_says sink_says up files old_out new_out ended → ended.cause ≡ causes.Usage → ⊥
  followed_unused (inl unopened) e = node_unused unopened.fault (sym unopened.cause_is ∙ e)
  followed_unused (inr opened) e = go opened.follows.ends
    where
      go : HasBroken disk_says sink_says up opened.node old_out new_out ended opened.follows.up_last opened.follows.node_last ⊎ HasAll disk_says sink_says up opened.node old_out new_out ended opened.follows.node_last → ⊥
      go (inl broke) = subst (HasStopped disk_says up opened.node opened.follows.up_last opened.follows.node_last) e broke.stopped
      go (inr all) = told all.told
        where
          told : IsAllTold disk_says sink_says up opened.node old_out new_out ended all.generation all.changes all.verified → ⊥
          told (inl is) = let clash : causes.Done ≡ causes.Usage = sym is.0 ∙ e in cc
          told (inr is) = let clash : causes.Fault ≡ causes.Usage = sym is.0 ∙ e in cc

  -- a fault comes only where a count rose
  pub followed_fault : FollowsFrom disk_says sink_says up files old_out new_out ended → ended.cause ≡ causes.Fault
      → PairRose disk_says (files_of up) ended.up ⊎ (PairRose disk_says files ended.node ⊎ HasRisen (sink_says.faults old_out) (sink_says.faults new_out))
  followed_fault (inl unopened) e = inr (inl (unopened.node.risen (node_fault unopened.fault (sym unopened.cause_is ∙ e))))
  followed_fault (inr opened) e = go (opened.follows.fault e)
    where
      go : PairRose disk_says (files_of up) ended.up ⊎ (PairRose disk_says (files_of opened.node) ended.node ⊎ HasRisen (sink_says.faults old_out) (sink_says.faults new_out))
          → PairRose disk_says (files_of up) ended.up ⊎ (PairRose disk_says files ended.node ⊎ HasRisen (sink_says.faults old_out) (sink_says.faults new_out))
      go (inl rose) = inl rose
      go (inr (inl rose)) = inr (inl (rose_on disk_says files (files_of opened.node) ended.node opened.opened.never_falls rose))
      go (inr (inr rose)) = inr (inr rose)

-- ---- the whole

module _ {D K : Type 0} (disk_says : DiskSays D) (sink_says : SinkSays K) (words : List (List ℕ)) (before : Before D K) (after : After D K) where
  -- the upstream wasn't opened
  pub chains_shut : length words ≤ 1 → (fault : OpenFault) (left : Pair D) → IsEndedBy after.ended (cause_by_upstream fault) left before.node → GotLines sink_says before.out after.out (chain_line (cause_by_upstream fault))
      → IsNotOpened disk_says before.up fault left → Chains disk_says sink_says words before after
  chains_shut alone fault left is line unopened = record {
    ends = inr (inl (record {
      alone = alone;
      fault = fault;
      cause_is = is.cause_is;
      line = subst (λ (c : ChainCause). GotLines sink_says before.out after.out (chain_line c)) (sym is.cause_is) line;
      up = subst (λ (files : Pair D). IsNotOpened disk_says before.up fault files) (sym is.up_is) unopened;
      node_is = is.node_is;
    }));
    status = is.status ∙ ap status_of (sym is.cause_is);
    usage = (λ e. absurd (upstream_unused fault (sym is.cause_is ∙ e)), λ more. absurd (omega (arith, alone, more)));
    fault = λ e. inl (subst (λ (files : Pair D). PairRose disk_says before.up files) (sym is.up_is) (unopened.risen (upstream_fault fault (sym is.cause_is ∙ e))));
  }

  -- it was, and followed
  pub chains_followed : length words ≤ 1 → (up : Node D) → IsOpenedFrom disk_says before.up up → FollowsFrom disk_says sink_says up before.node before.out after.out after.ended
      → after.ended.status ≡ status_of after.ended.cause → Chains disk_says sink_says words before after
  chains_followed alone up opened follows status = record {
    ends = inr (inr (record { alone = alone; up = up; opened = opened; follows = follows }));
    status = status;
    usage = (λ e. absurd (followed_unused disk_says sink_says up before.node before.out after.out after.ended follows e), λ more. absurd (omega (arith, alone, more)));
    fault = λ e. go (followed_fault disk_says sink_says up before.node before.out after.out after.ended follows e);
  }
    where
      go : PairRose disk_says (files_of up) after.ended.up ⊎ (PairRose disk_says before.node after.ended.node ⊎ HasRisen (sink_says.faults before.out) (sink_says.faults after.out))
          → PairRose disk_says before.up after.ended.up ⊎ (PairRose disk_says before.node after.ended.node ⊎ HasRisen (sink_says.faults before.out) (sink_says.faults after.out))
      go (inl rose) = inl (rose_on disk_says before.up (files_of up) after.ended.up opened.never_falls rose)
      go (inr rose) = inr rose
