-- How a node that is open follows an upstream that is (Server Administrator Guide, "Replication"; that a node has all when it has as many changes as its upstream,
-- in the same generation, is this project's own choice).
use Rattle.std.specs.Prelude.{◌≡◌, ◌≢◌, ◌⊎◌, ◌≤◌, ℕ, List, length, count_by, None, take}
use Rattle.outside_api.specs.Count.{HasRisen}
use Rattle.outside_api.specs.Disk.{Files}
use Rattle.outside_api.specs.Says.{DiskSays, SinkSays}
use Rattle.outside_api.specs.Told.{extended}
use Rattle.archive_file.specs.Archive.{disk_of as archive_disk_of}
use Rattle.archive_file.specs.Contents.{IsTold}
use Rattle.depot_rows.specs.db_records.Record.{is_live}
use Rattle.depot_rows.specs.db_records.declared.table.TableId.TheVariants.{Rev}
use Rattle.depot_rows.specs.depot_model.Deeds.{Deed}
use Rattle.depot_rows.specs.table_changes.Changed.{rows_of}
use Rattle.disk_journal.specs.Stands.{disk_of, generation_of_journal}
use Rattle.recovery.specs.Contents.{AreWhole, IsSpotDamage}
use Rattle.recovery.specs.Holding.{spots_end}
use Rattle.recovery.specs.Standing.{StandFor}
use Rattle.recovery.specs.declared.fault.OpenFault.{OpenFault}
use Rattle.replica_chain.specs.Apart.{IsApart, IsComparison}
use Rattle.replica_chain.specs.Chronicle.{Chronicle, changes_of, rows_made, texts_of}
use Rattle.replica_chain.specs.Ends.{HasTexts, IsLooked, link_says}
use Rattle.replica_chain.specs.Masters.{GoesOnBehindNode, HasAllOf, HasNoFewer, IsBehind}
use Rattle.replica_chain.specs.Node.{IsNode, files_of}
use Rattle.replica_chain.specs.Pulling.{HasStopped as IsPullStopped}
use Rattle.replica_chain.specs.declared.apart.Departure.{Departure}
use Rattle.replica_chain.specs.declared.fault.NodeFault.{NodeFault}
use Rattle.replica_chain.specs.declared.node.Node.{Node}
use Rattle.replica_chain.specs.declared.node.Pair.{Pair}
use Rattle.wire_text.specs.Giving.{GotFront}
use Rattle.end_lines.specs.Telling.{OutGot}
use Rattle.depot_follow.specs.Lines.{chain_line, done_lines}
use Rattle.depot_follow.specs.Ends.{cause_by_node, cause_by_pull}
use Rattle.depot_follow.specs.Opening.{IsNotOpenedOrMade, IsOpenedOrMade, PairRose}
use Rattle.depot_follow.specs.declared.ended.ChainCause.{ChainCause}
use Rattle.depot_follow.specs.declared.ended.ChainCause.TheVariants as causes
use Rattle.depot_follow.specs.declared.ended.ChainEnded.{ChainEnded}

-- how far a node is: its generation, and how many changes it has
abbrev pub IsPosition : {D : Type 0} → Node D → ℕ → ℕ → Type 0
IsPosition node generation changes = (generation_of_journal node.link.journal ≡ generation) × (node.changes ≡ changes)

-- A node with these changes is so far.
pub record IsSoFar (c : Chronicle) (generation changes : ℕ) : Type 0 where
  pub generation_is : generation ≡ length c.closed
  pub changes_are : changes ≡ length (changes_of c)

-- So many revisions of a node have a content, and each has it in the node's archive.
pub record AreVerified {D : Type 0} (disk_says : DiskSays D) (node : Node D) (count : ℕ) : Type 0 where
  pub count_is : count ≡ count_by is_live (rows_of node.tables Rev)
  pub whole : (a : Files) → disk_says.seen (archive_disk_of node.archive) a → spots_end (rows_of node.tables Rev) ≤ length (a 0) → AreWhole (a 0) (rows_of node.tables Rev)

-- Where the node was behind what the upstream had it has all of that, and no more, and the first of the upstream's bytes.
abbrev pub TakesAll : {D : Type 0} → DiskSays D → Node D → Node D → Node D → Type 0
TakesAll disk_says up node node_last = (mine theirs : Chronicle) (bytes : List ℕ) → IsNode disk_says up theirs → IsTold disk_says up.archive bytes → IsBehind disk_says node mine (record { texts = texts_of theirs; bytes = bytes })
    → HasAllOf disk_says node_last theirs bytes

-- A node's archive has the first bytes of an upstream's, as far as the spots of the node's rows, which end no further than those of the upstream's changes. So has
-- that of a node without changes.
pub record BeginsAlike {D : Type 0} (disk_says : DiskSays D) (node : Node D) (theirs : Chronicle) (archive : Files) : Type 0 where
  pub mine : Chronicle
  pub is_node : IsNode disk_says node mine
  pub no_further : spots_end (rows_made mine Rev) ≤ spots_end (rows_made theirs Rev)
  pub same : (image : Files) → disk_says.may_leave (archive_disk_of node.archive) image → take (spots_end (rows_made mine Rev)) (image 0) ≡ take (spots_end (rows_made mine Rev)) (archive 0)

-- Each pair of images of these disks stands for each depot for which files stand that have the upstream's rows, in its generation, and the bytes of its archive,
-- where these rows are those of its changes and the node's archive began as the upstream's.
abbrev pub StandAlike : {D : Type 0} → DiskSays D → Node D → Node D → Pair D → Type 0
StandAlike disk_says up node files = (theirs : Chronicle) (journal archive : Files) → disk_says.seen (archive_disk_of up.archive) archive → IsNode disk_says up theirs → BeginsAlike disk_says node theirs archive
    → (d : List Deed) (stands : StandFor d journal archive) → stands.rows ≡ rows_of up.tables → stands.was.generation ≡ generation_of_journal up.link.journal
    → (j a : Files) → disk_says.may_leave files.journal j → disk_says.may_leave files.archive a → StandFor d j a

-- So it does for each depot for which the files stand that the upstream reads.
abbrev pub StandForItsDepots : {D : Type 0} → DiskSays D → Node D → Node D → Pair D → Type 0
StandForItsDepots disk_says up node files = (theirs : Chronicle) (journal archive : Files) → disk_says.seen (disk_of up.link.journal) journal → disk_says.seen (archive_disk_of up.archive) archive → IsNode disk_says up theirs
    → BeginsAlike disk_says node theirs archive → (d : List Deed) → StandFor d journal archive → (j a : Files) → disk_says.may_leave files.journal j → disk_says.may_leave files.archive a → StandFor d j a

-- Two nodes were only looked at.
pub record AreLooked {D : Type 0} (disk_says : DiskSays D) (up node up_last node_last : Node D) : Type 0 where
  pub up_journal : IsLooked disk_says up.link.journal up_last.link.journal
  pub node_journal : IsLooked disk_says node.link.journal node_last.link.journal
  pub up_archive : up_last.archive ≡ up.archive
  pub node_archive : node_last.archive ≡ node.archive

-- the texts of both journals depart there
abbrev pub DepartAt : {D : Type 0} → DiskSays D → Node D → Node D → Departure → Type 0
DepartAt disk_says up node departure = (texts others : List (List ℕ)) → HasTexts disk_says node.link.journal texts → HasTexts disk_says up.link.journal others → IsApart texts others departure

-- the node's don't depart
abbrev pub AgreeWith : {D : Type 0} → DiskSays D → Node D → Node D → Type 0
AgreeWith disk_says up node = (texts others : List (List ℕ)) → HasTexts disk_says node.link.journal texts → HasTexts disk_says up.link.journal others → IsComparison texts others None

-- A node followed so far, and the next pull stopped there: at the first byte or record that can't be taken, at a content with another digest, or at bytes that
-- aren't there.
pub record HasPullStopped {D : Type 0} (disk_says : DiskSays D) (up node up_last node_last : Node D) (place : ℕ) : Type 0 where
  pub up_then : Node D
  pub node_then : Node D
  pub followed : GoesOnBehindNode disk_says up up_then node node_then
  pub no_fewer : (c : Chronicle) → IsNode disk_says node c → HasNoFewer disk_says node_then c
  pub fault : NodeFault
  pub tells : cause_by_pull fault ≡ causes.Bad place
  pub stopped : IsPullStopped disk_says (link_says disk_says) (IsTold disk_says up_last.archive) up_last.link node_then node_last fault

-- why a node took nothing more: a pull stopped at a bad place, the outside failed, or memory was wanting
abbrev pub HaveStopped : {D : Type 0} → DiskSays D → Node D → Node D → Node D → Node D → ChainCause → Type 0
HaveStopped disk_says up node up_last node_last (causes.Bad place) = HasPullStopped disk_says up node up_last node_last place
HaveStopped disk_says up node up_last node_last causes.Fault = Unit {0}
HaveStopped disk_says up node up_last node_last causes.Memory = Unit {0}
HaveStopped disk_says up node up_last node_last _ = ⊥

-- The node is as far as the upstream was, and there is the first of its contents, by path and revision, that isn't whole.
pub record IsContentBad {D : Type 0} (disk_says : DiskSays D) (up node : Node D) (place : ℕ) : Type 0 where
  pub as_far : (c : Chronicle) → IsNode disk_says up c → IsSoFar c (generation_of_journal node.link.journal) node.changes
  pub first : (a : Files) → disk_says.seen (archive_disk_of node.archive) a → spots_end (rows_of node.tables Rev) ≤ length (a 0) → IsSpotDamage (a 0) (rows_of node.tables Rev) place

-- The node is as far as the upstream was, and its rows aren't the upstream's. So the upstream's aren't those of its changes, or the node wasn't behind these.
pub record HasOtherRows {D : Type 0} (disk_says : DiskSays D) (up node node_last : Node D) : Type 0 where
  pub as_far : (c : Chronicle) → IsNode disk_says up c → IsSoFar c (generation_of_journal node_last.link.journal) node_last.changes
  pub differ : rows_of node_last.tables ≢ rows_of up.tables
  pub never_behind : (mine theirs : Chronicle) (bytes : List ℕ) → IsNode disk_says up theirs → IsTold disk_says up.archive bytes → IsBehind disk_says node mine (record { texts = texts_of theirs; bytes = bytes }) → ⊥

-- Why a node hasn't all: its journal departs, and nothing was pulled; or it doesn't, and a pull stopped at that place, or the verification did; or it doesn't, and
-- the node has other rows, or memory was wanting; or the outside failed.
abbrev pub HasStopped : {D : Type 0} → DiskSays D → Node D → Node D → Node D → Node D → ChainCause → Type 0
HasStopped disk_says up node up_last node_last (causes.Apart departure) = DepartAt disk_says up node departure × AreLooked disk_says up node up_last node_last
HasStopped disk_says up node up_last node_last (causes.Bad place) = AgreeWith disk_says up node × (HasPullStopped disk_says up node up_last node_last place ⊎ IsContentBad disk_says up node_last place)
HasStopped disk_says up node up_last node_last causes.Incomplete = AgreeWith disk_says up node × HasOtherRows disk_says up node node_last
HasStopped disk_says up node up_last node_last causes.Memory = AgreeWith disk_says up node
HasStopped disk_says up node up_last node_last causes.Fault = Unit {0}
HasStopped disk_says up node up_last node_last _ = ⊥

-- `out` got these lines, or, where its count rose, a front of them
abbrev pub GotLines : {K : Type 0} → SinkSays K → K → K → List ℕ → Type 0
GotLines sink_says old new lines = OutGot (sink_says.given old) (sink_says.given new) (sink_says.faults old) (sink_says.faults new) lines

module _ {D K : Type 0} (disk_says : DiskSays D) (sink_says : SinkSays K) (up node : Node D) (old_out new_out : K) (ended : ChainEnded D) where
  -- `out` got the three lines of a node that has all; or it failed, which is a fault, and got a front of them
  abbrev pub IsAllTold : ℕ → ℕ → ℕ → Type 0
  IsAllTold generation changes verified =
      ((ended.cause ≡ causes.Done) × (sink_says.given new_out ≡ extended (sink_says.given old_out) (done_lines generation changes verified)))
      ⊎ ((ended.cause ≡ causes.Fault) × HasRisen (sink_says.faults old_out) (sink_says.faults new_out) × GotFront (sink_says.given old_out) (sink_says.given new_out) (done_lines generation changes verified))

  -- It ended before the node had all, and `out` got the line of the cause.
  pub record HasBroken (up_last node_last : Node D) : Type 0 where
    pub stopped : HasStopped disk_says up node up_last node_last ended.cause
    pub line : GotLines sink_says old_out new_out (chain_line ended.cause)

  -- The node has as many changes as the upstream, in the same generation, its rows, and each content. `out` got the three lines; or it failed, which is a fault,
  -- and got a front of them.
  pub record HasAll (node_last : Node D) : Type 0 where
    pub agrees : AgreeWith disk_says up node
    pub generation : ℕ
    pub changes : ℕ
    pub upstream : (c : Chronicle) → IsNode disk_says up c → IsSoFar c generation changes
    pub position : IsPosition node_last generation changes
    pub rows : rows_of node_last.tables ≡ rows_of up.tables
    pub verified : ℕ
    pub are : AreVerified disk_says node_last verified
    pub all : TakesAll disk_says up node node_last
    pub told : IsAllTold generation changes verified

  -- However it ends, the node has whole changes, no fewer than before, and stays behind what it followed, at every moment; and that was only looked at.
  pub record Follows : Type 0 where
    pub up_last : Node D
    pub node_last : Node D
    pub up_is : ended.up ≡ files_of up_last
    pub node_is : ended.node ≡ files_of node_last
    pub no_fewer : (c : Chronicle) → IsNode disk_says node c → HasNoFewer disk_says node_last c
    pub behind : GoesOnBehindNode disk_says up up_last node node_last
    pub ends : HasBroken up_last node_last ⊎ HasAll node_last
    pub fault : ended.cause ≡ causes.Fault → PairRose disk_says (files_of up) ended.up ⊎ (PairRose disk_says (files_of node) ended.node ⊎ HasRisen (sink_says.faults old_out) (sink_says.faults new_out))

-- An upstream that is open is followed from these files: they weren't opened, and couldn't be made; or the node followed.
module _ {D K : Type 0} (disk_says : DiskSays D) (sink_says : SinkSays K) (up : Node D) (files : Pair D) (old_out new_out : K) (ended : ChainEnded D) where
  pub record HasNotOpened : Type 0 where
    pub fault : OpenFault
    pub cause_is : ended.cause ≡ cause_by_node fault
    pub line : GotLines sink_says old_out new_out (chain_line ended.cause)
    pub up_is : ended.up ≡ files_of up
    pub node : IsNotOpenedOrMade disk_says files fault ended.node

  pub record HasOpened : Type 0 where
    pub node : Node D
    pub opened : IsOpenedOrMade disk_says files node
    pub follows : Follows disk_says sink_says up node old_out new_out ended
    -- After Done the node's files stand for the depots of the upstream's.
    pub copied : ended.cause ≡ causes.Done → StandAlike disk_says up node ended.node

  abbrev pub FollowsFrom : Type 0
  FollowsFrom = HasNotOpened ⊎ HasOpened
