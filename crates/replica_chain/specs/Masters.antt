-- Nodes behind a master: each has the first of its changes, and opens to the depot after them (Server Administrator Guide, "Replication", on replicas that take
-- over). That the groups of a journal are the changes of its depot is this project's own choice.
use Rattle.std.specs.Prelude.{◌≡◌, ◌≤◌, ℕ, ◌+◌, List, length, codes, min}
use Rattle.std.specs.List.{AllByRecursion}
use Rattle.outside_api.specs.Disk.{Files}
use Rattle.outside_api.specs.Link.{IsEarlier, text_of}
use Rattle.outside_api.specs.Moments.{LeavesOnly}
use Rattle.outside_api.specs.Reaching.{Reaches}
use Rattle.outside_api.specs.Says.{DiskSays}
use Rattle.archive_file.specs.Archive.{Has, disk_of as archive_disk_of, used_of}
use Rattle.archive_file.specs.Contents.{IsFront, IsLooked as IsArchiveLooked, IsTold}
use Rattle.archive_file.specs.declared.archive.Archive.{Archive}
use Rattle.depot_rows.specs.db_records.declared.change.Change.{Change}
use Rattle.depot_rows.specs.db_records.declared.key.Key.TheVariants as keys
use Rattle.depot_rows.specs.db_records.declared.table.TableId.TheVariants.{Rev}
use Rattle.depot_rows.specs.depot_model.Deeds.{Deed}
use Rattle.depot_rows.specs.depot_model.Records.{record_of}
use Rattle.depot_rows.specs.depot_model.Rules.{value_of}
use Rattle.depot_rows.specs.Standing.{Stand}
use Rattle.disk_journal.specs.Images.{Committed, HasCommitted}
use Rattle.disk_journal.specs.Stands.{disk_of, nothing}
use Rattle.journal_groups.specs.Groups.{IsGroup}
use Rattle.recovery.specs.Holding.{HasAllRows, group_texts, spots_end}
use Rattle.recovery.specs.Rules.{DeletesAreUnplaced}
use Rattle.recovery.specs.Standing.{HasContents, StandFor}
use Rattle.replica_pull.specs.Prefix.{HasGrown, HasNoGroup, IsJournalOf, first_rows}
use Rattle.replica_chain.specs.Chronicle.{Chronicle, changes_of, generations_of, rows_made, texts_of}
use Rattle.replica_chain.specs.Copying.{KeepsContents}
use Rattle.replica_chain.specs.Ends.{IsLinkLooked}
use Rattle.replica_chain.specs.Node.{HasFrontTo, IsNode}
use Rattle.replica_chain.specs.declared.link.NodeLink.{NodeLink}
use Rattle.replica_chain.specs.declared.node.Node.{Node}

-- ---- a master

-- The rows that the first n changes make stand for a depot, and the bytes have its contents at their spots.
pub record IsDepotThen (generations : List (List (List Change))) (bytes : List ℕ) (n : ℕ) (d : List Deed) : Type 0 where
  pub stand : Stand (first_rows n generations) d
  pub deletes : DeletesAreUnplaced (first_rows n generations Rev)
  pub within : spots_end (first_rows n generations Rev) ≤ length bytes
  pub contents : HasContents bytes (first_rows n generations) d

-- A master with these changes and these bytes in its archive: after each number of changes there was a depot, which tells its generation.
pub record IsMaster (c : Chronicle) (bytes : List ℕ) (after : ℕ → List Deed) : Type 0 where
  pub are_groups : AllByRecursion (AllByRecursion IsGroup) (generations_of c)
  pub each : (n : ℕ) → n ≤ length (changes_of c) → IsDepotThen (generations_of c) bytes n (after n)
  -- before a generation's first group and behind its last one the depot tells it
  pub generation : (then : Chronicle) → IsEarlier (texts_of then) (texts_of c) →
      value_of (record_of (after (length (changes_of then))) (keys.Counter (codes "journal"))) ≡ length then.closed

-- ---- a node behind it

-- what a node follows: the committed texts of a journal, and the bytes of an archive as far as it is used
pub record Upstream : Type 0 where
  pub texts : List (List ℕ)
  pub bytes : List ℕ

-- The node's changes, and what is in doubt, are the first ones upstream; what it keeps of the next one, which isn't whole yet, stands there behind them; and its
-- archive has the first of the bytes there.
pub record IsBehind {D : Type 0} (disk_says : DiskSays D) (node : Node D) (c : Chronicle) (up : Upstream) : Type 0 where
  pub is_node : IsNode disk_says node c
  pub earlier : IsEarlier (texts_of is_node.pending) up.texts
  pub rest : Has (text_of up.texts (length c.closed)) (record { at = node.at; length = length node.rest }) node.rest
  pub no_group : HasNoGroup node.number node.rest
  pub front : HasFrontTo (disk_says.may_leave (archive_disk_of node.archive)) (used_of node.archive) up.bytes

-- a pair of images stands for the depot after some of a master's changes, no fewer than the one number and no more than the other
pub record StandsAfter (after : ℕ → List Deed) (least most : ℕ) (journal archive : Files) : Type 0 where
  pub changes : ℕ
  pub no_fewer : least ≤ changes
  pub no_more : changes ≤ most
  pub stands : StandFor (after changes) journal archive

-- each pair of a node's images does, for n changes or one more
abbrev pub OpensToAPrefix : {D : Type 0} → DiskSays D → Node D → (ℕ → List Deed) → ℕ → ℕ → Type 0
OpensToAPrefix disk_says node after most n =
    (journal archive : Files) → disk_says.may_leave (disk_of node.link.journal) journal → disk_says.may_leave (archive_disk_of node.archive) archive → StandsAfter after n (min (n + 1) most) journal archive

-- ---- pulls

-- an image of the journal's disk has the groups of these changes, and the rows that they make, and nothing in doubt
pub record HasGroupsOf (c : Chronicle) (image : Files) : Type 0 where
  pub was : Committed
  pub committed : HasCommitted was image
  pub are_groups : AllByRecursion (AllByRecursion IsGroup) (generations_of c)
  pub generation : was.generation ≡ length c.closed
  pub are : was.groups ≡ group_texts 1 c.newest
  pub rows : HasAllRows was (rows_made c)

-- An image of the journal's disk has whole changes, no fewer than these, which are the first ones of these texts; the spots of the rows that they make end no
-- further than a place.
pub record HasSomeOf (c : Chronicle) (texts : List (List ℕ)) (place : ℕ) (image : Files) : Type 0 where
  pub then : Chronicle
  pub no_fewer : IsEarlier (texts_of c) (texts_of then)
  pub earlier : IsEarlier (texts_of then) texts
  pub has : HasGroupsOf then image
  pub ends : spots_end (rows_made then Rev) ≤ place

-- A node that had these changes is behind this upstream, and has no fewer. Each image of its journal's disk, at every moment since, has some of the changes there,
-- no fewer than the node had; and each image of its archive now has the bytes there as far as it is used, which is no less than where the spots of these end.
pub record StaysBehind {D : Type 0} (disk_says : DiskSays D) (old new : Node D) (c : Chronicle) (up : Upstream) : Type 0 where
  pub now : Chronicle
  pub no_fewer : IsEarlier (texts_of c) (texts_of now)
  pub behind : IsBehind disk_says new now up
  pub any_moment : LeavesOnly disk_says (disk_of old.link.journal) (disk_of new.link.journal) (HasSomeOf c up.texts (used_of new.archive))

-- each journal that is told is one of whole groups
abbrev pub TellsGroups : (List (List ℕ) → Type 0) → Type 0
TellsGroups told = (texts : List (List ℕ)) → told texts → (generations : List (List (List Change))) × IsJournalOf texts generations

-- A node that had these changes, and was behind what it followed, stays behind what it is told now.
pub record GoesOnBehind {D : Type 0} (disk_says : DiskSays D) (old new : Node D) (c : Chronicle) (up : Upstream) (told_texts : List (List ℕ) → Type 0) (told_bytes : List ℕ → Type 0) : Type 0 where
  pub later : Upstream
  pub grown : HasGrown up.texts later.texts
  pub more : IsFront up.bytes later.bytes
  pub texts_told : told_texts later.texts
  pub bytes_told : told_bytes later.bytes
  pub stays : StaysBehind disk_says old new c later

-- a node that had these changes has them, and perhaps more
pub record HasNoFewer {D : Type 0} (disk_says : DiskSays D) (new : Node D) (c : Chronicle) : Type 0 where
  pub now : Chronicle
  pub no_fewer : IsEarlier (texts_of c) (texts_of now)
  pub is_node : IsNode disk_says new now

-- ---- nodes that follow a node

-- Others followed a node: its journal and its archive were looked at, call by call, and nothing else of it changed.
pub record WasFollowed {D : Type 0} (disk_says : DiskSays D) (old new : Node D) : Type 0 where
  pub link : Reaches (λ (before now : NodeLink D). IsLinkLooked disk_says before now) old.link new.link
  pub archive : Reaches (λ (before now : Archive D). IsArchiveLooked disk_says before now) old.archive new.archive
  pub others : new ≡ record old { link = new.link; archive = new.archive }

-- A node was followed, and another that was behind what it told stays behind the same, whatever it had; and its archive keeps what was used of it.
pub record GoesOnBehindNode {D : Type 0} (disk_says : DiskSays D) (up up_new old new : Node D) : Type 0 where
  pub followed : WasFollowed disk_says up up_new
  pub keeps : KeepsContents disk_says old.archive new.archive
  pub behind : (mine theirs : Chronicle) (bytes : List ℕ) → IsNode disk_says up theirs → IsTold disk_says up.archive bytes → IsBehind disk_says old mine (record { texts = texts_of theirs; bytes = bytes })
      → StaysBehind disk_says old new mine (record { texts = texts_of theirs; bytes = bytes })

-- A node has all of these changes and nothing in doubt, and its archive has the first of the bytes, as far as it is used.
pub record HasAllOf {D : Type 0} (disk_says : DiskSays D) (node : Node D) (c : Chronicle) (bytes : List ℕ) : Type 0 where
  pub is_node : IsNode disk_says node c
  pub nothing_more : is_node.doubt ≡ nothing
  pub front : HasFrontTo (disk_says.may_leave (archive_disk_of node.archive)) (used_of node.archive) bytes

-- The rows that these changes make stand for a depot, which tells its generation, and the bytes have its contents at their spots.
pub record IsDepotOf (c : Chronicle) (bytes : List ℕ) (d : List Deed) : Type 0 where
  pub depot : IsDepotThen (generations_of c) bytes (length (changes_of c)) d
  pub generation : value_of (record_of d (keys.Counter (codes "journal"))) ≡ length c.closed
