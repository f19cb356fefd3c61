-- What one pull of a node does, and why it stops. This project's own choice.
use Rattle.std.specs.Prelude.{◌≡◌, ◌⊎◌, ◌≤◌, ℕ, ◌+◌, ◌^◌, List, [], ◌++◌, length, take}
use Rattle.outside_api.specs.Disk.{Files}
use Rattle.outside_api.specs.Link.{Answers, Fits, IsEarlier}
use Rattle.outside_api.specs.Says.{DiskSays, LinkSays}
use Rattle.outside_api.specs.declared.link.Fetched.{Fetched}
use Rattle.outside_api.specs.declared.link.Fetched.TheVariants as fetches
use Rattle.archive_file.specs.Archive.{disk_of as archive_disk_of, used_of}
use Rattle.depot_rows.specs.db_records.declared.change.Change.{Change}
use Rattle.depot_rows.specs.table_changes.Changed.{AllRows, AllFitIn, changed_by, changed_in, rows_of}
use Rattle.disk_journal.specs.Stands.{generation_of_journal}
use Rattle.journal_groups.specs.Causes.{GoesOn}
use Rattle.journal_groups.specs.Groups.{IsGroup, group_text, mark, open_byte}
use Rattle.journal_groups.specs.Reader.{BeginsAt, State}
use Rattle.journal_groups.specs.declared.moved.Moved.{Moved}
use Rattle.journal_groups.specs.declared.moved.Moved.TheVariants as moves
use Rattle.recovery.specs.Pieces.{AreAllGood}
use Rattle.replica_pull.specs.Feed.{IsBadPlace, IsFirstMisfit}
use Rattle.replica_pull.specs.Replica.{beginning}
use Rattle.replica_chain.specs.Copying.{IsAbsent, IsBadContent, named_ends}
use Rattle.replica_chain.specs.Feed.{AreTaken}
use Rattle.replica_chain.specs.declared.fault.NodeFault.{NodeFault}
use Rattle.replica_chain.specs.declared.fault.NodeFault.TheVariants as faults
use Rattle.replica_chain.specs.declared.node.Node.{Node}

-- ---- where a node is

-- what stands before it: its rest, and a piece behind that
abbrev pub with_piece : {D : Type 0} → Node D → List ℕ → State
with_piece node piece = record { left = node.rest ++ piece; at = node.at; number = node.number; records = []; reached = node.at }

-- how many bytes were taken of all generations
abbrev pub taken_of : {D : Type 0} → Node D → ℕ
taken_of node = node.before + node.at + length node.rest

-- it is where it was, with the same rows; what was in doubt may be settled
pub record IsWhereItWas {D : Type 0} (old new : Node D) : Type 0 where
  pub generation : generation_of_journal new.link.journal ≡ generation_of_journal old.link.journal
  pub rows : rows_of new.tables ≡ rows_of old.tables
  pub before : new.before ≡ old.before
  pub at : new.at ≡ old.at
  pub number : new.number ≡ old.number
  pub changes : new.changes ≡ old.changes

-- ---- groups

-- A group was taken, which ends at a place of its generation's text, and committed.
pub record HasTakenGroup {D : Type 0} (old new : Node D) (group : List Change) (end : ℕ) : Type 0 where
  pub generation : generation_of_journal new.link.journal ≡ generation_of_journal old.link.journal
  pub fit : AllFitIn (rows_of old.tables) group
  pub rows : rows_of new.tables ≡ changed_by (rows_of old.tables) group
  pub before : new.before ≡ old.before
  pub at : new.at ≡ end
  pub number : new.number ≡ old.number + 1
  pub changes : new.changes ≡ old.changes + 1

-- Groups were taken from the front of what a reader has left, and committed. What is left then is behind them.
pub record HasTakenGroups {D : Type 0} (old new : Node D) (feed : State) (groups : List (List Change)) (left : State) : Type 0 where
  pub generation : generation_of_journal new.link.journal ≡ generation_of_journal old.link.journal
  pub before : new.before ≡ old.before
  pub are : AreTaken feed (rows_of old.tables) groups left (rows_of new.tables)
  pub at : new.at ≡ left.at
  pub number : new.number ≡ left.number
  pub changes : new.changes ≡ old.changes + length groups

-- ---- what was done

-- A piece was taken: all groups that lie whole in the rest and the piece are committed, so many, and the rest behind them is kept. It may still become one, and its
-- records that are there fit.
pub record HasTakenPiece {D : Type 0} (old new : Node D) (piece : List ℕ) (count : ℕ) : Type 0 where
  pub groups : List (List Change)
  pub left : State
  pub taken : HasTakenGroups old new (with_piece old piece) groups left
  pub count_is : count ≡ length groups
  pub rest : new.rest ≡ left.left
  pub waits : GoesOn left.number left.left
  pub fit : AreAllGood (AllFitIn (rows_of new.tables)) (BeginsAt left.number left.at left.left)

-- A generation was passed: the next one begins, and its counter is one change.
pub record HasPassed {D : Type 0} (old new : Node D) : Type 0 where
  pub generation : generation_of_journal new.link.journal ≡ generation_of_journal old.link.journal + 1
  pub rows : rows_of new.tables ≡ changed_in (rows_of old.tables) (beginning (generation_of_journal old.link.journal + 1))
  pub before : new.before ≡ old.before + old.at
  pub at : new.at ≡ 0
  pub rest : new.rest ≡ []
  pub number : new.number ≡ 1
  pub changes : new.changes ≡ old.changes + 1

-- what a node does with what was fetched
abbrev pub HasMoved : {D : Type 0} → Node D → Node D → Fetched → List ℕ → Moved → Type 0
HasMoved old new (fetches.Bytes n) buffer (moves.Taken bytes changes) = (bytes ≡ n) × HasTakenPiece old new (take n buffer) changes
HasMoved old new fetches.End buffer moves.Nothing = IsWhereItWas old new × (new.rest ≡ old.rest)
HasMoved old new fetches.Next buffer moves.Next = HasPassed old new
HasMoved old new _ buffer _ = ⊥

-- ---- why it stopped

-- A group whose records end at a place can't be taken: at that place is the first record that doesn't fit; or the changes fit, and name contents that aren't
-- those of the archive, or that aren't there. Other faults say nothing of the group.
abbrev pub IsRefused : {D : Type 0} → DiskSays D → (List ℕ → Type 0) → Node D → Node D → List Change → ℕ → NodeFault → Type 0
IsRefused disk_says told old new changes end (faults.BadFeed place) = IsFirstMisfit (AllFitIn (rows_of old.tables)) changes end place
IsRefused disk_says told old new changes end (faults.BadContent at) =
    AllFitIn (rows_of old.tables) changes × ((files : Files) → disk_says.seen (archive_disk_of new.archive) files → IsBadContent (files 0) changes at)
IsRefused disk_says told old new changes end (faults.NoBytes at) =
    AllFitIn (rows_of old.tables) changes × ((bytes : List ℕ) → told bytes → IsAbsent bytes (used_of new.archive) (named_ends changes) at)
IsRefused disk_says told old new changes end faults.LinkFault = ⊥
IsRefused disk_says told old new changes end faults.NoGeneration = ⊥
IsRefused disk_says told old new changes end _ = Unit {0}

-- The next of what is left is this group, whose changes fit.
pub record IsNextGroup (rows : AllRows) (left : State) (changes : List Change) : Type 0 where
  pub behind : List ℕ
  pub is_group : IsGroup changes
  pub text : left.left ≡ mark open_byte ++ (group_text left.number changes ++ behind)
  pub fit : AllFitIn rows changes

-- By a place: of what is left behind the groups that were committed, the next can't be taken there, or names contents that aren't those of the archive or aren't
-- there. Other faults say nothing of what was fetched.
abbrev pub IsStoppedBy : {D : Type 0} → DiskSays D → (List ℕ → Type 0) → Node D → State → NodeFault → Type 0
IsStoppedBy disk_says told new left (faults.BadFeed place) = IsBadPlace (AllFitIn (rows_of new.tables)) left place
IsStoppedBy disk_says told new left (faults.BadContent at) =
    (changes : List Change) × IsNextGroup (rows_of new.tables) left changes × ((files : Files) → disk_says.seen (archive_disk_of new.archive) files → IsBadContent (files 0) changes at)
IsStoppedBy disk_says told new left (faults.NoBytes at) =
    (changes : List Change) × IsNextGroup (rows_of new.tables) left changes × ((bytes : List ℕ) → told bytes → IsAbsent bytes (used_of new.archive) (named_ends changes) at)
IsStoppedBy disk_says told new left faults.LinkFault = ⊥
IsStoppedBy disk_says told new left faults.NoGeneration = ⊥
IsStoppedBy disk_says told new left _ = Unit {0}

-- What a reader has left wasn't taken to its end: some groups at its front are committed.
pub record IsCutShort {D : Type 0} (disk_says : DiskSays D) (told : List ℕ → Type 0) (old new : Node D) (feed : State) (fault : NodeFault) : Type 0 where
  pub groups : List (List Change)
  pub left : State
  pub taken : HasTakenGroups old new feed groups left
  pub why : IsStoppedBy disk_says told new left fault

-- the piece would bring the text taken to 2 ^ 63 bytes
pub record IsTooMuch {D : Type 0} (old new : Node D) (piece : List ℕ) (fault : NodeFault) : Type 0 where
  pub stays : IsWhereItWas old new
  pub fault_is : fault ≡ faults.BadFeed (old.at + length old.rest + length piece)
  pub over : 2 ^ 63 ≤ taken_of old + length piece

-- why a piece wasn't taken, or not to its end
abbrev pub IsUntaken : {D : Type 0} → DiskSays D → (List ℕ → Type 0) → Node D → Node D → List ℕ → NodeFault → Type 0
IsUntaken disk_says told old new piece fault = IsCutShort disk_says told old new (with_piece old piece) fault ⊎ IsTooMuch old new piece fault

-- why the next generation wasn't begun
abbrev pub IsUnpassed : {D : Type 0} → Node D → Node D → NodeFault → Type 0
IsUnpassed old new faults.NoGeneration = IsWhereItWas old new × (generation_of_journal old.link.journal ≡ 4095)
IsUnpassed old new faults.DiskFault = IsWhereItWas old new
IsUnpassed old new faults.Memory = IsWhereItWas old new
IsUnpassed old new _ = ⊥

-- why a node did nothing more with what was fetched
abbrev pub IsStopped : {D : Type 0} → DiskSays D → (List ℕ → Type 0) → Node D → Node D → Fetched → List ℕ → NodeFault → Type 0
IsStopped disk_says told old new (fetches.Bytes n) buffer fault = IsUntaken disk_says told old new (take n buffer) fault
IsStopped disk_says told old new fetches.Next buffer fault = IsUnpassed old new fault
IsStopped disk_says told old new fetches.End buffer fault = ⊥

-- nothing was fetched
abbrev pub IsUnread : {D : Type 0} → Node D → Node D → NodeFault → Type 0
IsUnread old new faults.LinkFault = IsWhereItWas old new
IsUnread old new faults.DiskFault = IsWhereItWas old new
IsUnread old new faults.Memory = IsWhereItWas old new
IsUnread old new _ = ⊥

-- ---- what was fetched

-- What was fetched behind what a node has, of at most 65,536 bytes, stood in the journal that is followed at an earlier moment.
pub record IsFetched {D L : Type 0} (link_says : LinkSays L) (link : L) (node : Node D) (fetched : Fetched) (buffer : List ℕ) : Type 0 where
  pub fits : Fits fetched 65536
  pub answers : (now : List (List ℕ)) → link_says.tells link now → (earlier : List (List ℕ)) × (IsEarlier earlier now × Answers earlier (generation_of_journal node.link.journal) (node.at + length node.rest) fetched buffer)

-- a pull did so with what was fetched
pub record HasFollowed {D L : Type 0} (link_says : LinkSays L) (link : L) (old new : Node D) (moved : Moved) : Type 0 where
  pub fetched : Fetched
  pub buffer : List ℕ
  pub is_fetched : IsFetched link_says link old fetched buffer
  pub has_moved : HasMoved old new fetched buffer moved

-- it did nothing more with what was fetched
pub record HasStopped {D L : Type 0} (disk_says : DiskSays D) (link_says : LinkSays L) (told : List ℕ → Type 0) (link : L) (old new : Node D) (fault : NodeFault) : Type 0 where
  pub fetched : Fetched
  pub buffer : List ℕ
  pub is_fetched : IsFetched link_says link old fetched buffer
  pub is_stopped : IsStopped disk_says told old new fetched buffer fault
