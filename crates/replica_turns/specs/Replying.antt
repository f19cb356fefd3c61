-- What a replica among the parties of a run answers to one command, and when (Server Administrator Guide, on replicas that answer from their own rows). That
-- a replica follows by a command of its own is this project's own choice.
use Rattle.std.specs.Prelude.{◌≡◌, ◌≢◌, ◌⊎◌, ℕ, Bool, true, false, IsTrue, List, [], ◌∷◌, Result, Ok, Err}
use Rattle.outside_api.specs.Link.{Answers}
use Rattle.outside_api.specs.Says.{DiskSays}
use Rattle.outside_api.specs.declared.link.Fetched.{Fetched}
use Rattle.archive_file.specs.Contents.{IsTold}
use Rattle.journal_groups.specs.declared.moved.Moved.{Moved}
use Rattle.depot_rows.specs.table_changes.Changed.{rows_of}
use Rattle.depot_rows.specs.depot_model.Deeds.{Deed}
use Rattle.depot_rows.specs.depot_model.Printed.{printed}
use Rattle.depot_rows.specs.depot_model.Refusals.{refusal_row}
use Rattle.depot_rows.specs.depot_model.Rows.{disk_row, memory_row}
use Rattle.depot_rows.specs.depot_model.declared.command.Command.{Command}
use Rattle.depot_rows.specs.depot_model.declared.command.Command.TheVariants.{Pull}
use Rattle.depot_rows.specs.depot_model.declared.refusal.Refusal.TheVariants.{BadArchive}
use Rattle.depot_rows.specs.depot_model.declared.reply.Row.{Row}
use Rattle.depot_rows.specs.depot_model.declared.request.Request.{Request}
use Rattle.depot_rows.specs.depot_model.declared.request.WordFault.{WordFault}
use Rattle.depot_runs.specs.Replica.{position_row, replica_reply}
use Rattle.depot_rows.specs.Standing.{Stand}
use Rattle.recovery.specs.Standing.{HasContents}
use Rattle.replica_answers.specs.Printing.{AreDigested, AreGiven, AreRowsOf, IsBadPrint}
use Rattle.replica_pull.specs.Replica.{HasMoved, IsStopped}
use Rattle.replica_pull.specs.declared.fault.PullFault.{PullFault}
use Rattle.replica_pull.specs.declared.fault.PullFault.TheVariants.{Memory}
use Rattle.replica_pull.specs.declared.replica.Replica.{Replica}
use Rattle.replica_replies.specs.Prints.{prints}
use Rattle.depot_commit.specs.Fetching.{HasTexts}
use Rattle.serial_depot.specs.declared.depot.SerialDepot.{SerialDepot}

-- ---- pull

abbrev pub is_pull : Command → Bool
is_pull Pull = true
is_pull _ = false

abbrev pub pulls : Result Command WordFault → Bool
pulls (Ok command) = is_pull command
pulls (Err fault) = false

-- The replica took what was fetched, passed to the next generation, or found nothing; or, where what was fetched can't be taken, it stays as it was. Want of
-- memory is no such cause.
abbrev pub Follows : Replica → Replica → Fetched → List ℕ → Type 0
Follows old new fetched piece = ((moved : Moved) × HasMoved old new fetched piece moved) ⊎ ((new ≡ old) × (fault : PullFault) × (fault ≢ Memory) × IsStopped old fetched piece fault)

-- Of these texts the replica took at least one byte, or it passed to the next generation, or all of the text of its generation was taken.
pub record HasPulledOf (texts : List (List ℕ)) (old new : Replica) : Type 0 where
  pub fetched : Fetched
  pub piece : List ℕ
  pub moved : Moved
  pub answers : Answers texts old.generation old.at fetched piece
  pub has : HasMoved old new fetched piece moved

-- Of a depot there was fetched where the replica awaited its next piece, as the committed texts of its journal are; the replica followed, and the reply
-- is its position after it.
pub record IsPulled {D : Type 0} (HasBeen : SerialDepot D → Type 0) (disk_says : DiskSays D) (old new : Replica) (number : ℕ) (text : List ℕ) : Type 0 where
  pub depot : SerialDepot D
  pub been : HasBeen depot
  pub fetched : Fetched
  pub piece : List ℕ
  pub answers : (texts : List (List ℕ)) → HasTexts disk_says depot.journal texts → Answers texts old.generation old.at fetched piece
  pub follows : Follows old new fetched piece
  pub reply : text ≡ printed (position_row new.generation new.changes ∷ []) number

-- the same, or the journal's disk failed, and the replica is as it was
abbrev pub IsPullAnswer : {D : Type 0} → (SerialDepot D → Type 0) → DiskSays D → Replica → Replica → ℕ → List ℕ → Bool → Type 0
IsPullAnswer HasBeen disk_says old new number text true = (new ≡ old) × (text ≡ printed (disk_row ∷ []) number)
IsPullAnswer HasBeen disk_says old new number text false = IsPulled HasBeen disk_says old new number text

-- ---- other commands

-- a command that prints contents, which it reads in the archive
abbrev pub reads_archive : Request → Bool
reads_archive request = prints request.command

-- Of a `print`, whatever the archive has: its rows are a replica's for each depot for which the replica's rows stand, but for what their contents are, and each
-- content has the digest of the revision that its row shows, and is what the archive tells at the spot of that revision.
pub record IsDigestedReply {D : Type 0} (disk_says : DiskSays D) (depot : SerialDepot D) (replica : Replica) (request : Request) (text : List ℕ) : Type 0 where
  pub rows : List Row
  pub is : text ≡ printed rows request.number
  pub are : (d : List Deed) → Stand (rows_of replica.tables) d → AreRowsOf d request rows
  pub digested : AreDigested (rows_of replica.tables) rows
  pub given : (bytes : List ℕ) → IsTold disk_says depot.archive bytes → AreGiven (rows_of replica.tables) bytes rows

-- The reply is a replica's for each depot for which its rows stand, and, where it prints contents, whose contents are at their spots in the archive of a depot
-- of the run.
pub record IsReplied {D : Type 0} (HasBeen : SerialDepot D → Type 0) (disk_says : DiskSays D) (replica : Replica) (request : Request) (text : List ℕ) : Type 0 where
  pub depot : SerialDepot D
  pub been : HasBeen depot
  pub reply : (d : List Deed) → Stand (rows_of replica.tables) d
      → (IsTrue (prints request.command) → (bytes : List ℕ) × IsTold disk_says depot.archive bytes × HasContents bytes (rows_of replica.tables) d)
      → text ≡ printed (replica_reply d request) request.number
  pub digested : IsTrue (prints request.command) → IsDigestedReply disk_says depot replica request text

-- The archive of a depot of the run hasn't the content of a revision that a `print` shows: its spot ends behind what is used of it, or the bytes there have
-- another digest. The reply is the place where the first such content would begin.
pub record IsBadReply {D : Type 0} (HasBeen : SerialDepot D → Type 0) (disk_says : DiskSays D) (replica : Replica) (request : Request) (text : List ℕ) : Type 0 where
  pub prints_it : IsTrue (prints request.command)
  pub depot : SerialDepot D
  pub been : HasBeen depot
  pub at : ℕ
  pub reply : text ≡ printed (refusal_row (BadArchive at) ∷ []) request.number
  pub bad : (bytes : List ℕ) → IsTold disk_says depot.archive bytes → IsBadPrint (rows_of replica.tables) request bytes at

-- one of these, or the archive's disk failed for a `print`
abbrev pub IsReply : {D : Type 0} → (SerialDepot D → Type 0) → DiskSays D → Replica → Request → List ℕ → Bool → Type 0
IsReply HasBeen disk_says replica request text true = IsTrue (prints request.command) × (text ≡ printed (disk_row ∷ []) request.number)
IsReply HasBeen disk_says replica request text false = IsReplied HasBeen disk_says replica request text ⊎ IsBadReply HasBeen disk_says replica request text

-- ---- any command

-- A command was answered: `pull`, or another, which leaves the replica as it was. Whether the reply tells that a disk failed.
abbrev pub IsAnsweredAs : {D : Type 0} → (SerialDepot D → Type 0) → DiskSays D → Replica → Replica → Request → List ℕ → Bool → Bool → Type 0
IsAnsweredAs HasBeen disk_says old new request text lost true = IsPullAnswer HasBeen disk_says old new request.number text lost
IsAnsweredAs HasBeen disk_says old new request text lost false = (new ≡ old) × IsReply HasBeen disk_says old request text lost

abbrev pub IsAnsweredBy : {D : Type 0} → (SerialDepot D → Type 0) → DiskSays D → Replica → Replica → Request → List ℕ → Bool → Type 0
IsAnsweredBy HasBeen disk_says old new request text lost = IsAnsweredAs HasBeen disk_says old new request text lost (pulls request.command)

-- no memory was left for it, and the replica is as it was
pub record IsWithoutMemory (old new : Replica) (request : Request) (text : List ℕ) (lost : Bool) : Type 0 where
  pub same : new ≡ old
  pub reply : text ≡ printed (memory_row ∷ []) request.number
  pub kept : lost ≡ false

abbrev pub IsAnswered : {D : Type 0} → (SerialDepot D → Type 0) → DiskSays D → Replica → Replica → Request → List ℕ → Bool → Type 0
IsAnswered HasBeen disk_says old new request text lost = IsAnsweredBy HasBeen disk_says old new request text lost ⊎ IsWithoutMemory old new request text lost
