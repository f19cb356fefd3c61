-- What a replica answers to `print`, by its rows and by the bytes of an archive (Server Administrator Guide, on read-only replicas; Helix Core database
-- schema reference, "db.rev"). That the digest of what is printed is looked at, and which place is told of it, is this project's own choice.
use Rattle.std.specs.Prelude.{◌≡◌, ◌≢◌, ◌⊎◌, ◌<◌, ◌≤◌, ◌+◌, ◌^◌, ◌++◌, ◌∷◌, ℕ, List, length, map, IsSome, Some, Result, Ok, Err}
use Rattle.std.specs.List.{AllByRecursion}
use Rattle.outside_api.specs.Count.{HasRisen}
use Rattle.archive_file.specs.Contents.{IsFront}
use Rattle.depot_rows.specs.db_records.declared.key.Key.TheVariants as keys
use Rattle.depot_rows.specs.db_records.declared.record.Record.TheVariants as records
use Rattle.depot_rows.specs.db_records.declared.rows.RevRecord.{RevRecord}
use Rattle.depot_rows.specs.depot_model.Deeds.{Deed}
use Rattle.depot_rows.specs.depot_model.Records.{digest}
use Rattle.depot_rows.specs.depot_model.declared.reply.Row.{Row}
use Rattle.depot_rows.specs.depot_model.declared.request.Request.{Request}
use Rattle.depot_rows.specs.Standing.{Stand, row_in}
use Rattle.depot_rows.specs.table_changes.Changed.{AllRows}
use Rattle.depot_runs.specs.Replica.{replica_reply}
use Rattle.recovery.specs.Contents.{bytes_at}
use Rattle.recovery.specs.Standing.{HasContent}
use Rattle.reply_rows.specs.Made.{waiting}
use Rattle.replica_replies.specs.Prints.{Shows}
use Rattle.replica_answers.specs.declared.printing.PrintFault.{PrintFault}
use Rattle.replica_answers.specs.declared.printing.PrintFault.TheVariants.{Absent, BadContent, Failed, Memory}

-- ---- what is given

-- the row of db.rev of the revision that a row of a reply shows
pub record IsRowOf (all : AllRows) (row : Row) (revision : RevRecord) : Type 0 where
  pub file : List ℕ
  pub rev : ℕ
  pub small : rev < 2 ^ 32
  pub shows : Shows row file rev
  pub there : row_in all (keys.Rev file rev) ≡ Some (records.Rev revision)

-- the content has the digest of that row
pub record IsDigested (all : AllRows) (row : Row) (content : List ℕ) : Type 0 where
  pub revision : RevRecord
  pub is : IsRowOf all row revision
  pub digested : revision.digest ≡ digest content

-- so has each content of a reply
abbrev pub AreDigested : AllRows → List Row → Type 0
AreDigested all rows = AllByRecursion (λ (row : Row). (content : List ℕ) → row.content ≡ Some content → IsDigested all row content) rows

-- the content has it, and stands in these bytes of an archive at the spot of that row
pub record IsGiven (all : AllRows) (bytes : List ℕ) (row : Row) (content : List ℕ) : Type 0 where
  pub revision : RevRecord
  pub is : IsRowOf all row revision
  pub digested : revision.digest ≡ digest content
  pub there : HasContent bytes revision content

-- if a row has a content, it is so
abbrev pub IsGivenIn : AllRows → List ℕ → Row → Type 0
IsGivenIn all bytes row = (content : List ℕ) → row.content ≡ Some content → IsGiven all bytes row content

-- so is each content of a reply
abbrev pub AreGiven : AllRows → List ℕ → List Row → Type 0
AreGiven all bytes rows = AllByRecursion (IsGivenIn all bytes) rows

-- The rows of a reply are those of a replica's whose depot is this one, but for what their contents are.
abbrev pub AreRowsOf : List Deed → Request → List Row → Type 0
AreRowsOf d request rows = map waiting rows ≡ map waiting (replica_reply d request)

-- ---- what isn't

-- the spot of a revision ends behind these bytes of an archive
abbrev pub EndsBehind : List ℕ → RevRecord → Type 0
EndsBehind bytes revision = length bytes < revision.at + revision.length

-- or the bytes at it have another digest
abbrev pub IsBadIn : List ℕ → RevRecord → Type 0
IsBadIn bytes revision = EndsBehind bytes revision ⊎ (revision.digest ≢ digest (bytes_at bytes revision))

-- the revision that a row of a reply shows has a spot that begins at this place, and is such a one
pub record IsUnfit (all : AllRows) (row : Row) (IsSuch : RevRecord → Type 0) (at : ℕ) : Type 0 where
  pub revision : RevRecord
  pub is : IsRowOf all row revision
  pub place : at ≡ revision.at
  pub such : IsSuch revision

-- why the content of a row isn't given, by bytes of an archive
abbrev pub IsFaultOf : AllRows → List ℕ → Row → PrintFault → Type 0
IsFaultOf all bytes row (Absent at) = IsUnfit all row (EndsBehind bytes) at
IsFaultOf all bytes row (BadContent at) = IsUnfit all row (IsBadIn bytes) at
IsFaultOf all bytes row Failed = Unit {0}
IsFaultOf all bytes row Memory = Unit {0}

-- Of some rows that wait for contents one waits for a content that isn't given for this reason, by bytes of an archive, and those before it, which stand here
-- with theirs, don't.
pub record IsFirstFault (all : AllRows) (bytes : List ℕ) (rows : List Row) (fault : PrintFault) : Type 0 where
  pub before : List Row
  pub row : Row
  pub after : List Row
  pub are : map waiting rows ≡ map waiting (before ++ row ∷ after)
  pub given : AreGiven all bytes before
  pub waits : IsSome row.content
  pub fault_is : IsFaultOf all bytes row fault

-- The first row of the reply that waits for a content that these bytes of an archive haven't shows such a revision, whose spot begins at this place.
pub record IsLacking (all : AllRows) (request : Request) (bytes : List ℕ) (IsSuch : RevRecord → Type 0) (at : ℕ) : Type 0 where
  pub before : List Row
  pub row : Row
  pub after : List Row
  pub are : (d : List Deed) → Stand all d → AreRowsOf d request (before ++ row ∷ after)
  pub given : AreGiven all bytes before
  pub waits : IsSome row.content
  pub unfit : IsUnfit all row IsSuch at

-- these bytes of an archive haven't a content that the reply shows, which would begin at the place
abbrev pub IsBadPrint : AllRows → Request → List ℕ → ℕ → Type 0
IsBadPrint all request bytes at = IsLacking all request bytes (IsBadIn bytes) at

-- why a reply isn't given, by bytes of an archive
abbrev pub IsPrintFault : AllRows → Request → List ℕ → PrintFault → Type 0
IsPrintFault all request bytes (Absent at) = IsLacking all request bytes (EndsBehind bytes) at
IsPrintFault all request bytes (BadContent at) = IsBadPrint all request bytes at
IsPrintFault all request bytes Failed = Unit {0}
IsPrintFault all request bytes Memory = Unit {0}

-- ---- answers

-- what brings the contents has come from these bytes to some that begin with them, of which this holds
abbrev pub GrowsTo : (List ℕ → Type 0) → List ℕ → (List ℕ → Type 0) → Type 0
GrowsTo Tells before P = (now : List ℕ) × (Tells now × (IsFront before now × P now))

-- What is answered is this, unless what brings the contents has failed or no memory was left.
abbrev pub Gives : {T : Type 0} → (T → Type 0) → Result T PrintFault → Type 0
Gives P (Ok x) = P x
Gives P (Err Failed) = Unit {0}
Gives P (Err Memory) = Unit {0}
Gives P (Err (Absent at)) = ⊥
Gives P (Err (BadContent at)) = ⊥

-- the count stands but where what brings the contents has failed
abbrev pub StandsUnlessFailed : {T : Type 0} → ℕ → ℕ → Result T PrintFault → Type 0
StandsUnlessFailed before now (Err Failed) = Unit {0}
StandsUnlessFailed before now _ = now ≡ before

-- what brings the contents has failed only where its count has risen
pub record HasPrintCause {T : Type 0} (before now : ℕ) (result : Result T PrintFault) : Type 0 where
  pub never_falls : before ≤ now
  pub risen : result ≡ Err Failed → HasRisen before now
