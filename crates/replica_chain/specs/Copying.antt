-- The contents that changes name, how they are copied, and what is said of the faults of copying and of checking them. This project's own choice.
use Rattle.std.specs.Prelude.{◌≡◌, ◌≢◌, ◌≤◌, ◌<◌, ℕ, ◌+◌, ◌-◌, ◌^◌, IsTrue, List, [], ◌∷◌, ◌++◌, length, max, min, take, Result}
use Rattle.std.specs.List.{AllByRecursion}
use Rattle.std.specs.Result.{IfErr}
use Rattle.outside_api.specs.Disk.{Files, StillTells}
use Rattle.outside_api.specs.Moments.{LeavesOnly}
use Rattle.outside_api.specs.Says.{DiskSays}
use Rattle.archive_file.specs.Archive.{AllHave, Has, disk_of, end_of, used_of}
use Rattle.archive_file.specs.Contents.{IsFront}
use Rattle.archive_file.specs.declared.archive.Archive.{Archive}
use Rattle.depot_rows.specs.db_records.Record.{is_live}
use Rattle.depot_rows.specs.db_records.declared.change.Change.{Change}
use Rattle.depot_rows.specs.db_records.declared.change.Op.{Op}
use Rattle.depot_rows.specs.db_records.declared.change.Op.TheVariants.{Remove}
use Rattle.depot_rows.specs.db_records.declared.change.Spot.{Spot}
use Rattle.depot_rows.specs.db_records.declared.record.Record.{Record}
use Rattle.depot_rows.specs.db_records.declared.record.Record.TheVariants.{Rev}
use Rattle.depot_rows.specs.db_records.declared.rows.RevRecord.{RevRecord}
use Rattle.depot_rows.specs.depot_model.Records.{digest}
use Rattle.recovery.specs.Contents.{HasDigested, bytes_at}
use Rattle.recovery.specs.Holding.{spot_end}
use Rattle.replica_chain.specs.Node.{AllReach, HasFrontTo}
use Rattle.replica_chain.specs.declared.fault.NodeFault.{NodeFault}
use Rattle.replica_chain.specs.declared.fault.NodeFault.TheVariants.{ContentsFailed, DiskFault, BadContent, NoBytes, Memory}

-- ---- what changes name

-- a change puts or replaces the record of this revision
pub record IsOfRevision (change : Change) (row : RevRecord) : Type 0 where
  pub is : change.row ≡ Rev row
  pub stays : change.op ≢ Remove

-- the revision has a content
pub record IsOfContent (change : Change) (row : RevRecord) : Type 0 where
  pub of_revision : IsOfRevision change row
  pub live : IsTrue (is_live change.row)

-- where the spot ends that a change names, 0 where it names none
abbrev pub named_end : Op → Record → ℕ
named_end Remove row = 0
named_end _ row = spot_end row

-- where the last spot ends that changes name
abbrev pub named_ends : List Change → ℕ
named_ends [] = 0
named_ends (change ∷ changes) = max (named_end change.op change.row) (named_ends changes)

-- a file has the content that a change names
abbrev pub HasNamed : List ℕ → Change → Type 0
HasNamed file change = (row : RevRecord) → IsOfContent change row → HasDigested file row

abbrev pub HasAllNamed : List ℕ → List Change → Type 0
HasAllNamed file changes = AllByRecursion (HasNamed file) changes

-- ---- archives

-- An archive keeps what lies below the end of what is used of it, at every moment, and that end stays.
pub record KeepsUsed {D : Type 0} (disk_says : DiskSays D) (old new : Archive D) : Type 0 where
  pub below : (spot : Spot) (bytes : List ℕ) → end_of spot ≤ used_of old → AllHave (disk_says.may_leave (disk_of old)) spot bytes → AllHave (disk_says.may_leave (disk_of new)) spot bytes
  pub any_moment : (spot : Spot) (bytes : List ℕ) → end_of spot ≤ used_of old → AllHave (disk_says.may_leave (disk_of old)) spot bytes → LeavesOnly disk_says (disk_of old) (disk_of new) (λ image. Has (image 0) spot bytes)
  pub tells : StillTells (disk_says.seen (disk_of old)) (disk_says.seen (disk_of new))
  pub used : used_of new ≡ used_of old

-- An archive keeps what lies below the end of what was used of it, at every moment, and no less of it is used.
pub record KeepsContents {D : Type 0} (disk_says : DiskSays D) (old new : Archive D) : Type 0 where
  pub below : (spot : Spot) (bytes : List ℕ) → end_of spot ≤ used_of old → AllHave (disk_says.may_leave (disk_of old)) spot bytes → AllHave (disk_says.may_leave (disk_of new)) spot bytes
  pub any_moment : (spot : Spot) (bytes : List ℕ) → end_of spot ≤ used_of old → AllHave (disk_says.may_leave (disk_of old)) spot bytes → LeavesOnly disk_says (disk_of old) (disk_of new) (λ image. Has (image 0) spot bytes)
  pub used : used_of old ≤ used_of new

-- Bytes were brought up to a place: the images of an archive, which had the same ones as far as it is used, have the same ones up to there; and where the first
-- of them were those that are told, so are these.
pub record AreCopied {D : Type 0} (disk_says : DiskSays D) (told_before told_now : List ℕ → Type 0) (old new : Archive D) (place : ℕ) : Type 0 where
  pub reach : AllReach (disk_says.may_leave (disk_of new)) (max (used_of old) place)
  pub same : (before : List ℕ) → HasFrontTo (disk_says.may_leave (disk_of old)) (used_of old) before →
      (now : List ℕ) × (IsFront (take (used_of old) before) now × HasFrontTo (disk_says.may_leave (disk_of new)) (max (used_of old) place) now)
  pub told : (before : List ℕ) → told_before before → HasFrontTo (disk_says.may_leave (disk_of old)) (used_of old) before →
      (now : List ℕ) × (told_now now × (IsFront before now × HasFrontTo (disk_says.may_leave (disk_of new)) (max (used_of old) place) now))

-- An archive keeps what lay below the end of what was used of it. Where its images had the same bytes up to there, they have the same ones as far as it is used
-- now; and where the first of them were those that are told, so are these.
pub record IsFilled {D : Type 0} (disk_says : DiskSays D) (told_before told_now : List ℕ → Type 0) (old new : Archive D) : Type 0 where
  pub keeps : KeepsContents disk_says old new
  pub tells : StillTells (disk_says.seen (disk_of old)) (disk_says.seen (disk_of new))
  pub small : used_of new < 2 ^ 63
  pub reach : AllReach (disk_says.may_leave (disk_of new)) (used_of new)
  pub same : (before : List ℕ) → HasFrontTo (disk_says.may_leave (disk_of old)) (used_of old) before →
      (now : List ℕ) × (IsFront (take (used_of old) before) now × HasFrontTo (disk_says.may_leave (disk_of new)) (used_of new) now)
  pub told : (before : List ℕ) → told_before before → HasFrontTo (disk_says.may_leave (disk_of old)) (used_of old) before →
      (now : List ℕ) × (told_now now × (IsFront before now × HasFrontTo (disk_says.may_leave (disk_of new)) (used_of new) now))

-- Below the end of what is used of it an archive has the contents that changes name, where its disk tells what it reads.
pub record AreBrought {D : Type 0} (disk_says : DiskSays D) (archive : Archive D) (changes : List Change) : Type 0 where
  pub within : named_ends changes ≤ used_of archive
  pub named : (files : Files) → disk_says.seen (disk_of archive) files → HasAllNamed (files 0) changes

-- ---- why they aren't had

-- The first of the contents that changes name, at its spot in the file, that has another digest.
pub record IsBadContent (file : List ℕ) (changes : List Change) (at : ℕ) : Type 0 where
  pub front : List Change
  pub change : Change
  pub after : List Change
  pub row : RevRecord
  pub parts : changes ≡ front ++ change ∷ after
  pub is : IsOfContent change row
  pub place : at ≡ row.at
  pub other : row.digest ≢ digest (bytes_at file row)
  pub good : HasAllNamed file front

-- The piece at this place, from the one place on and before the other, isn't all there.
pub record IsAbsent (bytes : List ℕ) (from end at : ℕ) : Type 0 where
  pub behind : from ≤ at
  pub before : at < end
  pub absent : length bytes < at + min (end - at) 8388608

-- ---- faults

-- what holds of the place that tells that bytes aren't there
abbrev pub AtNoBytes : (ℕ → Type 0) → NodeFault → Type 0
AtNoBytes P (NoBytes place) = P place
AtNoBytes P _ = Unit {0}

abbrev pub IfNoBytes : {X : Type 0} → Result X NodeFault → (ℕ → Type 0) → Type 0
IfNoBytes result P = IfErr result (AtNoBytes P)

-- what holds of the place that tells that a content has another digest
abbrev pub AtBadContent : (ℕ → Type 0) → NodeFault → Type 0
AtBadContent P (BadContent place) = P place
AtBadContent P _ = Unit {0}

abbrev pub IfBadContent : {X : Type 0} → Result X NodeFault → (ℕ → Type 0) → Type 0
IfBadContent result P = IfErr result (AtBadContent P)

-- the faults of copying
abbrev pub IsOfCopying : NodeFault → Type 0
IsOfCopying ContentsFailed = Unit {0}
IsOfCopying (NoBytes place) = Unit {0}
IsOfCopying DiskFault = Unit {0}
IsOfCopying Memory = Unit {0}
IsOfCopying _ = ⊥

-- and of checking
abbrev pub IsOfContents : NodeFault → Type 0
IsOfContents (BadContent place) = Unit {0}
IsOfContents DiskFault = Unit {0}
IsOfContents Memory = Unit {0}
IsOfContents _ = ⊥

-- of both
abbrev pub IsOfBringing : NodeFault → Type 0
IsOfBringing ContentsFailed = Unit {0}
IsOfBringing (NoBytes place) = Unit {0}
IsOfBringing (BadContent place) = Unit {0}
IsOfBringing DiskFault = Unit {0}
IsOfBringing Memory = Unit {0}
IsOfBringing _ = ⊥
