-- What a replica is promised whose commands are answered beside those of others. This project's own choice.
use Rattle.std.specs.Prelude.{◌≡◌, ◌+◌, ℕ, false, List, length, map, Result}
use mathlib.Core.List.{IsPrefix}
use Rattle.archive_file.specs.Archive as archives
use Rattle.archive_file.specs.declared.archive.Archive.{Archive}
use Rattle.depot_commit.specs.Storing.{AllReach}
use Rattle.depot_rows.specs.depot_model.Deeds.{Deed}
use Rattle.depot_rows.specs.depot_model.declared.request.Request.{Request}
use Rattle.locked_tables.specs.Known.{PartyKnown}
use Rattle.locked_tables.specs.Taken.{of_party, placed_of}
use Rattle.locked_tables.specs.declared.taken.Taken.{Taken}
use Rattle.outside_api.specs.Disk.{Files}
use Rattle.outside_api.specs.Says.{DiskSays}
use Rattle.party_marks.specs.Known.{PassKnown}
use Rattle.party_marks.specs.Marks.{marks_of}
use Rattle.replica_turns.specs.Going.{IsTurned, is_lost, one_if, reply_text}
use Rattle.replica_turns.specs.Replying.{IsAnswered}
use Rattle.replica_turns.specs.declared.party.Answered.{Answered}
use Rattle.replica_turns.specs.declared.party.ReplicaParty.{ReplicaParty}
use Rattle.serial_depot.specs.Running.{HasRun}
use Rattle.depot_commit.specs.command_core.Outcomes.{IsFormedBy}
use Rattle.serial_depot.specs.declared.depot.SerialDepot.{SerialDepot}
use Rattle.shared_depot.specs.Common.{HasAllStored, IsFollowed, Masters}

-- how many marks a party has made
abbrev pub mark_count : PassKnown → ℕ
mark_count known = length (marks_of known.party known.list)

-- a party has one more now just where the answer tells that a disk failed
abbrev pub IsMarkedBy : {E : Type 0} → PassKnown → PassKnown → Result Answered E → Type 0
IsMarkedBy old new answer = mark_count new ≡ mark_count old + one_if (is_lost answer)

module _ {D : Type 0} (disk_says : DiskSays D) (end : ℕ) (images : Files → Type 0) (begins : ℕ → List Deed → Type 0) (masters : Masters) (known : List Taken) where
  -- Over a depot in files that had run all places that the party knows now, from each moment and depot from which it began, and that replicas follow. Where it
  -- isn't said which archive that depot has, since none was asked, it is any in which the contents of these places were stored. All that is used of it is there.
  abbrev pub OverDepot : (SerialDepot D → Type 0) → Type 0
  OverDepot Answers =
      (archive : Archive D) → HasAllStored disk_says end images begins known archive
      → (depot : SerialDepot D) × (((since : ℕ) (start : List Deed) → begins since start → HasRun disk_says depot since start (map placed_of known)) × IsFollowed disk_says begins masters known depot × Answers depot
      × AllReach (disk_says.may_leave (archives.disk_of depot.archive)) (archives.used_of depot.archive))

-- A command of a replica is answered so over any depot, and the answer tells of no failed disk.
pub record IsAnsweredAlone {D E : Type 0} (disk_says : DiskSays D) (request : Request) (replica : ReplicaParty) (answer : Result Answered E) : Type 0 where
  pub answered : (depot : SerialDepot D) → IsFormedBy request → IsAnswered (λ been. been ≡ depot) disk_says replica.replica replica.replica request (reply_text answer request.number) (is_lost answer)
  pub kept : is_lost answer ≡ false

module _ {D E : Type 0} (disk_says : DiskSays D) (end : ℕ) (images : Files → Type 0) (begins : ℕ → List Deed → Type 0) (masters : Masters) (old new : PartyKnown) (old_marks new_marks : PassKnown) where
  -- The party has learnt places, which are others'. It has one mark more just where the answer tells that a disk failed.
  pub record HasHeard (result : Result Answered E) : Type 0 where
    pub party : new.party ≡ old.party
    pub later : IsPrefix old.list new.list
    pub own : of_party old.party new.list ≡ of_party old.party old.list
    pub marks_party : new_marks.party ≡ old_marks.party
    pub marked : IsMarkedBy old_marks new_marks result

  -- A command of a replica was answered over such a depot.
  pub record IsReplicaAnswer (request : Request) (old_replica new_replica : ReplicaParty) (result : Result Answered E) : Type 0 where
    pub answered : OverDepot disk_says end images begins masters new.list (λ depot. IsFormedBy request → IsAnswered (λ been. been ≡ depot) disk_says old_replica.replica new_replica.replica request (reply_text result request.number) (is_lost result))
    pub heard : HasHeard result

  -- A replica's next command was.
  pub record IsReplicaTurn (old_replica new_replica : ReplicaParty) (result : Result Answered E) : Type 0 where
    pub turned : OverDepot disk_says end images begins masters new.list (λ depot. IsTurned disk_says depot old_replica new_replica result)
    pub heard : HasHeard result
