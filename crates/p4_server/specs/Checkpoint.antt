-- What the mode `checkpoint` promises: it begins the next generation of the files, and asks for no rights (Command-Line Reference, "p4 admin"; that it
-- is the first command of party 0 is this project's own choice).
use Rattle.std.specs.Prelude.{◌≡◌, ◌≢◌, ◌⊎◌, ℕ, Bool, true, false, List, [], ◌∷◌, Option, Some, None}
use Rattle.outside_api.specs.Count.{HasRisen}
use Rattle.outside_api.specs.Disk.{Files}
use Rattle.outside_api.specs.Says.{DiskSays, SinkSays}
use Rattle.outside_api.specs.Told.{extended}
use Rattle.depot_rows.specs.depot_model.Deeds.{Deed}
use Rattle.disk_journal.specs.Images.{generation_of}
use Rattle.recovery.specs.Standing.{StandFor}
use Rattle.depot_checkpoint.specs.Taking.{StandsBeforeOrAfter, checkpointed, next_generation}
use Rattle.replica_turns.specs.Master.{Past}
use Rattle.replica_turns.specs.Written.{IsWrittenAfter}
use Rattle.wire_text.specs.Giving.{GotFront}
use Rattle.end_lines.specs.Lines.{cause_line, generation_line}
use Rattle.end_lines.specs.Telling.{OutGot}
use Rattle.end_lines.specs.declared.cause.Cause.TheVariants as causes
use Rattle.p4_server.specs.declared.ended.Ended.{Ended}
use Rattle.p4_server.specs.Files.{IsStart, EachPair, GoOn, HasOpened, DiskOrOutRose, DiskRose, DisksStand}
use Rattle.p4_server.specs.Opening.{IsUnopened}
use Rattle.p4_server.specs.Outside.{After, Before}
use Rattle.p4_server.specs.Telling.{IsUnrun}

-- The order has one place: that of the first command of party 0, at a moment that the clock may give. No party has an end.
pub record IsPlaced {D S K : Type 0} (may_give : ℕ → Type 0) (ended : Ended D S K) (fault : Bool) : Type 0 where
  pub moment : ℕ
  pub by_clock : may_give moment
  pub order_is : ended.order ≡ record { party = 0; number = 1; moment = moment; fault = fault } ∷ []
  pub parties_are : ended.parties ≡ []
  pub sources_are : ended.sources ≡ []

-- `out` got the line, and all is done; or it failed, which is a fault, and got a front of the line
abbrev pub IsLine : {D S K : Type 0} → SinkSays K → K → K → Ended D S K → List ℕ → Type 0
IsLine sink_says old_out new_out ended line =
    ((ended.cause ≡ causes.Done) × (sink_says.given new_out ≡ extended (sink_says.given old_out) line))
    ⊎ ((ended.cause ≡ causes.Fault) × HasRisen (sink_says.faults old_out) (sink_says.faults new_out) × GotFront (sink_says.given old_out) (sink_says.given new_out) line)

-- a pair of images stands for the depot, or for that depot after the checkpoint
abbrev pub BeforeOrAfter : List Deed → Files → Files → Type 0
BeforeOrAfter d j a = StandsBeforeOrAfter d a j

-- a generation that was begun is one change more
abbrev pub one_if : Option ℕ → ℕ
one_if None = 0
one_if (Some generation) = 1

-- the pair is as it was written before, or with the beginning of the next generation
abbrev pub BeginsOrNot : Past → List Deed → Files → Files → Type 0
BeginsOrNot past d j a = IsWrittenAfter past d [] 0 d j a ⊎ IsWrittenAfter past d [] 1 (checkpointed d) j a

module _ {D S K : Type 0} (disk_says : DiskSays D) (sink_says : SinkSays K) (may_give : ℕ → Type 0) (before : Before D K) (after : After D S K) where
  -- Each pair of images stands by the one; and each image that the journal's disk left at any moment since it was opened, with each image of the archive's
  -- disk, by the other.
  pub record AreKept (opened : D) (Exit AnyMoment : Files → Files → Type 0) : Type 0 where
    pub exit : EachPair disk_says after.ended.journal after.ended.archive Exit
    pub any_moment : (j a : Files) → disk_says.left_since after.ended.journal (disk_says.moment opened) j → disk_says.may_leave after.ended.archive a → AnyMoment j a

  -- The files were opened, and there was no memory for the checkpoint: nothing was done.
  pub record IsUntaken : Type 0 where
    pub cause_is : after.ended.cause ≡ causes.Memory
    pub unrun : IsUnrun after.ended
    pub opened : D
    pub is_opened : HasOpened disk_says before.journal before.archive opened
    pub kept : (d : List Deed) → IsStart disk_says before.journal before.archive d → AreKept opened (StandFor d) (StandFor d)
    pub goes_on : GoOn disk_says before after (λ past d. IsWrittenAfter past d [] 0 d)

  -- The checkpoint has its place, and `out` the line of the generation behind that of the root, which is the limit's exactly behind generation 4,095. The files
  -- stand for the depot after the deeds of `admin checkpoint`, with no rights asked.
  pub record IsTaken : Type 0 where
    pub placed : IsPlaced may_give after.ended false
    pub generation : ℕ
    pub of_root : (files : Files) → disk_says.seen before.journal files → generation_of (files 0) ≡ generation
    pub line : IsLine sink_says before.out after.out after.ended (generation_line (next_generation generation))
    pub opened : D
    pub is_opened : HasOpened disk_says before.journal before.archive opened
    pub kept : (d : List Deed) → IsStart disk_says before.journal before.archive d → AreKept opened (StandFor (checkpointed d)) (BeforeOrAfter d)
    pub goes_on : GoOn disk_says before after (λ past d. IsWrittenAfter past d [] (one_if (next_generation generation)) (checkpointed d))

  -- A disk failed while the generation was begun, and `out` got the line of a fault alone. The place is a fault, and what it would have done is in doubt.
  pub record IsInDoubt : Type 0 where
    pub placed : IsPlaced may_give after.ended true
    pub cause_is : after.ended.cause ≡ causes.Fault
    pub risen : DiskRose disk_says before after
    pub line : OutGot (sink_says.given before.out) (sink_says.given after.out) (sink_says.faults before.out) (sink_says.faults after.out) (cause_line causes.Fault)
    pub opened : D
    pub is_opened : HasOpened disk_says before.journal before.archive opened
    pub kept : (d : List Deed) → IsStart disk_says before.journal before.archive d → AreKept opened (BeforeOrAfter d) (BeforeOrAfter d)
    pub goes_on : GoOn disk_says before after BeginsOrNot

  pub record Checkpoints : Type 0 where
    pub ends : IsUnopened disk_says sink_says before after ⊎ (IsUntaken ⊎ (IsTaken ⊎ IsInDoubt))
    -- A fault comes only where a count of faults rose.
    pub fault : after.ended.cause ≡ causes.Fault → DiskOrOutRose disk_says sink_says before after
    -- A count of the disks rises only where a fault is told.
    pub stand : after.ended.cause ≢ causes.Fault → DisksStand disk_says before after
    -- Where a depot stands in the files and no count rises, all is done, or memory was wanting.
    pub complete : (d : List Deed) → IsStart disk_says before.journal before.archive d → ¬ DiskOrOutRose disk_says sink_says before after
        → (after.ended.cause ≡ causes.Done) ⊎ (after.ended.cause ≡ causes.Memory)
