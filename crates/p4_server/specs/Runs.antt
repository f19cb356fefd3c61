-- What a mode promises that runs parties: the headline, from each depot that the files stood for.
use Rattle.std.specs.Prelude.{◌≡◌, ◌⊎◌, ◌≤◌, ◌+◌, ℕ, Bool, true, List, [], length, map, All, Any, IsSomeAnd, Option, None}
use Rattle.std.specs.List.{sum}
use Rattle.outside_api.specs.Count.{HasRisen}
use Rattle.outside_api.specs.Disk.{Files}
use Rattle.depot_rows.specs.depot_model.Deeds.{Deed}
use Rattle.depot_rows.specs.depot_model.Places.{Placed}
use Rattle.depot_runs.specs.Run.{placed}
use Rattle.replica_turns.specs.Master.{Past}
use Rattle.replica_turns.specs.Written.{AreWritten, Leave, PairGoesOn}
use Rattle.session_loop.specs.Asking.{asking_of}
use Rattle.session_loop.specs.Served.{AreCaused, HaveRisenBy, fault_count}
use Rattle.end_lines.specs.declared.cause.Cause.{Cause}
use Rattle.end_lines.specs.declared.cause.Cause.TheVariants as causes
use Rattle.p4_server.specs.declared.ended.PartyEnd.{PartyEnd}
use Rattle.p4_server.specs.declared.party.NotRun.{NotRun}
use Rattle.p4_server.specs.declared.party.NotRun.TheVariants.{Doors, Memory}
use Rattle.p4_server.specs.Ends.{run_of}
use Rattle.p4_server.specs.Files.{IsStart, EachPair, GoOn, HasOpened, PairIsKept, DiskRose, DisksStand}
use Rattle.p4_server.specs.Headline.{AreEnds, AreRepliesTold, IsHeadline, Ordering}
use Rattle.p4_server.specs.Opening.{IsUnopened}
use Rattle.p4_server.specs.Outside.{After, Before, Outside}
use Rattle.p4_server.specs.Parties.{OnlyTheseCome}
use Rattle.p4_server.specs.Telling.{IsToldAlone, IsTold, IsUntold}

-- the cause of an end whose parties weren't run
abbrev pub unrun_cause : NotRun → Cause
unrun_cause Doors = causes.Fault
unrun_cause Memory = causes.Memory

-- the script of a name, where its input is told, is whole
abbrev pub IsWhole : Option (List ℕ) → Type 0
IsWhole input = IsSomeAnd input (λ bytes. (asking_of bytes).fault ≡ None)

module _ {D S K H : Type 0} (outside : Outside D S K H) (old_doors new_doors : H) (before : Before D K) (after : After D S K) (IsOrdered : Ordering) (names : List (List ℕ)) where
  -- a count of the doors, of `out`, of a disk, of a party's source or of a party's sink has risen
  abbrev pub SomeRose : Type 0
  SomeRose =
      HasRisen (outside.doors.faults old_doors) (outside.doors.faults new_doors)
      ⊎ (HasRisen (outside.sink.faults before.out) (outside.sink.faults after.out)
      ⊎ (DiskRose outside.disk before after
      ⊎ (Any (λ source. HasRisen 0 (outside.source.faults source)) after.ended.sources
      ⊎ Any (λ party. HasRisen 0 (outside.sink.faults party.sink)) after.ended.parties)))

  -- After these places, from that depot on, each pair of images is kept for all of them; and each image that the journal's disk left at any moment since it
  -- was opened, with each image of the archive's disk, for some of the first.
  pub record AreKept (opened : D) (d : List Deed) (places : List Placed) : Type 0 where
    pub exit : EachPair outside.disk after.ended.journal after.ended.archive (PairIsKept d places (length places))
    pub any_moment : (j a : Files) → outside.disk.left_since after.ended.journal (outside.disk.moment opened) j → outside.disk.may_leave after.ended.archive a → (k : ℕ) × (k ≤ length places) × PairIsKept d places k j a

  -- The files weren't opened, and no door was asked.
  pub record IsClosed : Type 0 where
    pub unopened : IsUnopened outside.disk outside.sink before after
    pub doors_stay : new_doors ≡ old_doors

  -- A door failed, or there was no memory for the scripts or for the turns: nothing was run.
  pub record IsShut : Type 0 where
    pub told : IsToldAlone outside.sink before.out after.out after.ended
    pub why : ((after.ended.cause ≡ causes.Fault) × HasRisen (outside.doors.faults old_doors) (outside.doors.faults new_doors)) ⊎ (after.ended.cause ≡ causes.Memory)
    pub opened : D
    pub is_opened : HasOpened outside.disk before.journal before.archive opened
    pub kept : (d : List Deed) → IsStart outside.disk before.journal before.archive d → AreKept opened d []
    pub goes_on : GoOn outside.disk before after (λ past d. PairGoesOn past d [])

  -- the headline from that depot on, how its order came about, and what the files hold after the places of the order
  pub record IsRunKept (opened : D) (lost : Bool) (parties : List (PartyEnd K)) (sources : List S) (d : List Deed) : Type 0 where
    pub headline : IsHeadline outside.disk outside.source outside.sink outside.may_give (outside.disk.moment opened) d (outside.doors.input old_doors) (outside.doors.output old_doors) names after.ended.order lost parties sources
    pub ordered : IsOrdered headline.sessions headline.replicas d after.ended.order headline.turn_counts (map run_of parties)
    -- where the files stood as they were written, the replies of replicas are those for numbers of changes
    pub told : (past : Past) → AreWritten outside.disk before.journal before.archive past
        → AreRepliesTold outside.disk outside.source outside.sink outside.may_give (outside.disk.moment opened) d past (outside.doors.output old_doors) names headline.sessions headline.replicas after.ended.order headline.turn_counts parties
    -- Fault places and replies of replicas that say that a disk failed are together at most as many as the counts of the two disks rose.
    pub failures : HaveRisenBy (fault_count after.ended.order + sum headline.losses) (outside.disk.faults before.journal) (outside.disk.faults after.ended.journal) (outside.disk.faults before.archive) (outside.disk.faults after.ended.archive)
    pub kept : AreKept opened d (map (placed headline.sessions) after.ended.order)
    -- and it goes on from what was done before
    pub goes_on : (past : Past) → AreWritten outside.disk before.journal before.archive past → Leave outside.disk after.ended.journal after.ended.archive (PairGoesOn past d (map (placed headline.sessions) after.ended.order))

  -- The parties were run, and told; where there was no memory to tell them, their ends are lacking.
  pub record IsRun : Type 0 where
    pub parties : List (PartyEnd K)
    pub sources : List S
    pub ends : AreEnds outside.source outside.sink (outside.doors.input old_doors) names parties sources
    pub opened : D
    pub is_opened : HasOpened outside.disk before.journal before.archive opened
    -- whether a replica was answered that a disk failed, which comes only where one has failed
    pub lost : Bool
    pub lost_rose : lost ≡ true → DiskRose outside.disk before after
    pub run : (d : List Deed) → IsStart outside.disk before.journal before.archive d → IsRunKept opened lost parties sources d
    -- A commit fails, and a content can't be read or stored, only where a disk has failed: there are at most as many fault places as the counts of the
    -- two disks rose together.
    pub fault_places : AreCaused (outside.disk.faults before.journal) (outside.disk.faults after.ended.journal) (outside.disk.faults before.archive) (outside.disk.faults after.ended.archive) [] after.ended.order
    pub told : ((after.ended.parties ≡ parties) × (after.ended.sources ≡ sources) × IsTold outside.sink before.out after.out after.ended lost) ⊎ IsUntold after.ended

  pub record RunsParties : Type 0 where
    pub ends : IsClosed ⊎ (IsShut ⊎ IsRun)
    -- Only the doors of the names come.
    pub doors : OnlyTheseCome (outside.doors.input old_doors) (outside.doors.output old_doors) (outside.doors.input new_doors) (outside.doors.output new_doors) names
    -- A fault comes only where a count of faults rose.
    pub fault : after.ended.cause ≡ causes.Fault → SomeRose
    -- Where all is done, or a script has a fault and nothing failed, no count of the disks rose.
    pub stand : (after.ended.cause ≡ causes.Done) ⊎ (after.ended.cause ≡ causes.Script) → DisksStand outside.disk before after
    -- Where a depot stands in the files, each script is whole and no count rises, all is done, or memory was wanting.
    pub complete : (d : List Deed) → IsStart outside.disk before.journal before.archive d → All (λ name. IsWhole (outside.doors.input old_doors name)) names → ¬ SomeRose → (after.ended.cause ≡ causes.Done) ⊎ (after.ended.cause ≡ causes.Memory)
