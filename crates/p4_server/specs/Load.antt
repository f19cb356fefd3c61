-- What the mode `load` promises: it makes the files where there are none, runs the script of a seed and a number of steps as the session of party 1, and
-- prints the figures of the depot after it (this project's own choice).
use Rattle.std.specs.Prelude.{◌≡◌, ◌≢◌, ◌⊎◌, ◌≤◌, ℕ, ◌==◌, List, [], ◌∷◌, length, map, Option, if◌then◌else◌}
use Rattle.outside_api.specs.Count.{HasRisen}
use Rattle.outside_api.specs.Disk.{Files, StillTells}
use Rattle.outside_api.specs.Says.{DiskSays, SinkSays}
use Rattle.outside_api.specs.Told.{extended}
use Rattle.depot_figures.specs.Figures.{bytes_in, changes_in, live_files_in}
use Rattle.depot_rows.specs.depot_model.Deeds.{Deed}
use Rattle.depot_rows.specs.depot_model.Order.{IsOrder}
use Rattle.depot_rows.specs.depot_model.Places.{Placed, taken}
use Rattle.depot_rows.specs.depot_model.declared.order.Place.{Place}
use Rattle.depot_runs.specs.Run.{placed}
use Rattle.depot_rows.specs.depot_model.Commands.{step}
use Rattle.load_script.specs.Lines.{lines_of}
use Rattle.load_script.specs.Script.{script_of}
use Rattle.load_script.specs.declared.lines.LoadFigures.{LoadFigures}
use Rattle.load_session.specs.Loading.{IsAskedBy, load_session, numbers_from}
use Rattle.recovery.specs.Standing.{StandFor}
use Rattle.replica_turns.specs.Master.{Past}
use Rattle.replica_turns.specs.Written.{AreWritten, Leave, PairGoesOn, WasWritten, nothing_done}
use Rattle.session_loop.specs.Asking.{commands_of}
use Rattle.session_loop.specs.Served.{AreCaused}
use Rattle.wire_text.specs.Giving.{GotFront}
use Rattle.wire_text.specs.declared.script.ScriptEnd.{ScriptEnd}
use Rattle.wire_text.specs.declared.script.ScriptEnd.TheVariants.{Whole, Fault, ReadFault}
use Rattle.end_lines.specs.Lines.{cause_line}
use Rattle.end_lines.specs.Telling.{OutGot}
use Rattle.end_lines.specs.declared.cause.Cause.{Cause}
use Rattle.end_lines.specs.declared.cause.Cause.TheVariants as causes
use Rattle.p4_server.specs.Ends.{has_fault_place}
use Rattle.p4_server.specs.Files.{IsStart, EachPair, GoOn, HasOpened, PairIsKept, DiskOrOutRose, DiskRose, DisksStand, BothOnlyRead}
use Rattle.p4_server.specs.Init.{HasOnlyMade}
use Rattle.p4_server.specs.Opening.{IsUnopened}
use Rattle.p4_server.specs.Outside.{After, Before}
use Rattle.p4_server.specs.Telling.{IsToldAlone}

-- the commands of the script
abbrev pub load_commands : ℕ → ℕ → ℕ
load_commands seed count = length (commands_of (load_session seed count))

-- the depot after places of the script's commands
abbrev pub depot_after : ℕ → ℕ → List Deed → List Place → List Deed
depot_after seed count d order = taken step d (map (placed (load_session seed count ∷ [])) order)

-- the figures of a depot: the commands of the script, the submitted changes, the live files, and the sum of the revisions' sizes
abbrev pub figures_in : ℕ → List Deed → LoadFigures
figures_in commands d = record { commands = commands; changes = changes_in d; files = live_files_in d; bytes = bytes_in d }

-- The cause to which the places and the end of the script lead: a command without a place found no memory, and a fault of the outside counts before one of
-- the script.
abbrev pub end_cause : ScriptEnd → Cause
end_cause Whole = causes.Done
end_cause (Fault fault) = causes.Script
end_cause ReadFault = causes.Fault

abbrev pub load_cause : ℕ → ScriptEnd → List Place → Cause
load_cause commands end order = if length order == commands then (if has_fault_place order then causes.Fault else end_cause end) else causes.Memory

-- `out` got the lines of these figures; or it failed, which is a fault, and got a front of them
abbrev pub IsFigured : Cause → Option (List ℕ) → Option (List ℕ) → ℕ → ℕ → LoadFigures → Type 0
IsFigured cause before now faults_before faults_now figures =
    ((cause ≡ causes.Done) × (now ≡ extended before (lines_of figures)))
    ⊎ ((cause ≡ causes.Fault) × HasRisen faults_before faults_now × GotFront before now (lines_of figures))

-- The figures were given, or there was no memory for them.
abbrev pub GivesFigures : Cause → Option (List ℕ) → Option (List ℕ) → ℕ → ℕ → (LoadFigures → Type 0) → Type 0
GivesFigures cause before now faults_before faults_now are =
    ((figures : LoadFigures) × are figures × IsFigured cause before now faults_before faults_now figures) ⊎ (cause ≡ causes.Memory)

-- What the program tells: the figures where each command has a place, no place is a fault and the script is whole, and else the line of the cause.
abbrev pub IsLoadTold : Option (List ℕ) → Option (List ℕ) → ℕ → ℕ → (LoadFigures → Type 0) → Cause → Cause → Type 0
IsLoadTold before now faults_before faults_now are cause causes.Done = GivesFigures cause before now faults_before faults_now are
IsLoadTold before now faults_before faults_now are cause led = (cause ≡ led) × OutGot before now faults_before faults_now (cause_line led)

module _ {D S K : Type 0} (disk_says : DiskSays D) (sink_says : SinkSays K) (may_give : ℕ → Type 0) (before : Before D K) (after : After D S K) (seed count : ℕ) where
  -- After these places, from that depot on, each pair of images is kept for all of them; and each image that the journal's disk left at any moment since it
  -- was opened, with each image of the archive's disk, for some of the first.
  pub record AreKept (opened : D) (d : List Deed) (places : List Placed) : Type 0 where
    pub exit : EachPair disk_says after.ended.journal after.ended.archive (PairIsKept d places (length places))
    pub any_moment : (j a : Files) → disk_says.left_since after.ended.journal (disk_says.moment opened) j → disk_says.may_leave after.ended.archive a → (k : ℕ) × (k ≤ length places) × PairIsKept d places k j a

  -- There was no memory for the script: nothing was run.
  pub record IsUnloaded : Type 0 where
    pub told : IsToldAlone sink_says before.out after.out after.ended
    pub cause_is : after.ended.cause ≡ causes.Memory
    pub opened : D
    pub is_opened : HasOpened disk_says before.journal before.archive opened
    pub kept : (d : List Deed) → IsStart disk_says before.journal before.archive d → AreKept opened d []
    pub goes_on : GoOn disk_says before after (λ past d. PairGoesOn past d [])

  -- The places of the order, from that depot on: they are of the script's commands, each of which has its place unless there was no memory, in turn; the
  -- files are kept for them, and go on from what was done before.
  pub record IsLoadKept (opened : D) (d : List Deed) : Type 0 where
    pub places : IsOrder may_give (load_commands seed count ∷ []) after.ended.order
    pub each : after.ended.cause ≢ causes.Memory → map (λ place. place.number) after.ended.order ≡ numbers_from 1 (load_commands seed count)
    pub kept : AreKept opened d (map (placed (load_session seed count ∷ [])) after.ended.order)
    pub goes_on : (past : Past) → AreWritten disk_says before.journal before.archive past → Leave disk_says after.ended.journal after.ended.archive (PairGoesOn past d (map (placed (load_session seed count ∷ [])) after.ended.order))

  -- the figures are those of the depot after the places, whatever the depot at the start
  abbrev pub AreFigures : LoadFigures → Type 0
  AreFigures figures = (d : List Deed) → IsStart disk_says before.journal before.archive d → figures ≡ figures_in (load_commands seed count) (depot_after seed count d after.ended.order)

  -- The script was run as the session of party 1.
  pub record IsLoadRun : Type 0 where
    pub end : ScriptEnd
    pub read : IsAskedBy (script_of seed count) (load_session seed count) end
    pub opened : D
    pub is_opened : HasOpened disk_says before.journal before.archive opened
    pub run : (d : List Deed) → IsStart disk_says before.journal before.archive d → IsLoadKept opened d
    -- A commit fails, and a content can't be read or stored, only where a disk has failed: there are at most as many fault places as the counts of the
    -- two disks rose together.
    pub fault_places : AreCaused (disk_says.faults before.journal) (disk_says.faults after.ended.journal) (disk_says.faults before.archive) (disk_says.faults after.ended.archive) [] after.ended.order
    pub told : IsLoadTold (sink_says.given before.out) (sink_says.given after.out) (sink_says.faults before.out) (sink_says.faults after.out) AreFigures after.ended.cause (load_cause (load_commands seed count) end after.ended.order)

  -- Over files that are there: they weren't opened, or there was no memory for the script, or it was run.
  pub record LoadsFiles : Type 0 where
    pub ends : IsUnopened disk_says sink_says before after ⊎ (IsUnloaded ⊎ IsLoadRun)
    pub no_parties : (after.ended.parties ≡ []) × (after.ended.sources ≡ [])
    pub no_usage : after.ended.cause ≢ causes.Usage
    -- A fault comes only where a count rose.
    pub fault : after.ended.cause ≡ causes.Fault → DiskOrOutRose disk_says sink_says before after
    -- Where all is done no count of the disks rose.
    pub stand : after.ended.cause ≡ causes.Done → DisksStand disk_says before after
    -- Where a depot stands in the files, the steps are at most a million and no count rises, all is done, or memory was wanting.
    pub complete : (d : List Deed) → IsStart disk_says before.journal before.archive d → count ≤ 1000000 → ¬ DiskOrOutRose disk_says sink_says before after → (after.ended.cause ≡ causes.Done) ⊎ (after.ended.cause ≡ causes.Memory)

module _ {D : Type 0} (disk_says : DiskSays D) (old_journal old_archive journal archive : D) where
  -- The root wasn't empty, and nothing is touched.
  pub record WereThere : Type 0 where
    pub was_there : (files : Files) → disk_says.seen old_journal files → length (files 0) ≢ 0
    pub untouched : BothOnlyRead disk_says old_journal journal old_archive archive

  -- The root was empty, and whatever a crash leaves stands for the empty depot, and was written from the first change on. Where the disks told what they read
  -- they still do.
  pub record WereMade : Type 0 where
    pub journal_told : StillTells (disk_says.seen old_journal) (disk_says.seen journal)
    pub archive_told : StillTells (disk_says.seen old_archive) (disk_says.seen archive)
    pub was_empty : (files : Files) → disk_says.seen old_journal files → length (files 0) ≡ 0
    pub empty : EachPair disk_says journal archive (StandFor [])
    pub written : EachPair disk_says journal archive (WasWritten nothing_done)

module _ {D S K : Type 0} (disk_says : DiskSays D) (sink_says : SinkSays K) (may_give : ℕ → Type 0) (before : Before D K) (after : After D S K) (seed count : ℕ) where
  -- A disk failed before the files were there: nothing was run, and the disks are as making leaves them.
  pub record IsUnbegun : Type 0 where
    pub told : IsToldAlone sink_says before.out after.out after.ended
    pub cause_is : after.ended.cause ≡ causes.Fault
    pub risen : DiskRose disk_says before after
    pub disks : HasOnlyMade disk_says before.journal after.ended.journal before.archive after.ended.archive (after.ended.cause ≡ causes.Fault)

  -- The files were there or were made, and the script was run over them.
  pub record IsBegun : Type 0 where
    pub made_journal : D
    pub made_archive : D
    pub files : WereThere disk_says before.journal before.archive made_journal made_archive ⊎ WereMade disk_says before.journal before.archive made_journal made_archive
    pub counts : (disk_says.faults before.journal ≤ disk_says.faults made_journal) × (disk_says.faults before.archive ≤ disk_says.faults made_archive)
    pub loads : LoadsFiles disk_says sink_says may_give (record { journal = made_journal; archive = made_archive; out = before.out }) after seed count

  pub record Loads : Type 0 where
    pub ends : IsUnbegun ⊎ IsBegun
    pub no_usage : after.ended.cause ≢ causes.Usage
    -- A fault comes only where a count rose.
    pub fault : after.ended.cause ≡ causes.Fault → DiskOrOutRose disk_says sink_says before after
    -- Where all is done no count of the disks rose.
    pub stand : after.ended.cause ≡ causes.Done → DisksStand disk_says before after
    -- Where a depot stands in the files that are there, the steps are at most a million and no count rises, all is done, or memory was wanting.
    pub complete : (d : List Deed) → IsStart disk_says before.journal before.archive d → count ≤ 1000000
        → ¬ DiskOrOutRose disk_says sink_says before after
        → (after.ended.cause ≡ causes.Done) ⊎ (after.ended.cause ≡ causes.Memory)
