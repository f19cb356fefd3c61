-- What the mode `dump` promises: it prints every row, and changes nothing.
use Rattle.std.specs.Prelude.{◌≡◌, ◌≢◌, ◌⊎◌, List}
use Rattle.outside_api.specs.Count.{HasRisen}
use Rattle.outside_api.specs.Disk.{Files, NoMore}
use Rattle.outside_api.specs.Moments.{LeavesOnly}
use Rattle.outside_api.specs.Says.{DiskSays, SinkSays}
use Rattle.outside_api.specs.Told.{extended}
use Rattle.depot_rows.specs.db_records.Table.{all_tables}
use Rattle.depot_rows.specs.depot_model.Deeds.{Deed}
use Rattle.depot_rows.specs.Standing.{Stand}
use Rattle.recovery.specs.Contents.{HoldWhole}
use Rattle.recovery.specs.Holding.{Hold}
use Rattle.depot_rows.specs.table_changes.Changed.{AllRows}
use Rattle.wire_text.specs.Giving.{GotFront}
use Rattle.end_lines.specs.declared.cause.Cause.TheVariants as causes
use Rattle.p4_server.specs.declared.ended.Ended.{Ended}
use Rattle.p4_server.specs.Files.{IsStart, DiskOrOutRose, DisksStand, BothSynced}
use Rattle.p4_server.specs.Opening.{IsUnopened}
use Rattle.p4_server.specs.Outside.{After, Before}
use Rattle.p4_server.specs.Rows.{tables_text}
use Rattle.p4_server.specs.Telling.{IsUnrun}

-- `out` got the text of the rows, or failed and got a front of it, or there was no memory
abbrev pub IsPrinted : {D S K : Type 0} → SinkSays K → K → K → Ended D S K → AllRows → Type 0
IsPrinted sink_says old_out new_out ended rows =
    ((ended.cause ≡ causes.Done) × (sink_says.given new_out ≡ extended (sink_says.given old_out) (tables_text rows all_tables)))
    ⊎ (((ended.cause ≡ causes.Fault) × HasRisen (sink_says.faults old_out) (sink_says.faults new_out) × GotFront (sink_says.given old_out) (sink_says.given new_out) (tables_text rows all_tables))
    ⊎ (ended.cause ≡ causes.Memory))

module _ {D S K : Type 0} (disk_says : DiskSays D) (sink_says : SinkSays K) (before : Before D K) (after : After D S K) where
  -- `out` got the rows that the files hold, which suit them and have their contents; both disks read as before, and whatever a crash leaves is what they read at the start.
  pub record IsDumped : Type 0 where
    pub unrun : IsUnrun after.ended
    pub rows : AllRows
    pub held : (files : Files) → disk_says.seen before.journal files → Hold files rows
    pub whole : (j a : Files) → disk_says.seen before.journal j → disk_says.seen before.archive a → HoldWhole j a rows
    pub printed : IsPrinted sink_says before.out after.out after.ended rows
    pub stand : (d : List Deed) → IsStart disk_says before.journal before.archive d → Stand rows d
    pub synced : BothSynced disk_says before after
    pub journal_images : NoMore (disk_says.seen before.journal) (disk_says.may_leave after.ended.journal)
    pub archive_images : NoMore (disk_says.seen before.archive) (disk_says.may_leave after.ended.archive)
    pub any_moment : LeavesOnly disk_says before.journal after.ended.journal (disk_says.may_leave before.journal)
    pub archive_any_moment : LeavesOnly disk_says before.archive after.ended.archive (disk_says.may_leave before.archive)

  pub record Dumps : Type 0 where
    pub ends : IsUnopened disk_says sink_says before after ⊎ IsDumped
    pub fault : after.ended.cause ≡ causes.Fault → DiskOrOutRose disk_says sink_says before after
    -- A count of the disks rises only where a fault is told.
    pub stand : after.ended.cause ≢ causes.Fault → DisksStand disk_says before after
    -- Where a depot stands in the files and no count rises, all is done, or memory was wanting.
    pub complete : (d : List Deed) → IsStart disk_says before.journal before.archive d → ¬ DiskOrOutRose disk_says sink_says before after
        → (after.ended.cause ≡ causes.Done) ⊎ (after.ended.cause ≡ causes.Memory)
