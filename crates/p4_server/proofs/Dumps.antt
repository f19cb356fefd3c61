-- What a dump promises, by how it ends.
use Rattle.std.proofs.Common.{◌≡◌, ◌⊎◌, List, sym, ◌∙◌, inl, inr}
use Rattle.outside_api.specs.Disk.{Files, NoMore}
use Rattle.outside_api.specs.Moments.{LeavesOnly}
use Rattle.outside_api.specs.Says.{DiskSays, SinkSays}
use Rattle.depot_rows.specs.depot_model.Deeds.{Deed}
use Rattle.depot_rows.specs.Standing.{Stand}
use Rattle.recovery.specs.Contents.{HoldWhole}
use Rattle.recovery.specs.Holding.{Hold}
use Rattle.depot_rows.specs.table_changes.Changed.{AllRows}
use Rattle.end_lines.specs.declared.cause.Cause.TheVariants as causes
use Rattle.p4_server.specs.Dump.{IsPrinted, Dumps}
use Rattle.p4_server.specs.Files.{IsStart, DiskOrOutRose, DisksStand, BothSynced}
use Rattle.p4_server.specs.Opening.{IsUnopened}
use Rattle.p4_server.specs.Outside.{After, Before}
use Rattle.p4_server.specs.Telling.{IsUnrun}
use Rattle.p4_server.proofs.Openings.{fault_of_unopened, complete_of_unopened}

module _ {D S K : Type 0} (disk_says : DiskSays D) (sink_says : SinkSays K) (before : Before D K) (after : After D S K) where
  abbrev Rose : Type 0
  Rose = DiskOrOutRose disk_says sink_says before after

  pub dumps_unopened : IsUnopened disk_says sink_says before after
      → Dumps disk_says sink_says before after
  dumps_unopened unopened = record {
    ends = inl unopened;
    fault = λ is. inl (fault_of_unopened disk_says sink_says before after unopened.why is);
    stand = unopened.stand;
    complete = λ d start quiet. inr (complete_of_unopened disk_says sink_says before after unopened.why d start (λ rose. quiet (inl rose)));
  }

  fault_of_printed : (rows : AllRows) → IsPrinted sink_says before.out after.out after.ended rows → after.ended.cause ≡ causes.Fault → Rose
  fault_of_printed rows (inl done) is = let clash : causes.Done ≡ causes.Fault = sym done.0 ∙ is in absurd cc
  fault_of_printed rows (inr (inl failed)) is = inr failed.1
  fault_of_printed rows (inr (inr memory)) is = let clash : causes.Memory ≡ causes.Fault = sym memory ∙ is in absurd cc

  complete_of_printed : (rows : AllRows) → IsPrinted sink_says before.out after.out after.ended rows → ¬ Rose → (after.ended.cause ≡ causes.Done) ⊎ (after.ended.cause ≡ causes.Memory)
  complete_of_printed rows (inl done) quiet = inl done.0
  complete_of_printed rows (inr (inl failed)) quiet = absurd (quiet (inr failed.1))
  complete_of_printed rows (inr (inr memory)) quiet = inr memory

  pub dumps_opened : (rows : AllRows) → IsUnrun after.ended → IsPrinted sink_says before.out after.out after.ended rows
      → ((files : Files) → disk_says.seen before.journal files → Hold files rows) → ((j a : Files) → disk_says.seen before.journal j → disk_says.seen before.archive a → HoldWhole j a rows) → ((d : List Deed) → IsStart disk_says before.journal before.archive d → Stand rows d)
      → BothSynced disk_says before after → NoMore (disk_says.seen before.journal) (disk_says.may_leave after.ended.journal) → NoMore (disk_says.seen before.archive) (disk_says.may_leave after.ended.archive) → LeavesOnly disk_says before.journal after.ended.journal (disk_says.may_leave before.journal) → LeavesOnly disk_says before.archive after.ended.archive (disk_says.may_leave before.archive)
      → DisksStand disk_says before after → Dumps disk_says sink_says before after
  dumps_opened rows unrun printed held whole stand synced journal_images archive_images any_moment archive_any_moment stood = record {
    ends = inr (record {
      unrun = unrun;
      rows = rows;
      held = held;
      whole = whole;
      printed = printed;
      stand = stand;
      synced = synced;
      journal_images = journal_images;
      archive_images = archive_images;
      any_moment = any_moment;
      archive_any_moment = archive_any_moment;
    });
    fault = fault_of_printed rows printed;
    stand = λ other. stood;
    complete = λ d start quiet. complete_of_printed rows printed quiet;
  }
