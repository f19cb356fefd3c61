-- A disk that was synced and then only read.
use Rattle.std.proofs.Common.{◌≡◌, ◌∙◌, ap}
use Rattle.outside_api.specs.Disk.{Files, NoMore, Same}
use Rattle.outside_api.specs.Moments.{Passes, started, goes_on, then, weaker}
use Rattle.outside_api.specs.Says.{DiskSays}
use Rattle.depot_rows.specs.db_records.declared.table.TableId.{TableId}
use Rattle.depot_rows.specs.db_records.declared.table.TableId.TheVariants.{Rev}
use Rattle.disk_journal.specs.Images.{Committed}
use Rattle.disk_journal.specs.Stands.{CanBeAdopted}
use Rattle.depot_rows.specs.table_changes.Changed.{AllRows}
use Rattle.recovery.specs.Holding.{HasAllRows, spots_end}
use Rattle.recovery.specs.Looking.{OnlyReads}
use Rattle.recovery.specs.Opening.{HasSynced, LooksOnly}
use Rattle.recovery.specs.Reading.{HasFound}
use Rattle.recovery.specs.declared.depot.Found.{Found}

module _ {D : Type 0} (disk_says : DiskSays D) (old mid new : D) where
  pub synced_then : Same (disk_says.seen old) (disk_says.seen mid) → NoMore (disk_says.seen mid) (disk_says.may_leave mid) → OnlyReads disk_says mid new → HasSynced disk_says old new
  synced_then same durable reads = record {
    same = record { kept = λ f read. reads.same.kept f (same.kept f read); no_more = λ f read. same.no_more f (reads.same.no_more f read) };
    durable = λ f left. reads.same.kept f (durable f (reads.no_more f left));
  }

  pub looks_then : ((c : Files) → disk_says.left_since old (disk_says.moment old) c → disk_says.may_leave old c) → NoMore (disk_says.may_leave old) (disk_says.may_leave mid) → Passes disk_says old mid
      → OnlyReads disk_says mid new → LooksOnly disk_says old new
  looks_then only_now crash time reads = record {
    no_more = λ f left. crash f (reads.no_more f left);
    any_moment =
        then disk_says old mid new (disk_says.may_leave old) (goes_on disk_says old old mid (disk_says.may_leave old) (started disk_says old (disk_says.may_leave old) only_now) time crash)
        (weaker disk_says mid new (disk_says.may_leave mid) (disk_says.may_leave old) crash reads.any_moment);
  }

-- what was read of it and is at rest can be adopted
pub can_adopt : {D : Type 0} (disk_says : DiskSays D) (old new : D) (found : Found) (has : HasFound (disk_says.seen old) found) → HasSynced disk_says old new
    → CanBeAdopted disk_says new found.generation found.end.groups found.end.length has.was
can_adopt disk_says old new found has synced = record {
  generation_is = has.generation;
  last = has.last;
  are_groups = has.are_groups;
  count = has.count;
  length_is = has.long;
  short = has.short;
  each = λ image left. has.at_rest image (synced.same.no_more image (synced.durable image left));
}

-- the same rows
pub same_rows : (was : Committed) (old new : AllRows) → ((table : TableId) → new table ≡ old table) → HasAllRows was old → HasAllRows was new
same_rows was old new same has = record { puts = has.puts; groups = has.groups; are = has.are; fit = has.fit; rows_are = λ table. same table ∙ has.rows_are table }

pub same_end : (old new : AllRows) → ((table : TableId) → new table ≡ old table) → spots_end (new Rev) ≡ spots_end (old Rev)
same_end old new same = ap spots_end (same Rev)
