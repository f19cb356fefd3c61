-- Archives that keep what was used of them.
use Rattle.std.proofs.Common.{◌≡◌, ◌≤◌, sym, subst, arith}
use Rattle.outside_api.specs.Disk.{Files}
use Rattle.outside_api.specs.Moments.{LeavesOnly, started, then, weaker}
use Rattle.outside_api.specs.Says.{DiskSays}
use Rattle.archive_file.specs.Archive.{AllHave, Has, disk_of, end_of, used_of}
use Rattle.archive_file.specs.declared.archive.Archive.{Archive}
use Rattle.depot_rows.specs.db_records.declared.change.Spot.{Spot}
use Rattle.recovery.specs.Looking.{OnlyReads}
use Rattle.replica_chain.specs.Copying.{KeepsContents, KeepsUsed}

module _ {D : Type 0} (disk_says : DiskSays D) where
  -- contents were brought to it, and perhaps they are counted as used
  pub keeps_brought : (old new kept : Archive D) → KeepsUsed disk_says old new → disk_of kept ≡ disk_of new → used_of old ≤ used_of kept → KeepsContents disk_says old kept
  keeps_brought old new kept keeps same used = record {
    below = λ spot bytes le all. subst (λ (disk : D). AllHave (disk_says.may_leave disk) spot bytes) (sym same) (keeps.below spot bytes le all);
    any_moment = λ spot bytes le all. subst (λ (disk : D). LeavesOnly disk_says (disk_of old) disk (λ image. Has (image 0) spot bytes)) (sym same) (keeps.any_moment spot bytes le all);
    used = used;
  }

  -- it was read
  pub keeps_read : (old new : Archive D) → OnlyReads disk_says (disk_of old) (disk_of new) → used_of new ≡ used_of old → KeepsContents disk_says old new
  keeps_read old new reads used = record {
    below = λ spot bytes le all image left. all image (reads.no_more image left);
    any_moment = λ spot bytes le all. weaker disk_says (disk_of old) (disk_of new) (disk_says.may_leave (disk_of old)) (λ image. Has (image 0) spot bytes) all reads.any_moment;
    used = omega (arith, used);
  }

  -- one time after another
  pub keeps_on : (old mid new : Archive D) → KeepsContents disk_says old mid → KeepsContents disk_says mid new → KeepsContents disk_says old new
  keeps_on old mid new first second =
      let used = first.used in
      let within : (spot : Spot) → end_of spot ≤ used_of old → end_of spot ≤ used_of mid = λ spot le. omega (arith, le, used) in
      let more = second.used in
      record {
        below = λ spot bytes le all. second.below spot bytes (within spot le) (first.below spot bytes le all);
        any_moment = λ spot bytes le all.
            then disk_says (disk_of old) (disk_of mid) (disk_of new) (λ image. Has (image 0) spot bytes) (first.any_moment spot bytes le all) (second.any_moment spot bytes (within spot le) (first.below spot bytes le all));
        used = omega (arith, used, more);
      }

  module _ (only_now : (disk : D) (image : Files) → disk_says.left_since disk (disk_says.moment disk) image → disk_says.may_leave disk image) where
    -- it stays as it is
    pub keeps_first : (archive : Archive D) → KeepsContents disk_says archive archive
    keeps_first archive = record {
      below = λ spot bytes le all. all;
      any_moment = λ spot bytes le all. started disk_says (disk_of archive) (λ image. Has (image 0) spot bytes) (λ image left. all image (only_now (disk_of archive) image left));
      used = omega arith;
    }

    pub keeps_same : (old new : Archive D) → new ≡ old → KeepsContents disk_says old new
    keeps_same old new same = subst (KeepsContents disk_says old) (sym same) (keeps_first old)
