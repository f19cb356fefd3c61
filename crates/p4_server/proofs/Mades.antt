-- A disk that isn't asked at all only reads.
use Rattle.std.proofs.Common.{◌≡◌, inl, arith}
use Rattle.outside_api.specs.Disk.{Files}
use Rattle.outside_api.specs.Says.{DiskSays}
use Rattle.recovery.specs.Looking.{OnlyReads}
use Rattle.p4_server.specs.Files.{BothOnlyRead}

module _ {D : Type 0} (disk_says : DiskSays D) where
  unasked : ((disk : D) (files : Files) → disk_says.left_since disk (disk_says.moment disk) files → disk_says.may_leave disk files) → (disk : D) → OnlyReads disk_says disk disk
  unasked now disk = record {
    same = record { kept = λ files read. read; no_more = λ files read. read };
    no_more = λ files left. left;
    any_moment = record { later = omega arith; each = now disk; before = λ t files le left. inl left };
  }

  pub both_only_read : ((disk : D) (files : Files) → disk_says.left_since disk (disk_says.moment disk) files → disk_says.may_leave disk files) → (old_journal new_journal old_archive new_archive : D)
      → OnlyReads disk_says old_journal new_journal × (new_archive ≡ old_archive) → BothOnlyRead disk_says old_journal new_journal old_archive new_archive
  both_only_read now old_journal new_journal old_archive new_archive reads =
      record { journal = reads.0; archive = rw reads.1 (unasked now old_archive) }
