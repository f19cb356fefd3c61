-- What a disk in memory reads, and what a stop may leave of it.
use Rattle.std.specs.Prelude.{◌≡◌, ℕ, length, take}
use Rattle.outside_api.specs.Disk.{Files}
use Rattle.memory_world.specs.Files.{contents}
use Rattle.memory_world.specs.Replay.{State, at_rest, replay, IsImage, IsImageSince}
use Rattle.memory_world.specs.Failing.{Calls, calls_of}
use Rattle.memory_world.specs.declared.disk.MemoryDisk.{MemoryDisk}

-- what each file reads
abbrev pub files_of : MemoryDisk → Files
files_of disk = contents disk.files.items

-- the moment: how many of its calls it has kept
abbrev pub moment_of : MemoryDisk → ℕ
moment_of disk = length disk.log.items

-- what it read after so many calls, and what of it a stop might have left otherwise
abbrev pub state_at : MemoryDisk → ℕ → State
state_at disk moment = replay (take moment disk.log.items) (at_rest (contents disk.start.items))

abbrev pub is_read : MemoryDisk → Files → Type 0
is_read disk c = (f : ℕ) → c f ≡ files_of disk f

abbrev pub may_be_left : MemoryDisk → Files → Type 0
may_be_left disk c = IsImage (replay disk.log.items (at_rest (contents disk.start.items))) c

abbrev pub left_since : MemoryDisk → ℕ → Files → Type 0
left_since disk t c = IsImageSince (contents disk.start.items) disk.log.items t c

abbrev pub disk_faults : MemoryDisk → ℕ
disk_faults disk = disk.failing.faults

-- its calls, and which of them fail
abbrev pub disk_calls : MemoryDisk → Calls
disk_calls disk = calls_of disk.failing
