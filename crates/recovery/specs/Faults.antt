-- What the faults of opening say.
use Rattle.std.specs.Prelude.{◌≡◌, ◌≢◌, ℕ, Result, Ok, Err}
use Rattle.archive_file.specs.declared.archive.ContentFault.{ContentFault}
use Rattle.archive_file.specs.declared.archive.ContentFault.TheVariants as content_faults
use Rattle.recovery.specs.declared.fault.DepotDisk.{DepotDisk}
use Rattle.recovery.specs.declared.fault.DepotDisk.TheVariants.{Journal, Archive}
use Rattle.recovery.specs.declared.fault.OpenFault.{OpenFault}
use Rattle.recovery.specs.declared.fault.OpenFault.TheVariants.{Unmade, Damaged, DiskFault, Memory}

-- why a content can't be given, as a fault of opening
abbrev pub unread_as : ContentFault → OpenFault
unread_as content_faults.DiskFault = DiskFault
unread_as content_faults.Memory = Memory

-- a fault that says nothing of what the files read
abbrev pub SaysNothing : OpenFault → Type 0
SaysNothing DiskFault = Unit {0}
SaysNothing Memory = Unit {0}
SaysNothing _ = ⊥

-- damage of this file of the journal's disk, or a fault that says nothing
abbrev pub IsOfFile : ℕ → OpenFault → Type 0
IsOfFile file (Damaged Journal found place) = found ≡ file
IsOfFile file (Damaged Archive found place) = ⊥
IsOfFile file Unmade = ⊥
IsOfFile file _ = Unit {0}

-- damage of the archive's file, or a fault that says nothing
abbrev pub IsOfArchive : OpenFault → Type 0
IsOfArchive (Damaged Archive found place) = found ≡ 0
IsOfArchive (Damaged Journal found place) = ⊥
IsOfArchive Unmade = ⊥
IsOfArchive _ = Unit {0}

-- what holds of the place of a damage, where one is answered
abbrev pub IfDamaged : {X : Type 0} → Result X OpenFault → (ℕ → Type 0) → Type 0
IfDamaged (Err (Damaged disk file place)) P = P place
IfDamaged _ P = Unit {0}

-- what a fault tells of a damage is so
abbrev pub Tells : (DepotDisk → ℕ → ℕ → Type 0) → OpenFault → Type 0
Tells P (Damaged disk file place) = P disk file place
Tells P _ = Unit {0}

-- it was read so, or the fault says nothing of what the files read
abbrev pub IsReadOrSaysNothing : {X : Type 0} → Result X OpenFault → (X → Type 0) → Type 0
IsReadOrSaysNothing (Ok x) P = P x
IsReadOrSaysNothing (Err fault) P = SaysNothing fault

-- there are no files, or the fault says nothing of what they read
abbrev pub IsUnmadeOrSaysNothing : {X : Type 0} → Result X OpenFault → Type 0
IsUnmadeOrSaysNothing (Ok x) = ⊥
IsUnmadeOrSaysNothing (Err Unmade) = Unit {0}
IsUnmadeOrSaysNothing (Err fault) = SaysNothing fault

-- unless the answer is that a disk has failed
abbrev pub UnlessFault : {X : Type 0} → Result X OpenFault → Type 0 → Type 0
UnlessFault (Ok x) P = P
UnlessFault (Err fault) P = fault ≢ DiskFault → P
