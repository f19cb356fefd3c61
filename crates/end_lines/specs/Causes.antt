-- How a run ends in which no party was run, by what its files were (the words and the statuses are this project's own choice).
use Rattle.std.specs.Prelude.{ℕ}
use Rattle.recovery.specs.declared.fault.OpenFault.{OpenFault}
use Rattle.recovery.specs.declared.fault.OpenFault.TheVariants.{Unmade, Damaged, DiskFault, Memory}
use Rattle.end_lines.specs.declared.cause.Cause.{Cause}
use Rattle.end_lines.specs.declared.cause.Cause.TheVariants as causes

abbrev pub status_of : Cause → ℕ
status_of causes.Done = 0
status_of causes.Usage = 1
status_of causes.Made = 2
status_of causes.Unmade = 2
status_of (causes.Damaged disk file place) = 2
status_of causes.Script = 3
status_of causes.Fault = 4
status_of causes.Memory = 5

-- the cause of an end whose files weren't opened
abbrev pub cause_by : OpenFault → Cause
cause_by Unmade = causes.Unmade
cause_by (Damaged disk file place) = causes.Damaged disk file place
cause_by DiskFault = causes.Fault
cause_by Memory = causes.Memory
