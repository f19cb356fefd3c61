-- The lines that tell the end of a run in which no party was run.
use Rattle.std.specs.Prelude.{ℕ, List, [], ◌++◌, Option, Some, None, codes, decimal}
use Rattle.recovery.specs.declared.fault.DepotDisk.{DepotDisk}
use Rattle.recovery.specs.declared.fault.DepotDisk.TheVariants.{Journal, Archive}
use Rattle.end_lines.specs.declared.cause.Cause.{Cause}
use Rattle.end_lines.specs.declared.cause.Cause.TheVariants as causes

abbrev pub disk_word : DepotDisk → List ℕ
disk_word Journal = codes "journal"
disk_word Archive = codes "archive"

-- `damaged DISK FILE PLACE`
abbrev pub damage_words : List ℕ → List ℕ → List ℕ → List ℕ
damage_words disk file place = codes "damaged " ++ (disk ++ (codes " " ++ (file ++ (codes " " ++ (place ++ codes "\n")))))

abbrev pub damage_line : DepotDisk → ℕ → ℕ → List ℕ
damage_line disk file place = damage_words (disk_word disk) (decimal file) (decimal place)

-- `usage`, `made`, `unmade`, `damaged DISK FILE PLACE` or `fault`
abbrev pub cause_line : Cause → List ℕ
cause_line causes.Usage = codes "usage\n"
cause_line causes.Made = codes "made\n"
cause_line causes.Unmade = codes "unmade\n"
cause_line (causes.Damaged disk file place) = damage_line disk file place
cause_line causes.Fault = codes "fault\n"
cause_line causes.Done = []
cause_line causes.Script = []
cause_line causes.Memory = []

-- `journal N` for the generation that a checkpoint began, or `limit generation 4095` where there is none behind the last one
abbrev pub generation_line : Option ℕ → List ℕ
generation_line (Some generation) = codes "journal " ++ (decimal generation ++ codes "\n")
generation_line None = codes "limit generation 4095\n"
