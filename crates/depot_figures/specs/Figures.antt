-- The figures of a depot (this project's own choice). A sum ends at the greatest number of 64 bits.
use Rattle.std.specs.Prelude.{ℕ, zero, suc, ◌+◌, min, Bool, false, List, count_by, length, Option, Some, None, is_some, codes, if◌then◌else◌}
use Rattle.std.specs.List.{sum_by}
use Rattle.std.specs.Option.{option_map_or}
use Rattle.depot_rows.specs.depot_path.Bytes.{same}
use Rattle.depot_rows.specs.db_records.declared.rows.ChangeRecord.{ChangeRecord}
use Rattle.depot_rows.specs.depot_model.Arguments.{submitted}
use Rattle.depot_rows.specs.depot_model.Deeds.{Deed}
use Rattle.depot_rows.specs.depot_model.Numbers.{landing, top}
use Rattle.depot_rows.specs.depot_model.Revisions.{Revision, revision, head, is_live_head}

-- ---- changes

abbrev pub is_landed : List Deed → ℕ → Bool
is_landed d n = is_some (landing d n)

-- a row is that of a submitted change
abbrev pub submitted_row : Option ChangeRecord → Bool
submitted_row None = false
submitted_row (Some row) = same row.status (codes "submitted")

-- how many of the first numbers are those of changes that landed
abbrev pub landed_up_to : List Deed → ℕ → ℕ
landed_up_to d zero = 0
landed_up_to d (suc n) = landed_up_to d n + (if is_landed d (suc n) then 1 else 0)

-- the submitted changes
abbrev pub changes_in : List Deed → ℕ
changes_in d = landed_up_to d (top d)

-- ---- files

-- the files that aren't deleted at their newest revision
abbrev pub live_files_in : List Deed → ℕ
live_files_in d = count_by (is_live_head d) (submitted d)

-- the size of a revision's content; a deleted one has none
abbrev pub size_of : Revision → ℕ
size_of r = option_map_or length r.entry.content 0

abbrev pub size_at : List Deed → List ℕ → ℕ → ℕ
size_at d path n = option_map_or size_of (revision d path n) 0

-- the sum of the sizes of a file's first revisions
abbrev pub sizes_up_to : List Deed → List ℕ → ℕ → ℕ
sizes_up_to d path zero = 0
sizes_up_to d path (suc n) = sizes_up_to d path n + size_at d path (suc n)

abbrev pub file_size : List Deed → List ℕ → ℕ
file_size d path = sizes_up_to d path (head d path)

abbrev pub capped : ℕ → ℕ
capped n = min n 18446744073709551615

-- the sum of the sizes of all revisions
abbrev pub bytes_in : List Deed → ℕ
bytes_in d = capped (sum_by (file_size d) (submitted d))
