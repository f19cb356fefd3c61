-- Rows without those of a range. This project's own choice.
use Rattle.std.specs.Prelude.{List, [], ◌∷◌, if◌then◌else◌, None}
use Rattle.depot_rows.specs.db_records.declared.key.Key.{Key}
use Rattle.depot_rows.specs.depot_model.Rules.{Rows}
use Rattle.depot_rows.specs.Effects.{put_at}
use Rattle.row_ranges.specs.declared.range.KeyRange.{KeyRange}
use Rattle.row_ranges.specs.Ranges.{is_in}
use Rattle.row_changes.specs.Overlay.{Touched, Becomes}

-- the first keys, as long as they are in the range
abbrev pub leading : KeyRange → List Key → List Key
leading range [] = []
leading range (key ∷ keys) = if is_in range key then key ∷ leading range keys else []

-- the rows without those of the range
abbrev pub emptied : KeyRange → Rows → Rows
emptied range before key = if is_in range key then None else before key

-- the rows without those of the keys
abbrev pub removed : List Key → Rows → Rows
removed [] before = before
removed (key ∷ keys) before = removed keys (put_at key None before)

abbrev pub Removes : List Key → Touched → Touched → Type 0
Removes gone old new = (rows : Rows) → Becomes rows (removed gone) old new
