-- What the places of an order say of the archive, and which disk failed at those of a fault. This project's own choice.
use Rattle.std.specs.Prelude.{◌&&◌, ℕ, Bool, not, List, [], ◌∷◌, ◌++◌, if◌then◌else◌}
use Rattle.locked_tables.specs.Taken.{archive_lane}
use Rattle.locked_tables.specs.declared.taken.Taken.{Taken}
use Rattle.order_words.specs.Lanes.{has_lane}
use Rattle.outside_api.specs.Disk.{Files}
use Rattle.depot_commit.specs.Storing.{HasStored, stores_end}

-- ---- contents

-- those that the places stored, one after another
abbrev pub stores_of : List Taken → List (List ℕ)
stores_of [] = []
stores_of (taken ∷ order) = (if has_lane taken.lanes archive_lane then taken.stores else []) ++ stores_of order

-- the images that the archive's disk might leave when none was stored, with those of an order behind them
abbrev pub images_after : (Files → Type 0) → ℕ → List Taken → Files → Type 0
images_after images end order = HasStored images end (stores_of order)

-- where these end
abbrev pub stored_end : ℕ → List Taken → ℕ
stored_end end order = stores_end (stores_of order) end

-- ---- faults

-- a disk failed at a place, and it was the archive's
abbrev pub is_lost : Taken → Bool
is_lost taken = taken.fault && (has_lane taken.lanes archive_lane && taken.lost)

-- or the journal's
abbrev pub is_unwritten : Taken → Bool
is_unwritten taken = taken.fault && not (has_lane taken.lanes archive_lane && taken.lost)
