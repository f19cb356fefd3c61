use Rattle.std.proofs.Common.{◌≡◌, take}
use Rattle.depot_rows.specs.db_records.declared.key.Key.{Key}
use Rattle.depot_rows.specs.table_changes.Changed.{rows_of}
use Rattle.depot_rows.specs.Effects.{effects}
use Rattle.depot_rows.specs.Standing.{row_in}
use Rattle.row_changes.specs.Overlay.{seen}
use Rattle.row_changes.specs.Locking.{AllMayLock}
use Rattle.row_changes.proofs.engine.row_changes.Given as goal

abbrev pub invariant-loop-deed : goal.invariant-loop-deed
invariant-loop-deed l = AllMayLock l.deeds (row_in (rows_of l.tables))
    → (q : Key) → seen l.overlay.touched (row_in (rows_of l.tables)) q ≡ effects (take l.deed-index l.deeds) (row_in (rows_of l.tables)) q
