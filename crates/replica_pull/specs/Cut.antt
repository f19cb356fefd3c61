-- The changes of a group without those of rows that a filter leaves out (Server Administrator Guide, on filtered replicas). Which rows these are is
-- that of the rows of a cut depot.
use Rattle.std.specs.Prelude.{◌≡◌, List, filter_map, if◌then◌else◌, Option, Some, None}
use Rattle.depot_rows.specs.db_records.Record.{key_of}
use Rattle.depot_rows.specs.db_records.declared.change.Change.{Change}
use Rattle.depot_rows.specs.db_records.declared.key.Key.{Key}
use Rattle.depot_rows.specs.table_changes.Changed.{AllRows}
use Rattle.depot_rows.specs.depot_model.declared.filter.FilterRule.{FilterRule}
use Rattle.depot_rows.specs.Cut.{is_left, cut_row, cut_rows}
use Rattle.depot_rows.specs.Standing.{row_in}

-- a change of a row that is left, whose new or old row is cut
abbrev pub cut_change : List FilterRule → Change → Option Change
cut_change rules c = if is_left rules (key_of c.row) then Some (record { op = c.op; row = cut_row rules c.row }) else None

abbrev pub cut_changes : List FilterRule → List Change → List Change
cut_changes rules changes = filter_map (cut_change rules) changes

-- the rows of all tables are other rows cut
abbrev pub AreCut : List FilterRule → AllRows → AllRows → Type 0
AreCut rules whole rows = (key : Key) → row_in rows key ≡ cut_rows rules (row_in whole) key
