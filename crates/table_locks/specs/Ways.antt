-- How a command takes a table of its set. This project's own choice.
use Rattle.std.specs.Prelude.{Bool, not, ◌&&◌, ◌||◌}
use Rattle.command_needs.specs.Sets.{has_table, needs_table}
use Rattle.command_needs.specs.declared.needs.Needs.{Needs}
use Rattle.depot_model.specs.db_records.declared.table.TableId.{TableId}

-- its lock is taken: it is written, or the whole set is taken
abbrev pub holds_table : Bool → Needs → TableId → Bool
holds_table whole needs table = has_table needs.writes table || (whole && has_table needs.reads table)

-- it is only looked at
abbrev pub looks_at : Bool → Needs → TableId → Bool
looks_at whole needs table = needs_table needs table && not (holds_table whole needs table)
