use Rattle.std.proofs.Common.{ap, ◌∙◌}
use Rattle.std.specs.Prelude.{filter}
use Rattle.depot_rows.specs.db_records.declared.table.TableId.TheVariants as tables
use Rattle.depot_rows.specs.table_changes.Changed.{rows_of}
use Rattle.row_ranges.specs.Ranges.{has_row}
use Rattle.row_ranges.specs.declared.range.KeyRange.TheVariants.{GroupUsers}
use Rattle.row_reads.specs.Groups.{users_in}
use Rattle.row_reads.proofs.groups.users_of.Goals as goal

pub returns : goal.returns
returns c = λ d has.
    let rows = rows_of c.args.tables.now tables.Group in
    c.in_ok-users.ensures ∙ ap (λ group. users_in (filter (has_row (GroupUsers group)) rows)) (c.in_ok-from_bytes.ensures ∙ c.as_bytes.ensures.value)
    ∙ c.rows_list_users.ensures d c.args.group.now has
