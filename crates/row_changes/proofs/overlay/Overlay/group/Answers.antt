use Rattle.std.proofs.Common.{◌≡◌, ap, ◌∙◌}
use Rattle.depot_rows.specs.table_changes.Changed.{rows_of}
use Rattle.depot_rows.specs.depot_model.Rules.{Rows}
use Rattle.depot_rows.specs.Standing.{row_in}
use Rattle.row_ranges.specs.declared.range.KeyRange.{KeyRange}
use Rattle.row_ranges.specs.declared.range.KeyRange.TheVariants.{GroupUsers}
use Rattle.row_changes.specs.Overlay.{seen}
use Rattle.row_changes.specs.Ranges.{emptied}
use Rattle.row_changes.specs.Users.{with_users}
use Rattle.row_changes.proofs.Ended.{users-grouped}
use Rattle.row_changes.proofs.overlay.Overlay.group.Goals as goal

pub returns : goal.returns
returns c =
    let rows : Rows = row_in (rows_of c.args.tables.now) in
    let before : Rows = seen c.args.self.now.touched rows in
    let range : GroupUsers c.in_ok-from_bytes.field-0 ≡ GroupUsers c.args.group.now = λ i. GroupUsers ((c.in_ok-from_bytes.ensures ∙ c.as_bytes.ensures.value) i) in
    let cleared : seen c.empty.new.self.touched rows ≡ emptied (GroupUsers c.args.group.now) before = λ i q. (c.in_ok-empty.ensures q ∙ ap (λ (r : KeyRange). emptied r before q) range) i in
    λ q. c.in_ok-put_users.ensures rows q ∙ (λ i. with_users c.args.group.now (c.as_slice.ensures i) (cleared i) q) ∙ users-grouped c.args.group.now c.args.users.now before q
