use Rattle.std.proofs.Common.{◌≡◌, Bool, Option, Some, true, false, sym, ap, ◌∙◌}
use Rattle.std.specs.Prelude.{◌&&◌}
use Rattle.depot_rows.specs.db_records.declared.record.Record.{Record}
use Rattle.depot_rows.specs.depot_model.Arguments.{names}
use Rattle.depot_rows.specs.depot_model.Opened.{opened}
use Rattle.depot_rows.specs.depot_model.Steps.Reverting.{is_selected}
use Rattle.named_files.specs.Sets.{at_head, selected_in}
use Rattle.named_files.proofs.Selection.{row_selected}
use Rattle.shelf_ops.proofs.opened_heads.OpenedHeadsFileSet.is_named.Goals as goal

pub returns-then-not-is_in_change : goal.returns-then-not-is_in_change
returns-then-not-is_in_change c = λ d reads.
    let own = c.args.self.now in
    let caller = own.caller.now in
    let path = c.args.path.now in
    let there = is_selected (Some own.change) (opened d caller.client path) in
    let is : there ≡ false =
    sym (c.is_in_change.ensures ∙ ap (λ (r : Option Record). selected_in (Some own.change) r) (c.in_ok-row.ensures d reads.has_working)
    ∙ row_selected d (Some own.change) (opened d caller.client path)) ∙ c.if-not-is_in_change.true in
    ap (λ (b : Bool). b && names false d caller (at_head c.args.argument.now.spec) path) (sym is)

pub returns : goal.returns
returns c = λ d reads.
    let own = c.args.self.now in
    let caller = own.caller.now in
    let path = c.args.path.now in
    let there = is_selected (Some own.change) (opened d caller.client path) in
    let is : there ≡ true =
    sym (c.is_in_change.ensures ∙ ap (λ (r : Option Record). selected_in (Some own.change) r) (c.in_ok-row.ensures d reads.has_working)
    ∙ row_selected d (Some own.change) (opened d caller.client path)) ∙ c.if-not-is_in_change.false in
    c.in_ok-named.ensures d (record { sound = reads.sound; asked = reads.asked; listed = reads.has_rev; has_domain = reads.has_domain; has_rev = reads.has_rev })
    ∙ ap (λ (b : Bool). b && names false d caller (at_head c.args.argument.now.spec) path) (sym is)
