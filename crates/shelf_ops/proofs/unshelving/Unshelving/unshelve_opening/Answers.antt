use Rattle.std.proofs.Common.{◌≡◌, ℕ, List, Option, Some, true, false, sym, ap, subst, ◌∙◌}
use Rattle.std.specs.Prelude.{is_none, is_some}
use Rattle.depot_rows.specs.depot_path.declared.revision.Wanted.TheVariants.{Head}
use Rattle.depot_rows.specs.table_changes.Changed.{AllRows, rows_of}
use Rattle.depot_rows.specs.depot_model.Choice.{shown}
use Rattle.depot_rows.specs.depot_model.Deeds.{Deed}
use Rattle.depot_rows.specs.depot_model.Opened.{opened}
use Rattle.depot_rows.specs.depot_model.Steps.Shelving.{unshelve_opening}
use Rattle.depot_rows.specs.Deed.{opening_of}
use Rattle.depot_rows.specs.declared.deed.Opening.{Opening as Done}
use Rattle.reply_rows.specs.Made.{IsMade}
use Rattle.reply_rows.specs.declared.step.Step.{Step}
use Rattle.command_parts.proofs.Refused.{first_told, holding_told, if_ok, none_found, passed_first, passed_if}
use Rattle.shelf_ops.specs.Shelved.{OpenedReads}
use Rattle.shelf_ops.specs.Unshelved.{opens_kept}
use Rattle.shelf_ops.specs.declared.unshelving.Unshelving.{Unshelving}
use Rattle.shelf_ops.proofs.unshelving.Unshelving.unshelve_opening.Goals as goal

abbrev Opens : AllRows → Unshelving → Done → Option (List ℕ) → Step → Type 0
Opens rows own opening block step =
    (d e : List Deed) → OpenedReads own.caller.now own.asker.now rows d → IsMade rows d e (unshelve_opening d own.caller.now (opening_of opening) block) step

pub returns-in-Some : goal.returns-in-Some
returns-in-Some c = if_ok {Q = Opens (rows_of c.args.tables.now) c.args.self.now c.args.opening c.args.block} _ _ c.tells.ensures (λ step told d e reads.
    first_told (rows_of c.args.tables.now) d e _ _ _ _ c.in-Some.row step c.in-Some.is (c.in_ok-row.ensures d c.args.self.now.caller.now reads.asked) told)

pub returns-in_default-2 : goal.returns-in_default-2
returns-in_default-2 c = if_ok {Q = Opens (rows_of c.args.tables.now) c.args.self.now c.args.opening c.args.block} _ _ c.tells-in_default-2.ensures (λ step told d e reads.
    let caller = c.args.self.now.caller.now in
    let rows = rows_of c.args.tables.now in
    let none : is_none (shown d caller Head c.args.opening.path) ≡ true =
    ap is_none (sym (c.in_ok-place.ensures d reads.sound reads.has_domain reads.has_rev (reads.has_rev, tt)) ∙ none_found _ c.in_default-2.not-Some) in
    passed_first rows d e _ _ _ _ step c.in_default.not-Some (c.in_ok-row.ensures d caller reads.asked)
    (holding_told rows d e _ _ _ _ c.in_ok-row-2.row step none c.in_ok-row-2.ensures told))

pub returns-then-branch : goal.returns-then-branch
returns-then-branch c = if_ok {Q = Opens (rows_of c.args.tables.now) c.args.self.now c.args.opening c.args.block} _ _ c.tells-then-branch.ensures (λ step told d e reads.
    let caller = c.args.self.now.caller.now in
    let o = c.args.opening in
    let rows = rows_of c.args.tables.now in
    let place : Some c.in-Some-2.place ≡ shown d caller Head o.path =
    sym c.in-Some-2.is ∙ c.in_ok-place.ensures d reads.sound reads.has_domain reads.has_rev (reads.has_rev, tt) in
    let open_ : is_some (opened d caller.client o.path) ≡ true = sym (c.in_ok-is_opened_by.ensures d reads.has_working) ∙ c.if-branch.true in
    passed_first rows d e _ _ _ _ step c.in_default.not-Some (c.in_ok-row.ensures d caller reads.asked)
    (passed_if rows d e _ _ _ _ step (sym (ap is_none place))
    (holding_told rows d e _ _ _ _ c.in_ok-row-3.row step open_ c.in_ok-row-3.ensures told)))

pub returns-in-Some-3 : goal.returns-in-Some-3
returns-in-Some-3 c = if_ok {Q = Opens (rows_of c.args.tables.now) c.args.self.now c.args.opening c.args.block} _ _ c.tells-in-Some-3.ensures (λ step told d e reads.
    let caller = c.args.self.now.caller.now in
    let o = c.args.opening in
    let rows = rows_of c.args.tables.now in
    let place : Some c.in-Some-2.place ≡ shown d caller Head o.path =
    sym c.in-Some-2.is ∙ c.in_ok-place.ensures d reads.sound reads.has_domain reads.has_rev (reads.has_rev, tt) in
    let shut : is_some (opened d caller.client o.path) ≡ false = sym (c.in_ok-is_opened_by.ensures d reads.has_working) ∙ c.if-branch.false in
    passed_first rows d e _ _ _ _ step c.in_default.not-Some (c.in_ok-row.ensures d caller reads.asked)
    (passed_if rows d e _ _ _ _ step (sym (ap is_none place))
    (passed_if rows d e _ _ _ _ step shut
    (first_told rows d e _ _ _ _ c.in-Some-3.row step c.in-Some-3.is (c.in_ok-row-4.ensures d reads.sound reads.has_working) told))))

pub returns : goal.returns
returns c = if_ok {Q = Opens (rows_of c.args.tables.now) c.args.self.now c.args.opening c.args.block} _ _ c.open_kept.ensures (λ step made d e reads.
    let caller = c.args.self.now.caller.now in
    let o = c.args.opening in
    let rows = rows_of c.args.tables.now in
    let place : Some c.in-Some-2.place ≡ shown d caller Head o.path =
    sym c.in-Some-2.is ∙ c.in_ok-place.ensures d reads.sound reads.has_domain reads.has_rev (reads.has_rev, tt) in
    let shut : is_some (opened d caller.client o.path) ≡ false = sym (c.in_ok-is_opened_by.ensures d reads.has_working) ∙ c.if-branch.false in
    passed_first rows d e _ _ _ _ step c.in_default.not-Some (c.in_ok-row.ensures d caller reads.asked)
    (passed_if rows d e _ _ _ _ step (sym (ap is_none place))
    (passed_if rows d e _ _ _ _ step shut
    (passed_first rows d e _ _ _ _ step c.in_default-3.not-Some (c.in_ok-row-4.ensures d reads.sound reads.has_working)
    (subst (λ (p : Option (List ℕ)). IsMade rows d e (opens_kept (opening_of o) p c.args.block) step) place (made rows d e))))))
