use Rattle.std.proofs.Common.{◌≡◌, ℕ, List, Option, Some, true, false, refl, sym, ap, subst, ◌∙◌}
use Rattle.std.specs.Prelude.{not}
use Rattle.depot_rows.specs.table_changes.Changed.{AllRows, rows_of}
use Rattle.depot_rows.specs.depot_model.Deeds.{Deed}
use Rattle.depot_rows.specs.depot_model.Opened.{opened}
use Rattle.depot_rows.specs.depot_model.Steps.Shelving.{is_shelvable, shelve_opening}
use Rattle.depot_rows.specs.depot_model.Steps.Submitting.{lacks_content}
use Rattle.depot_rows.specs.Deed.{opening_of}
use Rattle.depot_rows.specs.declared.deed.Opening.{Opening as Done}
use Rattle.depot_rows.proofs.Locks.{opened-is}
use Rattle.reply_rows.specs.Made.{IsMade}
use Rattle.reply_rows.specs.declared.step.Step.{Step}
use Rattle.command_parts.proofs.Refused.{first_told, holding_told, if_ok, passed_first, passed_if}
use Rattle.shelf_ops.specs.Shelved.{OpenedReads, keeping}
use Rattle.shelf_ops.specs.declared.shelving.Shelving.{Shelving}
use Rattle.shelf_ops.proofs.shelving.Shelving.shelve_opening.Goals as goal

abbrev Keeps : AllRows → Shelving → Done → Step → Type 0
Keeps rows own opening step =
    (d e : List Deed) (path : List ℕ) → OpenedReads own.request.now.caller own.asker.now rows d → opened d own.request.now.caller.client path ≡ Some (opening_of opening)
    → IsMade rows d e (shelve_opening d own.request.now own.replaces (opening_of opening)) step

pub returns-in-Some : goal.returns-in-Some
returns-in-Some c = if_ok {Q = Keeps (rows_of c.args.tables.now) c.args.self.now c.args.opening.now} _ _ c.tells.ensures (λ step told d e path reads is.
    first_told (rows_of c.args.tables.now) d e _ _ _ _ c.in-Some.row step c.in-Some.is (c.in_ok-row.ensures d c.args.self.now.request.now.caller reads.asked) told)

pub returns-then-not-is_shelvable : goal.returns-then-not-is_shelvable
returns-then-not-is_shelvable c = if_ok {Q = Keeps (rows_of c.args.tables.now) c.args.self.now c.args.opening.now} _ _ c.tells-then-not-is_shelvable.ensures (λ step told d e path reads is.
    let rows = rows_of c.args.tables.now in
    let unfit : not (is_shelvable (opening_of c.args.opening.now)) ≡ true = ap not (sym c.is_shelvable.ensures ∙ c.if-not-is_shelvable.true) in
    passed_first rows d e _ _ _ _ step c.in_default.not-Some (c.in_ok-row.ensures d c.args.self.now.request.now.caller reads.asked)
    (holding_told rows d e _ _ _ _ c.in_ok-row-2.row step unfit c.in_ok-row-2.ensures told))

pub returns-in-Some-2 : goal.returns-in-Some-2
returns-in-Some-2 c = if_ok {Q = Keeps (rows_of c.args.tables.now) c.args.self.now c.args.opening.now} _ _ c.tells-in-Some-2.ensures (λ step told d e path reads is.
    let rows = rows_of c.args.tables.now in
    let fit : not (is_shelvable (opening_of c.args.opening.now)) ≡ false = ap not (sym c.is_shelvable.ensures ∙ c.if-not-is_shelvable.false) in
    passed_first rows d e _ _ _ _ step c.in_default.not-Some (c.in_ok-row.ensures d c.args.self.now.request.now.caller reads.asked)
    (passed_if rows d e _ _ _ _ step fit
    (first_told rows d e _ _ _ _ c.in-Some-2.row step c.in-Some-2.is (c.in_ok-row-3.ensures d reads.sound reads.has_domain) told)))

pub returns-then-branch : goal.returns-then-branch
returns-then-branch c = if_ok {Q = Keeps (rows_of c.args.tables.now) c.args.self.now c.args.opening.now} _ _ c.tells-then-branch.ensures (λ step told d e path reads is.
    let request = c.args.self.now.request.now in
    let o = opening_of c.args.opening.now in
    let rows = rows_of c.args.tables.now in
    let client = (opened-is d request.caller.client path o is).0 in
    let fit : not (is_shelvable o) ≡ false = ap not (sym c.is_shelvable.ensures ∙ c.if-not-is_shelvable.false) in
    let lacks : lacks_content d request o ≡ true =
    sym (c.in_ok-lacks_content.ensures d request reads.sound reads.has_rev reads.asked refl client) ∙ c.if-branch.true in
    passed_first rows d e _ _ _ _ step c.in_default.not-Some (c.in_ok-row.ensures d request.caller reads.asked)
    (passed_if rows d e _ _ _ _ step fit
    (passed_first rows d e _ _ _ _ step c.in_default-2.not-Some (c.in_ok-row-3.ensures d reads.sound reads.has_domain)
    (holding_told rows d e _ _ _ _ c.in_ok-row-4.row step lacks c.in_ok-row-4.ensures told))))

pub returns : goal.returns
returns c = if_ok {Q = Keeps (rows_of c.args.tables.now) c.args.self.now c.args.opening.now} _ _ c.keep.ensures (λ step made d e path reads is.
    let request = c.args.self.now.request.now in
    let o = opening_of c.args.opening.now in
    let rows = rows_of c.args.tables.now in
    let client = (opened-is d request.caller.client path o is).0 in
    let fit : not (is_shelvable o) ≡ false = ap not (sym c.is_shelvable.ensures ∙ c.if-not-is_shelvable.false) in
    let has : lacks_content d request o ≡ false =
    sym (c.in_ok-lacks_content.ensures d request reads.sound reads.has_rev reads.asked refl client) ∙ c.if-branch.false in
    passed_first rows d e _ _ _ _ step c.in_default.not-Some (c.in_ok-row.ensures d request.caller reads.asked)
    (passed_if rows d e _ _ _ _ step fit
    (passed_first rows d e _ _ _ _ step c.in_default-2.not-Some (c.in_ok-row-3.ensures d reads.sound reads.has_domain)
    (passed_if rows d e _ _ _ _ step has
    (subst (λ (b : Option (List ℕ)). IsMade rows d e (keeping request.caller o b) step)
    (c.in_ok-block.ensures d request reads.sound reads.has_rev reads.asked refl client)
    (made rows d e request.caller.client path reads.sound is))))))
