use Rattle.std.proofs.Common.{◌≡◌, List, [], ◌∷◌, None, refl, sym, ap, ◌∙◌}
use Rattle.depot_rows.specs.depot_path.Path.{is_path}
use Rattle.depot_rows.specs.table_changes.Changed.{AllRows}
use Rattle.depot_rows.specs.depot_model.Deeds.{Deed, Got, Integrate, Open, Owe}
use Rattle.depot_rows.specs.depot_model.Revisions.{head}
use Rattle.depot_rows.specs.depot_model.Steps.Integrating.{integrate_row, opening, owing}
use Rattle.depot_rows.specs.depot_model.Steps.Opening.{held}
use Rattle.depot_rows.specs.declared.deed.Deed.TheVariants as dones
use Rattle.reply_rows.specs.Made.{IsMade}
use Rattle.reply_rows.specs.declared.step.Step.{Step}
use Rattle.reply_rows.proofs.Joined.{made_done}
use Rattle.command_parts.proofs.Refused.{if_ok}
use Rattle.integ_records.specs.Ways.{way_step}
use Rattle.integ_records.specs.declared.opened_targets.Way.TheVariants as ways
use Rattle.integ_records.proofs.Opening.{may_get}
use Rattle.integ_records.proofs.opened_targets.integrate_live.Goals as goal

pub returns : goal.returns
returns c =
    let pair = c.args.pair.now in
    let Q : Step → Type 0 = λ step. (all : AllRows) (d e : List Deed) → c.args.base ≡ head d pair.to.now
    → IsMade all d e (way_step d pair.caller.now pair.change c.args.file_type pair.from.now pair.to.now c.args.ends ways.Integrate) step in
    if_ok {Q = Q} _ _ c.opens_got.ensures (λ step done all d e over.
    let caller = pair.caller.now in
    let s = pair.from.now in
    let t = pair.to.now in
    let ends = c.args.ends in
    let from_bytes = c.as_bytes-from.ensures in
    let to_bytes = c.as_bytes-to.ensures in
    let made = opening d caller pair.change Integrate c.args.file_type t None in
    made_done all d e (dones.Open c.in_ok-opening.opening ∷ dones.Got c.in_ok-file.file c.args.base ∷ dones.Owe c.in_ok-owing.owing ∷ [])
    (Open made ∷ Got (held caller t) (head d t) ∷ Owe (owing caller s t ends.first ends.last) ∷ []) c.in_ok-row.row (integrate_row s t ends.first ends.last Integrate) step
    (may_get e caller s t ends (ap is_path (sym from_bytes.value) ∙ from_bytes.path) (ap is_path (sym to_bytes.value) ∙ to_bytes.path) made c.in_ok-opening.opening c.in_ok-file.file
    c.in_ok-owing.owing (c.in_ok-opening.ensures.over_head d over) c.in_ok-opening.ensures.of_target c.in_ok-file.ensures c.in_ok-owing.ensures c.args.base (head d t) over)
    c.in_ok-row.ensures refl done)
