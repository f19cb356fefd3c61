use Rattle.std.proofs.Common.{◌≡◌, List, [], ◌∷◌, refl, sym, ap, ◌∙◌}
use Rattle.std.specs.Prelude.{option_map}
use Rattle.depot_rows.specs.depot_path.Path.{is_path}
use Rattle.depot_rows.specs.table_changes.Changed.{AllRows}
use Rattle.depot_rows.specs.depot_model.Deeds.{Deed, Open, Owe, Paid}
use Rattle.depot_rows.specs.depot_model.Revisions.{head}
use Rattle.depot_rows.specs.depot_model.Steps.Integrating.{integrate_row, opening, owing}
use Rattle.depot_rows.specs.depot_model.Steps.Opening.{held}
use Rattle.depot_rows.specs.Deed.{action_of, how_of, source_of}
use Rattle.depot_rows.specs.declared.deed.Deed.TheVariants as dones
use Rattle.reply_rows.specs.Made.{IsMade}
use Rattle.reply_rows.specs.declared.step.Step.{Step}
use Rattle.reply_rows.proofs.Joined.{made_done}
use Rattle.command_parts.proofs.Refused.{if_ok}
use Rattle.integ_records.specs.Ways.{paid_step}
use Rattle.integ_records.proofs.Opening.{may_pay}
use Rattle.integ_records.proofs.opened_targets.integrate_paid.Goals as goal

pub returns : goal.returns
returns c =
    let pair = c.args.pair.now in
    let Q : Step → Type 0 = λ step. (all : AllRows) (d e : List Deed) → c.args.base ≡ head d pair.to.now
    → IsMade all d e (paid_step d pair.caller.now pair.change c.args.file_type pair.from.now pair.to.now c.args.ends (action_of c.args.action)
    (option_map source_of c.args.source) (how_of c.args.how)) step in
    if_ok {Q = Q} _ _ c.opens_paid.ensures (λ step done all d e over.
    let caller = pair.caller.now in
    let s = pair.from.now in
    let t = pair.to.now in
    let ends = c.args.ends in
    let action = action_of c.args.action in
    let from_bytes = c.as_bytes-from.ensures in
    let to_bytes = c.as_bytes-to.ensures in
    let made = opening d caller pair.change action c.args.file_type t (option_map source_of c.args.source) in
    made_done all d e (dones.Open c.in_ok-opening.opening ∷ dones.Owe c.in_ok-owing.owing ∷ dones.Paid c.in_ok-file.file c.in_ok-from.from c.args.how ∷ [])
    (Open made ∷ Owe (owing caller s t ends.first ends.last) ∷ Paid (held caller t) s (how_of c.args.how) ∷ []) c.in_ok-row.row (integrate_row s t ends.first ends.last action) step
    (may_pay e caller s t ends (ap is_path (sym from_bytes.value) ∙ from_bytes.path) (ap is_path (sym to_bytes.value) ∙ to_bytes.path) made c.in_ok-opening.opening c.in_ok-file.file
    c.in_ok-owing.owing (c.in_ok-opening.ensures.over_head d over) c.in_ok-opening.ensures.of_target c.in_ok-file.ensures c.in_ok-owing.ensures c.in_ok-from.from c.args.how c.in_ok-from.ensures)
    c.in_ok-row.ensures refl done)
