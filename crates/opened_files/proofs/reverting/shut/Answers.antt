use Rattle.std.proofs.Common.{ℕ, List, [], ◌∷◌, refl, sym, ap, subst, ◌∙◌}
use Rattle.depot_rows.specs.db_records.declared.table.TableId.TheVariants as table_ids
use Rattle.depot_rows.specs.depot_path.Path.{is_path}
use Rattle.depot_rows.specs.depot_model.Deeds.{Deed, Shut}
use Rattle.depot_rows.specs.depot_model.Latest.{have}
use Rattle.depot_rows.specs.depot_model.Steps.Opening.{held}
use Rattle.depot_rows.specs.depot_model.Steps.Reverting.{shut}
use Rattle.depot_rows.specs.Effects.{Follow}
use Rattle.depot_rows.specs.Standing.{HasRows}
use Rattle.depot_rows.specs.declared.deed.Deed.TheVariants as dones
use Rattle.depot_rows.specs.declared.deed.Held.{Held}
use Rattle.reply_rows.specs.Made.{IsMade}
use Rattle.reply_rows.specs.declared.step.Step.{Step}
use Rattle.reply_rows.proofs.Joined.{made_done}
use Rattle.depot_rows.specs.table_changes.Changed.{rows_of}
use Rattle.command_parts.proofs.Refused.{if_ok}
use Rattle.opened_files.specs.Reverts.{shut_row}
use Rattle.opened_files.proofs.reverting.shut.Goals as goal

pub returns : goal.returns
returns c =
    let rows = rows_of c.args.tables.now in
    let Q : Step → Type 0 = λ step. (d e : List Deed) → HasRows rows d table_ids.Have → IsMade rows d e (shut d c.args.caller.now c.args.path.now) step in
    if_ok {Q = Q} _ _ c.shuts.ensures (λ step made d e had.
    let caller = c.args.caller.now in
    let path = c.args.path.now in
    let file = c.in_ok-file.file in
    let bytes = c.as_bytes-bytes.ensures in
    made_done rows d e (dones.Shut file ∷ []) (Shut (held caller path) ∷ []) c.in_ok-row.row (shut_row path (have d caller.client path)) step
    (subst (λ (f : Held). Follow e (dones.Shut f ∷ []) (Shut (held caller path) ∷ [])) (sym c.in_ok-file.ensures) (refl, ap is_path (sym bytes.value) ∙ bytes.path, tt))
    (c.in_ok-row.ensures ∙ ap (λ (n : ℕ). shut_row path n) (c.in_ok-have.ensures d had)) refl made)
