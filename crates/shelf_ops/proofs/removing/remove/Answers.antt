use Rattle.std.proofs.Common.{List, [], ◌∷◌, refl}
use Rattle.depot_rows.specs.table_changes.Changed.{AllRows}
use Rattle.depot_rows.specs.depot_model.Deeds.{Deed, ShelfForm, Spec}
use Rattle.depot_rows.specs.depot_model.Shelves.{gone_form, shelf_name}
use Rattle.depot_rows.specs.declared.deed.Deed.TheVariants as dones
use Rattle.depot_rows.specs.declared.deed.SpecKind.TheVariants as kinds
use Rattle.reply_rows.specs.Made.{IsMade}
use Rattle.reply_rows.specs.declared.step.Step.{Step}
use Rattle.reply_rows.proofs.Joined.{made_done}
use Rattle.command_parts.proofs.Refused.{if_ok}
use Rattle.shelf_ops.specs.Removed.{removal, removed_row}
use Rattle.shelf_ops.proofs.Saving.{may_save}
use Rattle.shelf_ops.proofs.removing.remove.Goals as goal

pub returns : goal.returns
returns c =
    let n = c.args.change in
    let path = c.args.path.now in
    let Q : Step → Type 0 = λ step. (all : AllRows) (d e : List Deed) → IsMade all d e (removal n path) step in
    if_ok {Q = Q} _ _ c.saves.ensures (λ step made all d e.
    made_done all d e (dones.Spec kinds.Shelf c.in_ok-name.name c.in_ok-form.form ∷ []) (Spec ShelfForm (shelf_name n path) (gone_form n path) ∷ []) c.in_ok-row.row (removed_row path) step
    (may_save e c.in_ok-name.name (shelf_name n path) c.in_ok-form.form (gone_form n path) c.in_ok-name.ensures c.in_ok-form.ensures) c.in_ok-row.ensures refl made)
