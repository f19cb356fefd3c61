use Rattle.std.proofs.Common.{◌≡◌, ℕ, List, [], ◌∷◌, Some, refl}
use Rattle.std.specs.Option.{option_copied}
use Rattle.depot_rows.specs.table_changes.Changed.{AllRows}
use Rattle.depot_rows.specs.depot_model.Deeds.{Deed, ShelfForm, Spec}
use Rattle.depot_rows.specs.depot_model.Opened.{opened}
use Rattle.depot_rows.specs.depot_model.Rules.{IsSound}
use Rattle.depot_rows.specs.depot_model.Shelves.{kept_form, shelf_name}
use Rattle.depot_rows.specs.depot_model.Steps.Shelving.{shelved_row}
use Rattle.depot_rows.specs.Deed.{opening_of}
use Rattle.depot_rows.specs.declared.deed.Deed.TheVariants as dones
use Rattle.depot_rows.specs.declared.deed.SpecKind.TheVariants as kinds
use Rattle.reply_rows.specs.Made.{IsMade}
use Rattle.reply_rows.specs.declared.step.Step.{Step}
use Rattle.reply_rows.proofs.Joined.{made_done}
use Rattle.command_parts.proofs.Refused.{if_ok}
use Rattle.shelf_ops.specs.Shelved.{keeping}
use Rattle.shelf_ops.proofs.Saving.{may_save}
use Rattle.shelf_ops.proofs.shelving.keep.Goals as goal

pub returns : goal.returns
returns c =
    let o = opening_of c.args.opening.now in
    let block = option_copied c.args.block in
    let Q : Step → Type 0 = λ step. (all : AllRows) (d e : List Deed) (client path : List ℕ) → IsSound d → opened d client path ≡ Some o
    → IsMade all d e (keeping c.args.caller.now o block) step in
    if_ok {Q = Q} _ _ c.saves.ensures (λ step made all d e client path sound is.
    let form = kept_form c.args.caller.now o block in
    made_done all d e (dones.Spec kinds.Shelf c.in_ok-name.name c.in_ok-form.form ∷ []) (Spec ShelfForm (shelf_name o.change o.path) form ∷ []) c.in_ok-row.row (shelved_row o) step
    (may_save e c.in_ok-name.name (shelf_name o.change o.path) c.in_ok-form.form form c.in_ok-name.ensures (c.in_ok-form.ensures d client path sound is)) c.in_ok-row.ensures refl made)
