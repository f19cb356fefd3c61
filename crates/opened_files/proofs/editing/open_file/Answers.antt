use Rattle.std.proofs.Common.{List, [], ◌∷◌, Some, refl, sym, ap, ◌∙◌}
use Rattle.depot_rows.specs.depot_path.Path.{is_path}
use Rattle.depot_rows.specs.table_changes.Changed.{AllRows}
use Rattle.depot_rows.specs.depot_model.Deeds.{Deed, Open}
use Rattle.depot_rows.specs.depot_model.Steps.Opening.{opening_row}
use Rattle.depot_rows.specs.Deed.{opening_of}
use Rattle.depot_rows.specs.declared.deed.Deed.TheVariants as dones
use Rattle.reply_rows.specs.Made.{IsMade}
use Rattle.reply_rows.specs.declared.step.Step.{Step}
use Rattle.reply_rows.proofs.Joined.{made_done}
use Rattle.command_parts.proofs.Refused.{if_ok}
use Rattle.opened_files.specs.Opens.{open_step}
use Rattle.opened_files.proofs.editing.open_file.Goals as goal

pub returns : goal.returns
returns c =
    let Q : Step → Type 0 = λ step. (all : AllRows) (d e : List Deed) → IsMade all d e (open_step (opening_of c.args.opening) (Some c.args.place.now)) step in
    if_ok {Q = Q} _ _ c.opens.ensures (λ step made all d e.
    let opening = c.args.opening in
    let bytes = c.as_bytes-bytes.ensures in
    made_done all d e (dones.Open opening ∷ []) (Open (opening_of opening) ∷ []) c.in_ok-row.row (opening_row (opening_of opening) (Some c.args.place.now)) step
    (refl, ap is_path (sym bytes.value) ∙ bytes.path, tt) c.in_ok-row.ensures refl made)
