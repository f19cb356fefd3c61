use Rattle.std.proofs.Common.{◌≡◌, true, List, ◌∷◌, refl, sym, ap, subst, ◌∙◌}
use Rattle.std.specs.Prelude.{map}
use Rattle.std.specs.List.{list_all}
use Rattle.depot_rows.specs.table_changes.Changed.{rows_of}
use Rattle.depot_rows.specs.depot_model.Deeds as model
use Rattle.depot_rows.specs.depot_model.Deeds.{Deed, Opening}
use Rattle.depot_rows.specs.Deed.{pending_of}
use Rattle.depot_rows.specs.Effects.{Follow}
use Rattle.depot_rows.specs.declared.deed.Deed.TheVariants as dones
use Rattle.reply_rows.proofs.Joined.{made_done}
use Rattle.change_lists.specs.Saving.{pending_deed, saved_row}
use Rattle.change_lists.proofs.Moved.{are_paths, moves_are, of_path, opens_follow}
use Rattle.change_lists.proofs.saving.keep.Goals as goal

pub returns : goal.returns
returns c = λ d sound has unsubmitted.
    let request = c.args.request.now in
    let caller = request.caller in
    let n = c.args.change in
    let paths = c.args.paths.now in
    let openings = c.in_ok-openings.openings in
    let are = c.in_ok-openings.ensures d sound has in
    let pend = pending_deed request c.args.text n in
    let P : List Opening → Type 0 = λ l. list_all of_path l ≡ true in
    let Q : List Deed → Type 0 = λ l. Follow (model.Pend (pending_of pend) ∷ d) (map dones.Open openings) l in
    let follow = subst Q (ap (λ (l : List Opening). map model.Open l) are ∙ sym (moves_are d caller n paths))
    (opens_follow (model.Pend (pending_of pend) ∷ d) openings (subst P (sym are) (are_paths d caller.client n sound paths))) in
    made_done (rows_of c.args.tables.now) d d (dones.Pend pend ∷ map dones.Open openings) _ (saved_row n) (saved_row n) c.in_ok-step.step (refl, unsubmitted, follow) refl refl
    c.in_ok-step.ensures
