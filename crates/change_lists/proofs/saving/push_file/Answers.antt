use Rattle.std.proofs.Common.{◌++◌, List, ap, ◌∙◌}
use Rattle.std.specs.Prelude.{map, option_map}
use Rattle.std.specs.Option.{option_copied, option_to_list}
use Rattle.std.proofs.lemmas.List.{map-append}
use Rattle.depot_rows.specs.depot_model.Deeds.{Opening}
use Rattle.depot_rows.specs.Deed.{opening_of}
use Rattle.depot_rows.specs.declared.deed.Opening.{Opening as DeedOpening}
use Rattle.change_lists.specs.Saving.{moved_row}
use Rattle.change_lists.proofs.Moved.{row_moves}
use Rattle.change_lists.proofs.saving.push_file.Goals as goal

pub returns : goal.returns
returns c = λ d sound has.
    let client = c.args.client.now in
    let path = c.args.path.now in
    let n = c.args.change in
    let old = c.args.openings.now in
    let row = option_copied c.in_ok-row.row in
    let more = option_to_list (option_map (moved_row client path n) row) in
    ap (λ (l : List DeedOpening). map opening_of l) c.in_ok-push_moved.ensures
    ∙ map-append opening_of old more
    ∙ ap (λ (l : List Opening). map opening_of old ++ l) (row_moves d client path n sound row (c.in_ok-row.ensures d has))
