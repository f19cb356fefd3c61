use Rattle.std.proofs.Common.{List, ap, ◌∙◌}
use Rattle.std.specs.Option.{option_copied}
use Rattle.depot_rows.specs.view_map.Mapping.{path_in}
use Rattle.depot_rows.specs.view_map.declared.line.ViewLine.{ViewLine}
use Rattle.have_sync.specs.Syncing.{sync_row_of}
use Rattle.have_sync.proofs.Sizes.{size_read}
use Rattle.have_sync.proofs.rows.shown_row.Goals as goal

pub returns : goal.returns
returns c = λ d caller asked has.
    let path = c.args.path.now in
    let found = c.args.found in
    let size = c.size_in-size.ensures ∙ size_read d path found.rev (option_copied found.row) has in
    c.in_ok-row.ensures
    ∙ (λ i. sync_row_of path ((c.in_ok-place.ensures ∙ ap (λ (v : List ViewLine). path_in v path) asked.view) i) found.rev c.args.action.now (size i))
