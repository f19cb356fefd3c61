use Rattle.std.proofs.Common.{List, ◌++◌, ap, ◌∙◌}
use Rattle.std.specs.Prelude.{flat_map}
use Rattle.std.specs.List.{enumerate_from}
use Rattle.depot_rows.specs.depot_model.declared.reply.Field.{Field}
use Rattle.depot_rows.specs.depot_model.Rows.{row}
use Rattle.depot_rows.specs.depot_model.Steps.Shelving.{shelved_fields}
use Rattle.shelf_ops.proofs.describing.pending_row.Goals as goal

pub returns : goal.returns
returns c = λ d sound has.
    c.row_of.ensures
    ∙ ap row (c.in_ok-push_files.ensures d sound has
    ∙ ap (λ (l : List Field). l ++ flat_map (shelved_fields d c.args.row.now.change) (enumerate_from 0 c.args.paths.now)) c.in_ok-fields.ensures)
