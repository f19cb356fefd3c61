use Rattle.std.proofs.Common.{sym, ap, ◌∙◌}
use Rattle.std.specs.Prelude.{option_map}
use Rattle.depot_rows.specs.depot_path.Path.{printed}
use Rattle.depot_rows.specs.db_records.declared.table.TableId.TheVariants as tables
use Rattle.depot_rows.specs.table_changes.Changed.{rows_of}
use Rattle.depot_rows.specs.depot_model.Choice.{Choice}
use Rattle.depot_rows.specs.depot_model.Steps.Listing.{numbered}
use Rattle.revision_reads.specs.Choice.{choice_of}
use Rattle.revision_reads.specs.History.{numbered_record}
use Rattle.revision_reads.proofs.Downwards.{number_seen}
use Rattle.revision_reads.proofs.Storing.{stored_at}
use Rattle.revision_reads.proofs.history.stored_choice.Goals as goal

pub returns-in_ok-row-in-At-clause-row : goal.returns-in_ok-row-in-At-clause-row
returns-in_ok-row-in-At-clause-row c = λ d sound has there.
    c.in_ok-row-in-At.ensures.row d has
    ∙ sym (number_seen d c.args.path.now c.in-At.rev)
    ∙ ap (λ (choice : Choice). option_map numbered_record (numbered d c.args.path.now choice))
    (ap choice_of (sym c.in-At.is) ∙ c.in_ok-chosen.ensures d sound there)

pub returns-in_ok-row-in-At-clause-stored : goal.returns-in_ok-row-in-At-clause-stored
returns-in_ok-row-in-At-clause-stored c = λ r e.
    stored_at (printed c.args.path.now) c.in-At.rev (rows_of c.args.tables.now tables.Rev) r (sym e ∙ c.in_ok-row-in-At.ensures.stored)
