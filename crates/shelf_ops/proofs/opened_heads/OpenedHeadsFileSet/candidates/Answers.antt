use Rattle.std.proofs.Common.{Some, sym, ap, subst, ◌∙◌}
use Rattle.std.specs.Prelude.{false, filter}
use Rattle.std.proofs.lemmas.Bool.{and_parts}
use Rattle.depot_rows.specs.table_changes.Changed.{rows_of}
use Rattle.depot_rows.specs.depot_model.Arguments.{names}
use Rattle.depot_rows.specs.depot_model.Opened.{opened}
use Rattle.depot_rows.specs.depot_model.Steps.Reverting.{is_selected}
use Rattle.depot_rows.specs.Standing.{HasRows}
use Rattle.named_files.specs.Listed.{files_of, listing_table}
use Rattle.named_files.specs.Sets.{at_head}
use Rattle.named_files.specs.declared.listing.Listing.{Listing}
use Rattle.named_files.proofs.Naming.{placed_if_shown}
use Rattle.shelf_ops.specs.Shelved.{is_at_head}
use Rattle.shelf_ops.proofs.opened_heads.OpenedHeadsFileSet.candidates.Goals as goal

pub returns : goal.returns
returns c = λ d reads.
    let own = c.args.self.now in
    let caller = own.caller.now in
    let spec = at_head c.args.argument.now.spec in
    let is = c.in_ok-listing.ensures in
    let has = subst (λ (l : Listing). HasRows (rows_of c.args.tables.now) d (listing_table l)) (sym is) reads.has_working in
    c.in_ok-found.ensures.depot d reads.sound has (is_at_head caller own.change d c.args.argument.now) (λ path e.
    placed_if_shown d caller own.asker.now reads.asked spec path
    (and_parts (is_selected (Some own.change) (opened d caller.client path)) (names false d caller spec path) e).1)
    ∙ ap (λ (l : Listing). filter (is_at_head caller own.change d c.args.argument.now) (files_of l d)) is
