use Rattle.std.proofs.Common.{true, sym, ap, subst, ◌∙◌}
use Rattle.std.specs.Prelude.{filter}
use Rattle.std.proofs.lemmas.Bool.{and_parts}
use Rattle.depot_rows.specs.table_changes.Changed.{rows_of}
use Rattle.depot_rows.specs.depot_model.Arguments.{names}
use Rattle.depot_rows.specs.depot_model.Opened.{opened}
use Rattle.depot_rows.specs.depot_model.Steps.Reverting.{is_selected}
use Rattle.depot_rows.specs.Standing.{HasRows}
use Rattle.named_files.specs.Listed.{files_of, listing_table}
use Rattle.named_files.specs.Sets.{is_chosen}
use Rattle.named_files.specs.declared.listing.Listing.{Listing}
use Rattle.named_files.proofs.Naming.{placed_if_named}
use Rattle.named_files.proofs.selected_files.SelectedFilesFileSet.candidates.Goals as goal

pub returns : goal.returns
returns c = λ d reads.
    let own = c.args.self.now in
    let caller = own.caller.now in
    let spec = c.args.argument.now.spec in
    let is = c.in_ok-listing.ensures in
    let has = subst (λ (l : Listing). HasRows (rows_of c.args.tables.now) d (listing_table l)) (sym is) reads.listed in
    c.in_ok-found.ensures.depot d reads.sound has (is_chosen caller own.change d c.args.argument.now) (λ path e.
    placed_if_named d caller own.asker.now reads.asked spec path
    (and_parts (names true d caller spec path) (is_selected own.change (opened d caller.client path)) e).0)
    ∙ ap (λ (l : Listing). filter (is_chosen caller own.change d c.args.argument.now) (files_of l d)) is
