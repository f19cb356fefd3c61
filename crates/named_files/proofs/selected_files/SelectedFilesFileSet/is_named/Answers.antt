use Rattle.std.proofs.Common.{◌≡◌, Bool, Option, true, sym, ap, ◌∙◌}
use Rattle.std.specs.Prelude.{◌&&◌}
use Rattle.depot_rows.specs.db_records.declared.record.Record.{Record}
use Rattle.depot_rows.specs.depot_model.Arguments.{names}
use Rattle.depot_rows.specs.depot_model.Opened.{opened}
use Rattle.depot_rows.specs.depot_model.Steps.Reverting.{is_selected}
use Rattle.named_files.specs.Sets.{selected_in}
use Rattle.named_files.proofs.Selection.{row_selected}
use Rattle.named_files.proofs.Naming.{named_is}
use Rattle.named_files.proofs.selected_files.SelectedFilesFileSet.is_named.Goals as goal

pub returns : goal.returns
returns c = λ d reads.
    let own = c.args.self.now in
    let caller = own.caller.now in
    let spec = c.args.argument.now.spec in
    let path = c.args.path.now in
    let named : names true d caller spec path ≡ true =
    sym (named_is d caller own.asker.now reads.asked spec path) ∙ sym c.in_ok-named.ensures ∙ c.if-not-named.false in
    let chosen = is_selected own.change (opened d caller.client path) in
    c.is_selected-selected.ensures ∙ ap (λ (r : Option Record). selected_in own.change r) (c.in_ok-row.ensures d reads.listed)
    ∙ row_selected d own.change (opened d caller.client path) ∙ ap (λ (b : Bool). b && chosen) (sym named)
