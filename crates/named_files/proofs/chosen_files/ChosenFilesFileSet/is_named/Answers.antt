use Rattle.std.proofs.Common.{◌≡◌, Bool, true, false, sym, ap, ◌∙◌}
use Rattle.std.specs.Prelude.{◌&&◌, is_some}
use Rattle.depot_rows.specs.table_changes.Changed.{rows_of}
use Rattle.depot_rows.specs.depot_model.Arguments.{names}
use Rattle.depot_rows.specs.depot_model.Steps.Listing.{chosen_revision}
use Rattle.revision_reads.specs.History.{numbered_record, seen}
use Rattle.named_files.proofs.Naming.{shown_is}
use Rattle.named_files.proofs.Wanting.{reads_wanted, some_alike}
use Rattle.named_files.proofs.chosen_files.ChosenFilesFileSet.is_named.Goals as goal

pub returns-then-not-named : goal.returns-then-not-named
returns-then-not-named c = λ d reads.
    let own = c.args.self.now in
    let spec = c.args.argument.now.spec in
    let wanted = reads_wanted own.caller.now own.asker.now own.listing.now (rows_of c.args.tables.now) d reads spec.wanted in
    let named : names false d own.caller.now spec c.args.path.now ≡ false =
    sym (shown_is d own.caller.now own.asker.now reads.asked spec c.args.path.now) ∙ sym (c.in_ok-named.ensures d reads.sound reads.has_rev wanted)
    ∙ c.if-not-named.true in
    ap (λ (b : Bool). b && is_some (chosen_revision d own.caller.now c.args.argument.now c.args.path.now)) (sym named)

pub returns : goal.returns
returns c = λ d reads.
    let own = c.args.self.now in
    let spec = c.args.argument.now.spec in
    let wanted = reads_wanted own.caller.now own.asker.now own.listing.now (rows_of c.args.tables.now) d reads spec.wanted in
    let named : names false d own.caller.now spec c.args.path.now ≡ true =
    sym (shown_is d own.caller.now own.asker.now reads.asked spec c.args.path.now) ∙ sym (c.in_ok-named.ensures d reads.sound reads.has_rev wanted)
    ∙ c.if-not-named.false in
    c.is_there.ensures
    ∙ some_alike seen numbered_record _ _ (c.in_ok-row.ensures d reads.sound reads.has_rev wanted)
    ∙ ap (λ (b : Bool). b && is_some (chosen_revision d own.caller.now c.args.argument.now c.args.path.now)) (sym named)
