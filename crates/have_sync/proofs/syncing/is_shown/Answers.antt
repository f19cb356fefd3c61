use Rattle.std.proofs.Common.{ℕ, List, Option, ap, ◌∙◌}
use Rattle.std.specs.Prelude.{is_some}
use Rattle.depot_rows.specs.table_changes.Changed.{rows_of}
use Rattle.named_files.specs.declared.listing.Listing.TheVariants.{Submitted}
use Rattle.named_files.proofs.Wanting.{reads_wanted}
use Rattle.have_sync.proofs.Synced.{shown_is}
use Rattle.have_sync.proofs.syncing.is_shown.Goals as goal

pub returns : goal.returns
returns c = λ d reads.
    let caller = c.args.caller.now in
    let asker = c.args.asker.now in
    let wanted = c.args.argument.now.spec.wanted in
    let shown = reads.shown in
    c.is_some-shown.ensures
    ∙ ap (λ (o : Option (List ℕ)). is_some o)
    (c.in_ok-place.ensures d shown.sound shown.has_rev (reads_wanted caller asker Submitted (rows_of c.args.tables.now) d shown wanted)
    ∙ shown_is d caller c.args.argument.now c.args.path.now asker.view wanted shown.asked.view)
