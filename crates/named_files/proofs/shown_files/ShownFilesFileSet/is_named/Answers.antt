use Rattle.std.proofs.Common.{◌∙◌}
use Rattle.depot_rows.specs.table_changes.Changed.{rows_of}
use Rattle.named_files.proofs.Naming.{shown_is}
use Rattle.named_files.proofs.Wanting.{reads_wanted}
use Rattle.named_files.proofs.shown_files.ShownFilesFileSet.is_named.Goals as goal

pub returns : goal.returns
returns c = λ d reads.
    let own = c.args.self.now in
    let spec = c.args.argument.now.spec in
    c.in_ok-named.ensures d reads.sound reads.has_rev (reads_wanted own.caller.now own.asker.now own.listing.now (rows_of c.args.tables.now) d reads spec.wanted)
    ∙ shown_is d own.caller.now own.asker.now reads.asked spec c.args.path.now
