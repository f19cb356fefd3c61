use Rattle.std.proofs.Common.{true}
use Rattle.depot_rows.specs.depot_model.Arguments.{names}
use Rattle.named_files.proofs.Naming.{placed_if_named}
use Rattle.named_files.proofs.listed_files.ListedFilesFileSet.candidates.Goals as goal

pub returns : goal.returns
returns c = λ d reads.
    let caller = c.args.self.now.caller.now in
    let spec = c.args.argument.now.spec in
    c.in_ok-found.ensures.depot d reads.sound reads.listed (names true d caller spec) (placed_if_named d caller c.args.self.now.asker.now reads.asked spec)
