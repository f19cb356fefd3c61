use Rattle.std.proofs.Common.{false}
use Rattle.depot_rows.specs.depot_model.Arguments.{names}
use Rattle.named_files.proofs.Naming.{placed_if_shown}
use Rattle.named_files.proofs.shown_files.ShownFiles.headed.Goals as goal

pub returns-clause-paths : goal.returns-clause-paths
returns-clause-paths c = λ d reads.
    let caller = c.args.self.now.caller.now in
    let spec = c.args.argument.now.spec in
    c.in_ok-found.ensures.depot d reads.sound reads.listed (names false d caller spec) (placed_if_shown d caller c.args.self.now.asker.now reads.asked spec)
