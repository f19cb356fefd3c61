use Rattle.std.proofs.Common.{◌∙◌}
use Rattle.named_files.proofs.Naming.{named_is}
use Rattle.shelf_ops.proofs.kept_set.KeptFilesFileSet.is_named.Goals as goal

pub returns : goal.returns
returns c = λ d reads.
    c.in_ok-named.ensures ∙ named_is d c.args.self.now.caller.now c.args.self.now.asker.now reads.asked c.args.argument.now.spec c.args.path.now
