use Rattle.std.proofs.Common.{◌∙◌}
use Rattle.named_files.specs.Sets.{at_head}
use Rattle.named_files.proofs.Naming.{shown_is}
use Rattle.named_files.proofs.head_files.HeadFilesFileSet.is_named.Goals as goal

pub returns : goal.returns
returns c = λ d reads.
    let own = c.args.self.now in
    c.in_ok-named.ensures d reads.sound reads.has_rev (reads.has_rev, tt)
    ∙ shown_is d own.caller.now own.asker.now reads.asked (at_head c.args.argument.now.spec) c.args.path.now
