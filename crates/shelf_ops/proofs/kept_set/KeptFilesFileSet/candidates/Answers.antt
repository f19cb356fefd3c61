use Rattle.std.proofs.Common.{true, ap}
use Rattle.std.specs.Prelude.{filter}
use Rattle.depot_rows.specs.depot_model.Arguments.{names}
use Rattle.shelf_ops.proofs.kept_set.KeptFilesFileSet.candidates.Goals as goal

pub returns : goal.returns
returns c = λ d reads.
    ap (filter (names true d c.args.self.now.caller.now c.args._argument.now.spec)) (c.in_ok-files.ensures d reads.sound reads.has_domain)
