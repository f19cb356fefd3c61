use Rattle.std.proofs.Common.{false, ap}
use Rattle.std.specs.Prelude.{filter}
use Rattle.depot_rows.specs.depot_model.Arguments.{names}
use Rattle.named_files.specs.Sets.{at_head}
use Rattle.shelf_ops.proofs.kept_heads.KeptHeadsFileSet.candidates.Goals as goal

pub returns : goal.returns
returns c = λ d reads.
    ap (filter (names false d c.args.self.now.caller.now (at_head c.args._argument.now.spec))) (c.in_ok-files.ensures d reads.sound reads.has_domain)
