use Rattle.std.proofs.Common.{ap, sym, ◌∙◌}
use Rattle.depot_path.specs.Path.{is_path}
use Rattle.depot_path.proofs.Paths.{reads_path}
use Rattle.depot_path.proofs.path.DepotPath.read.Goals as goal

pub invariant_of-result : goal.invariant_of-result
invariant_of-result c = ap is_path c.in-Ok.ensures ∙ c.is_plain_path.ensures.path c.if-is_plain_path.true

pub invariant_of-result-in-Ok-unescape : goal.invariant_of-result-in-Ok-unescape
invariant_of-result-in-Ok-unescape c = ap is_path c.in-Ok-unescape.ensures ∙ reads_path c.args.text.now (sym c.path_fault.ensures ∙ c.in_default-path_fault.is)
