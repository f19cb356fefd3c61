use Rattle.std.proofs.Common.{sym, ◌∙◌}
use Rattle.depot_path.proofs.Spelling.{few_pieces}
use Rattle.depot_path.proofs.pattern.Pattern.read.Goals as goal

pub invariant_of-result : goal.invariant_of-result
invariant_of-result c = few_pieces c.args.positional c.args.text.now c.in-Ok.pieces (sym c.pattern_fault.ensures ∙ c.in_default.is) c.in-Ok.ensures
