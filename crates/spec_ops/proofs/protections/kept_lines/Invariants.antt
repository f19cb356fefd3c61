use Rattle.std.proofs.Common.{◌≡◌, take}
use Rattle.std.specs.Prelude.{map}
use Rattle.depot_rows.specs.depot_model.Steps.Protections.{kept_line}
use Rattle.spec_ops.proofs.protections.kept_lines.Given as goal

abbrev pub invariant-loop-line : goal.invariant-loop-line
invariant-loop-line l = l.kept ≡ map kept_line (take l.line-index l.lines)
