use Rattle.std.proofs.Common.{◌≡◌, ◌++◌}
use Rattle.journal_groups.specs.Groups.{body_of}
use Rattle.checkpoint_file.specs.Checkpoint.{puts}
use Rattle.checkpoint_file.proofs.printing.append_rows.Given as goal

abbrev pub invariant-loop-row : goal.invariant-loop-row
invariant-loop-row l = l.text ++ body_of (puts l.row-iterator) ≡ l.fn.text ++ body_of (puts l.version.rows)
