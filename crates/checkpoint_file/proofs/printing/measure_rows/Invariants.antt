use Rattle.std.proofs.Common.{◌≡◌, ◌+◌, length}
use Rattle.journal_groups.specs.Groups.{body_of}
use Rattle.checkpoint_file.specs.Checkpoint.{puts}
use Rattle.checkpoint_file.proofs.printing.measure_rows.Given as goal

abbrev pub invariant-loop-row : goal.invariant-loop-row
invariant-loop-row l = l.size + length (body_of (puts l.row-iterator)) ≡ l.before + length (body_of (puts l.version.rows))
