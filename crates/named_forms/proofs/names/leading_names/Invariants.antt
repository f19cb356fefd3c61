use Rattle.std.proofs.Common.{◌≡◌, ◌++◌}
use Rattle.row_reads.specs.Forms.{names_in}
use Rattle.named_forms.specs.Named.{leading}
use Rattle.named_forms.proofs.names.leading_names.Given as goal

abbrev pub invariant-loop-row : goal.invariant-loop-row
invariant-loop-row l = l.names ++ names_in (leading l.word l.start l.row-iterator) ≡ names_in (leading l.word l.start l.fn.rows)
