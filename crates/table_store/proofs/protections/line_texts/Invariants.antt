use Rattle.std.proofs.Common.{◌≡◌, ◌++◌}
use Rattle.table_store.specs.Protections.{texts_in}
use Rattle.table_store.proofs.protections.line_texts.Given as goal

abbrev pub invariant-loop-row : goal.invariant-loop-row
invariant-loop-row l = l.texts ++ texts_in l.row-iterator ≡ texts_in l.fn.rows
