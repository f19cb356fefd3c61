use Rattle.std.proofs.Common.{◌≡◌, take}
use Rattle.std.specs.Prelude.{map}
use Rattle.submit_core.specs.Landing.{row_of_entry}
use Rattle.submit_core.proofs.landing.file_rows.Given as goal

abbrev pub invariant-loop-entry : goal.invariant-loop-entry
invariant-loop-entry l = l.rows ≡ map row_of_entry (take l.entry-index l.entries)
