use Rattle.std.proofs.Common.{◌≡◌, ◌++◌, map, take}
use Rattle.depot_rows.specs.Effects.{rev_row}
use Rattle.row_changes.proofs.landing.push_revisions.Given as goal

abbrev pub invariant-loop-entry : goal.invariant-loop-entry
invariant-loop-entry l = l.rows.items ≡ l.initial.rows.items ++ map (rev_row l.change) (take l.entry-index l.entries)
