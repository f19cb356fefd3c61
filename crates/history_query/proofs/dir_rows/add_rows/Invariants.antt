use Rattle.std.proofs.Common.{◌≡◌, ◌++◌, length}
use Rattle.history_query.specs.Directories.{new_rows}
use Rattle.history_query.proofs.dir_rows.add_rows.Given as goal

abbrev pub invariant-loop-rest : goal.invariant-loop-rest
invariant-loop-rest l = l.rows ++ new_rows l.taken l.rest ≡ l.fn.rows ++ new_rows l.taken l.directories

abbrev pub decreases-loop-rest : goal.decreases-loop-rest
decreases-loop-rest l = length l.rest
