use Rattle.std.proofs.Common.{◌≡◌, ◌++◌, List, length}
use Rattle.std.specs.Prelude.{filter}
use Rattle.std.specs.Vec.Iter.{into_iter_items, into_iter_len}
use Rattle.depot_rows.specs.table_changes.Changed.{rows_of}
use Rattle.depot_rows.specs.depot_model.Deeds.{Deed}
use Rattle.file_steps.proofs.loops.named_among.Given as goal

abbrev pub invariant-loop-path : goal.invariant-loop-path
invariant-loop-path g l =
    record {
      goes : (d : List Deed) → g.S.FileSet.reads l.set (rows_of l.tables) d
          → l.paths ++ filter (g.S.FileSet.names l.set d l.argument) (into_iter_items l.path-iterator) ≡ filter (g.S.FileSet.names l.set d l.argument) l.fn.candidates;
      left : into_iter_len l.path-iterator ≡ length (into_iter_items l.path-iterator);
    }
