use Rattle.std.proofs.Common.{◌≡◌, length}
use Rattle.std.specs.Vec.Iter.{into_iter_items, into_iter_len}
use Rattle.history_query.specs.Directories.{taken_after}
use Rattle.history_query.proofs.dir_rows.take.Given as goal

abbrev pub invariant-loop-directory : goal.invariant-loop-directory
invariant-loop-directory l = record {
  takes : taken_after l.taken (into_iter_items l.directory-iterator) ≡ taken_after l.fn.taken l.fn.directories;
  left : into_iter_len l.directory-iterator ≡ length (into_iter_items l.directory-iterator);
}
