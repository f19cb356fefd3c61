use Rattle.std.proofs.Common.{◌≡◌, ◌++◌, length}
use Rattle.std.specs.Prelude.{flat_map}
use Rattle.shelf_ops.specs.Kept.{listable_file}
use Rattle.shelf_ops.proofs.keeping.listable_among.Given as goal

abbrev pub invariant-loop-rest : goal.invariant-loop-rest
invariant-loop-rest l = l.files ++ flat_map (listable_file l.asker) l.rest ≡ flat_map (listable_file l.asker) l.paths

abbrev pub decreases-loop-rest : goal.decreases-loop-rest
decreases-loop-rest l = length l.rest
