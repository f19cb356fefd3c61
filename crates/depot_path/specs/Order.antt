-- The order of paths: the byte order of their printed texts, in which `%` stands before `@` (this project's own choice).
use Rattle.std.specs.Prelude.{ℕ, List}
use Rattle.std.specs.Cmp.Lexicographic.{slice_cmp}
use Rattle.std.specs.Ordering.{nat_cmp, on}
use Rattle.std.specs.declared.cmp.Ordering.{Ordering}
use Rattle.depot_path.specs.Path.{printed}

abbrev pub path_cmp : List ℕ → List ℕ → Ordering
path_cmp = on printed (slice_cmp nat_cmp)
