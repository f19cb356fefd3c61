-- Lists in which each text stands once, in the order of bytes, or each path once, in the order of printed texts.
use Rattle.std.specs.Prelude.{ℕ, Bool, List, [], ◌∷◌, if◌then◌else◌}
use Rattle.std.specs.Ordering.{nat_cmp, is_lt}
use Rattle.std.specs.Cmp.Lexicographic.{slice_cmp}
use Rattle.db_records.specs.depot_path.Bytes.{same}
use Rattle.db_records.specs.depot_path.Order.{path_cmp}

abbrev pub inserted : List ℕ → List (List ℕ) → List (List ℕ)
inserted x [] = x ∷ []
inserted x (y ∷ ys) = if same x y then y ∷ ys else (if is_lt (slice_cmp nat_cmp x y) then x ∷ y ∷ ys else y ∷ inserted x ys)

abbrev pub is_before : List ℕ → List ℕ → Bool
is_before p q = is_lt (path_cmp p q)

abbrev pub path_inserted : List ℕ → List (List ℕ) → List (List ℕ)
path_inserted p [] = p ∷ []
path_inserted p (q ∷ paths) = if same p q then q ∷ paths else (if is_before p q then p ∷ q ∷ paths else q ∷ path_inserted p paths)

abbrev pub all_inserted : List (List ℕ) → List (List ℕ) → List (List ℕ)
all_inserted [] paths = paths
all_inserted (p ∷ more) paths = path_inserted p (all_inserted more paths)
