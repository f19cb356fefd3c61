-- Lists of paths in their order, each once.
use Rattle.std.specs.Prelude.{◌≡◌, ℕ, true, List, [], ◌∷◌}
use Rattle.std.specs.declared.cmp.Ordering.TheVariants.{Less}
use Rattle.depot_model.specs.depot_path.Order.{path_cmp}
use Rattle.depot_model.specs.depot_path.Path.{is_path}

-- below all paths of a list
abbrev pub Below : List ℕ → List (List ℕ) → Type 0
Below p [] = Unit {0}
Below p (q ∷ qs) = (path_cmp p q ≡ Less) × Below p qs

-- all are paths, and each is below those after it
abbrev pub Rise : List (List ℕ) → Type 0
Rise [] = Unit {0}
Rise (p ∷ ps) = (is_path p ≡ true) × Below p ps × Rise ps
