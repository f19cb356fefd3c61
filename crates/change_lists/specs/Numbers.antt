-- Numbers of changes, each once, the greatest first.
use Rattle.std.specs.Prelude.{◌<◌, ℕ, Bool, ◌==◌, List, [], ◌∷◌}
use Rattle.std.specs.List.{list_any}

-- numbers that are all below one, and numbers that fall
abbrev pub Under : ℕ → List ℕ → Type 0
Under t [] = Unit {0}
Under t (x ∷ xs) = (x < t) × Under t xs

abbrev pub Falls : List ℕ → Type 0
Falls [] = Unit {0}
Falls (x ∷ xs) = Under x xs × Falls xs

abbrev pub is_among : ℕ → List ℕ → Bool
is_among m ns = list_any (λ x. x == m) ns
