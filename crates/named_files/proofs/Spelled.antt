-- The path that an argument spells.
use Rattle.std.proofs.Common.{◌≡◌, ℕ, Bool, true, false, List, Some, None}
use Rattle.std.specs.Prelude.{if◌then◌else◌}

-- the path that is found is the one that is spelled, and one is found where one is spelled
pub found_is : (spells : Bool) (path spelled_path : List ℕ) → Some path ≡ (if spells then Some spelled_path else None) → path ≡ spelled_path
found_is true path spelled_path e = cc
found_is false path spelled_path e = absurd cc

pub is_found : (spells : Bool) (spelled_path : List ℕ) → spells ≡ true → None ≡ (if spells then Some spelled_path else None) → ⊥
is_found true spelled_path is e = absurd cc
is_found false spelled_path is e = absurd cc
