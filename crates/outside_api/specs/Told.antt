-- What an object holds, where it tells it.
use Rattle.std.specs.Prelude.{◌≡◌, ℕ, List, [], ◌++◌, Option, Some, None, IfSome}

-- these bytes, and then what is told
abbrev pub prepended : List ℕ → Option (List ℕ) → Option (List ℕ)
prepended front None = None
prepended front (Some rest) = Some (front ++ rest)

-- what is told, and then these bytes
abbrev pub extended : Option (List ℕ) → List ℕ → Option (List ℕ)
extended None more = None
extended (Some bytes) more = Some (bytes ++ more)

-- nothing is left
abbrev pub IsAtEnd : Option (List ℕ) → Type 0
IsAtEnd told = IfSome told (λ bytes. bytes ≡ [])
