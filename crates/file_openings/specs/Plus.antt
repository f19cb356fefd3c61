-- What stands behind the first `+` of a text, byte by byte.
use Rattle.std.specs.Prelude.{ℕ, ◌==◌, List, [], ◌∷◌, if◌then◌else◌}

abbrev pub behind_plus : List ℕ → List ℕ
behind_plus [] = []
behind_plus (b ∷ text) = if b == 0x2B then text else behind_plus text
