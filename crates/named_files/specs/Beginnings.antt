-- The texts with which the files begin that an argument may name, as they are printed. A walk begins at each of them in turn: they stand in order, and
-- none begins with another one. This project's own choice.
use Rattle.std.specs.Prelude.{◌≡◌, ℕ, Bool, false, List, [], ◌∷◌, filter, flat_map}
use Rattle.std.specs.List.{list_any}
use Rattle.std.specs.Cmp.Lexicographic.{slice_cmp}
use Rattle.std.specs.Ordering.{nat_cmp}
use Rattle.std.specs.declared.cmp.Ordering.TheVariants.{Less}
use Rattle.depot_rows.specs.depot_path.Bytes.{begins_with}
use Rattle.depot_rows.specs.depot_path.Path.{printed}
use Rattle.named_files.specs.Listed.{has_beginning}

-- a text begins with one of them
abbrev pub begins_with_one : List (List ℕ) → List ℕ → Bool
begins_with_one beginnings text = list_any (begins_with text) beginnings

-- a file begins with one of them
abbrev pub has_one : List (List ℕ) → List ℕ → Bool
has_one beginnings path = begins_with_one beginnings (printed path)

-- texts behind a text: each is after the one before, and doesn't begin with it
abbrev pub AreBehind : List ℕ → List (List ℕ) → Type 0
AreBehind before [] = Unit {0}
AreBehind before (text ∷ texts) = (slice_cmp nat_cmp before text ≡ Less) × (begins_with text before ≡ false) × AreBehind text texts

abbrev pub AreApart : List (List ℕ) → Type 0
AreApart [] = Unit {0}
AreApart (text ∷ texts) = AreBehind text texts

-- the files of each beginning, in turn
abbrev pub in_turn : List (List ℕ) → List (List ℕ) → List (List ℕ)
in_turn beginnings files = flat_map (λ beginning. filter (has_beginning beginning) files) beginnings
