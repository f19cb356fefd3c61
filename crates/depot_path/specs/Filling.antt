-- Where the pieces after a specifier fit a text.
use Rattle.std.specs.Prelude.{◌≡◌, ℕ, ◌+◌, ◌<◌, ◌≤◌, Bool, false, List, [], ◌∷◌, ◌++◌, length, drop, get_or}
use Rattle.depot_path.specs.Fit.{fits}
use Rattle.depot_path.specs.declared.piece.Piece.{Piece}
use Rattle.depot_path.specs.declared.piece.Piece.TheVariants.{Byte}

-- at each place of the text, whether the pieces fit what follows there
pub record IsColumn (pieces : List Piece) (text : List ℕ) (column : List Bool) : Type 0 where
  pub size : length column ≡ length text + 1
  pub at : (k : ℕ) → k ≤ length text → get_or column k false ≡ fits pieces (drop k text)

-- the columns of what follows each specifier, that of the last specifier first
abbrev pub AreColumns : List Piece → List ℕ → List (List Bool) → Type 0
AreColumns [] text columns = columns ≡ []
AreColumns (Byte b ∷ pieces) text columns = AreColumns pieces text columns
AreColumns (specifier ∷ pieces) text columns =
    (others : List (List Bool)) × (column : List Bool) × (columns ≡ others ++ column ∷ []) × IsColumn pieces text column × AreColumns pieces text others

-- the first place from one on that is marked, or else the last place
pub record IsFirst (column : List Bool) (from place : ℕ) : Type 0 where
  pub low : from ≤ place
  pub high : place < length column
  pub none : (k : ℕ) → from ≤ k → k < place → get_or column k false ≡ false
  pub ends : get_or column place false ≡ false → place + 1 ≡ length column
