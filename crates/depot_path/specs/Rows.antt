-- How a row of answers says which texts fit the parts of a pattern.
use Rattle.std.specs.Prelude.{◌≡◌, ℕ, ◌<◌, ◌≤◌, Bool, false, not, ◌&&◌, ◌||◌, List, length, drop, get_or, ◌==◌}
use Rattle.depot_path.specs.Fit.{fits}
use Rattle.depot_path.specs.declared.piece.Piece.{Piece}
use Rattle.depot_path.specs.declared.piece.Piece.TheVariants.{Byte, Dots}

-- at each place, whether the pattern from there on fits the text
pub record IsRow (pattern : List Piece) (text : List ℕ) (row : List Bool) : Type 0 where
  pub size : length pattern < length row
  pub at : (k : ℕ) → k ≤ length pattern → get_or row k false ≡ fits (drop k pattern) text

-- whether the pieces from one on fit a text of one byte more
abbrev pub with_byte : Piece → ℕ → Bool → Bool → Bool → Bool
with_byte (Byte b) byte here below next = (b == byte) && below
with_byte Dots byte here below next = next || here
with_byte _ byte here below next = next || (not (byte == 0x2F) && here)

-- whether they fit no text
abbrev pub without_byte : Piece → Bool → Bool
without_byte (Byte b) next = false
without_byte _ next = next
