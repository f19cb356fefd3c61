-- Which texts fit a pattern, and what its specifiers stand for (Command-Line Reference, "File specifications", "Views"). A pattern is its pieces,
-- and a text has no escapes. That the leftmost specifier takes the shortest text is this project's own choice.
use Rattle.std.specs.Prelude.{◌≡◌, ◌≢◌, ℕ, zero, suc, ◌+◌, Bool, true, false, not, ◌&&◌, List, [], ◌∷◌, ◌++◌, length, take, drop, map, filter, ◌==◌, if◌then◌else◌, Option, Some, None, option_map, is_some}
use Rattle.std.specs.List.{AllZip, list_any}
use Rattle.std.specs.declared.cmp.Ordering.TheVariants.{Greater}
use Rattle.std.specs.Cmp.Lexicographic.{slice_cmp}
use Rattle.std.specs.Ordering.{nat_cmp}
use Rattle.depot_path.specs.declared.piece.Piece.{Piece}
use Rattle.depot_path.specs.declared.piece.Piece.TheVariants.{Byte, Dots}

abbrev pub is_specifier : Piece → Bool
is_specifier (Byte b) = false
is_specifier _ = true

abbrev pub specifiers : List Piece → List Piece
specifiers pattern = filter is_specifier pattern

-- whether a specifier may stand for a text
abbrev pub stands_for : Piece → List ℕ → Bool
stands_for Dots text = true
stands_for _ text = not (list_any (λ x. x == 0x2F) text)

abbrev pub StandsFor : Piece → List ℕ → Type 0
StandsFor piece text = stands_for piece text ≡ true

-- the pattern with its specifiers replaced by texts, in order
abbrev pub filled : List Piece → List (List ℕ) → List ℕ
filled [] texts = []
filled (Byte b ∷ pattern) texts = b ∷ filled pattern texts
filled (specifier ∷ pattern) [] = filled pattern []
filled (specifier ∷ pattern) (text ∷ texts) = text ++ filled pattern texts

-- t is the pattern with each specifier replaced by a text that it may stand for
pub record IsFilling (pattern : List Piece) (t : List ℕ) (texts : List (List ℕ)) : Type 0 where
  pub each : AllZip StandsFor (specifiers pattern) texts
  pub whole : filled pattern texts ≡ t

abbrev pub Fits : List Piece → List ℕ → Type 0
Fits pattern t = (texts : List (List ℕ)) × IsFilling pattern t texts

-- the lengths come first, compared from the left
abbrev pub NoLater : List (List ℕ) → List (List ℕ) → Type 0
NoLater texts others = slice_cmp nat_cmp (map length texts) (map length others) ≢ Greater

-- the texts are those whose lengths come first
pub record AreTexts (pattern : List Piece) (t : List ℕ) (texts : List (List ℕ)) : Type 0 where
  pub fill : IsFilling pattern t texts
  pub first : (others : List (List ℕ)) → IsFilling pattern t others → NoLater texts others

-- of the fronts of t with k or more bytes, n of them, the shortest that the specifier may stand for and whose rest has texts
abbrev pub first_texts : Piece → (List ℕ → Option (List (List ℕ))) → List ℕ → ℕ → ℕ → Option (List (List ℕ))
first_texts specifier rest t k zero = None
first_texts specifier rest t k (suc n) =
    if stands_for specifier (take k t) && is_some (rest (drop k t))
    then option_map (λ texts. take k t ∷ texts) (rest (drop k t))
    else first_texts specifier rest t (k + 1) n

abbrev pub byte_texts : ℕ → (List ℕ → Option (List (List ℕ))) → List ℕ → Option (List (List ℕ))
byte_texts b rest [] = None
byte_texts b rest (x ∷ t) = if b == x then rest t else None

abbrev pub end_texts : List ℕ → Option (List (List ℕ))
end_texts [] = Some []
end_texts (x ∷ t) = None

-- the texts for which the specifiers stand in t, where it fits: the leftmost specifier takes the shortest text that lets the rest fit
abbrev pub texts : List Piece → List ℕ → Option (List (List ℕ))
texts [] t = end_texts t
texts (Byte b ∷ pattern) t = byte_texts b (texts pattern) t
texts (specifier ∷ pattern) t = first_texts specifier (texts pattern) t 0 (length t + 1)

abbrev pub fits : List Piece → List ℕ → Bool
fits pattern t = is_some (texts pattern t)
