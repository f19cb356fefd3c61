-- Which specifier of one pattern answers which of another, and the texts that go from one to the other: the n-th `*` answers the n-th `*`,
-- the n-th `...` the n-th `...`, and `%%k` answers `%%k` (Command-Line Reference, "Views", "Wildcards in views").
use Rattle.std.specs.Prelude.{ℕ, ◌+◌, Bool, false, ◌&&◌, List, [], ◌∷◌, map, count_by, ◌==◌, if◌then◌else◌}
use Rattle.std.specs.List.{list_all}
use Rattle.depot_path.specs.declared.piece.Piece.{Piece}
use Rattle.depot_path.specs.declared.piece.Piece.TheVariants.{Byte, Star, Dots, Place}
use Rattle.view_map.specs.declared.specifiers.Label.{Label}
use Rattle.view_map.specs.declared.specifiers.Label.TheVariants.{Star as StarLabel, Dots as DotsLabel, Place as PlaceLabel}

abbrev pub same_label : Label → Label → Bool
same_label (StarLabel m) (StarLabel n) = m == n
same_label (DotsLabel m) (DotsLabel n) = m == n
same_label (PlaceLabel m) (PlaceLabel n) = m == n
same_label _ _ = false

-- the labels of a pattern's specifiers, where it follows so many `*` and so many `...`
abbrev pub labels_after : ℕ → ℕ → List Piece → List Label
labels_after stars dots [] = []
labels_after stars dots (Byte b ∷ pattern) = labels_after stars dots pattern
labels_after stars dots (Star ∷ pattern) = StarLabel stars ∷ labels_after (stars + 1) dots pattern
labels_after stars dots (Dots ∷ pattern) = DotsLabel dots ∷ labels_after stars (dots + 1) pattern
labels_after stars dots (Place k ∷ pattern) = PlaceLabel k ∷ labels_after stars dots pattern

-- how many `*` and how many `...` stand before the next specifier
abbrev pub stars_past : Label → ℕ → ℕ
stars_past (StarLabel n) stars = stars + 1
stars_past _ stars = stars

abbrev pub dots_past : Label → ℕ → ℕ
dots_past (DotsLabel n) dots = dots + 1
dots_past _ dots = dots

abbrev pub labels : List Piece → List Label
labels pattern = labels_after 0 0 pattern

abbrev pub stands_once : List Label → Label → Bool
stands_once labels label = count_by (same_label label) labels == 1

-- equally many `*`, equally many `...`, and the same `%%k`, each once: each specifier of either pattern is answered by just one of the other
abbrev pub same_specifiers : List Piece → List Piece → Bool
same_specifiers one other = list_all (stands_once (labels other)) (labels one) && list_all (stands_once (labels one)) (labels other)

-- the text of a label, where the texts are those of these labels
abbrev pub text_for : List Label → List (List ℕ) → Label → List ℕ
text_for [] texts label = []
text_for (l ∷ ls) [] label = []
text_for (l ∷ ls) (t ∷ ts) label = if same_label l label then t else text_for ls ts label

-- texts of the specifiers of one pattern, in the order of those of another
abbrev pub answering : List Piece → List Piece → List (List ℕ) → List (List ℕ)
answering from to texts = map (text_for (labels from) texts) (labels to)
