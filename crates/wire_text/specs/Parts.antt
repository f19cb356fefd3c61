-- Words about the parts of a line: its bytes up to a separator, and what stands behind that.
use Rattle.std.specs.Prelude.{◌≡◌, ℕ, ◌+◌, Bool, false, ◌==◌, nat_lt, if◌then◌else◌, List, [], ◌∷◌, length, drop, map, Option, Some, None}
use Rattle.std.specs.Borrow.{Bor}
use Rattle.std.specs.List.{slice_split}

-- the bytes before the first separator
abbrev pub upto : ℕ → List ℕ → List ℕ
upto sep [] = []
upto sep (b ∷ text) = if b == sep then [] else b ∷ upto sep text

-- what stands behind the first separator
abbrev pub past : ℕ → List ℕ → List ℕ
past sep text = drop (length (upto sep text) + 1) text

-- there is a separator
abbrev pub is_in : ℕ → List ℕ → Bool
is_in sep text = nat_lt (length (upto sep text)) (length text)

-- no byte is the separator
abbrev pub IsFree : ℕ → List ℕ → Type 0
IsFree sep [] = Unit {0}
IsFree sep (b ∷ text) = ((b == sep) ≡ false) × IsFree sep text

-- what stands before and behind the last separator, where there is one
pub record Halves : Type 0 where
  pub before : List ℕ
  pub behind : List ℕ

abbrev pub cut_or : Option Halves → Bool → ℕ → List ℕ → Option Halves
cut_or (Some halves) is b text = Some (record { before = b ∷ halves.before; behind = halves.behind })
cut_or None is b text = if is then Some (record { before = []; behind = text }) else None

abbrev pub last_cut : ℕ → List ℕ → Option Halves
last_cut sep [] = None
last_cut sep (b ∷ text) = cut_or (last_cut sep text) (b == sep) b text

-- the parts between the spaces
abbrev pub parted : List ℕ → List (List ℕ)
parted line = slice_split (λ b. b == 0x20) line

abbrev pub texts : List (Bor (List ℕ)) → List (List ℕ)
texts slices = map (λ slice. slice.now) slices
