-- Which of a few words stands at the front, each with the byte that ends it.
use Rattle.std.specs.Prelude.{ℕ, suc, ◌-◌, ◌==◌, nat_le, nat_eq, List, [], ◌∷◌, length, drop, Option, Some, None, if◌then◌else◌}
use Rattle.std.specs.List.{starts_with}
use Rattle.record_text.specs.declared.fault.Part.{Part}
use Rattle.record_text.specs.Reading.{Reading, Done, Ends, Wrong}

-- the first of the values with whose text the bytes begin
abbrev pub first_word : {A : Type 0} → (A → List ℕ) → List A → List ℕ → Option A
first_word text [] bytes = None
first_word text (value ∷ values) bytes = if starts_with nat_eq bytes (text value) then Some value else first_word text values bytes

-- how many bytes two texts have in common at their fronts
abbrev pub common : List ℕ → List ℕ → ℕ
common [] bytes = 0
common (x ∷ text) [] = 0
common (x ∷ text) (y ∷ bytes) = if x == y then suc (common text bytes) else 0

abbrev pub greater : ℕ → ℕ → ℕ
greater m n = if nat_le m n then n else m

-- how many bytes at the front are those of some text
abbrev pub reach : {A : Type 0} → (A → List ℕ) → List A → List ℕ → ℕ
reach text [] bytes = 0
reach text (value ∷ values) bytes = greater (common (text value) bytes) (reach text values bytes)

-- bytes that begin with no word end before one does, or the first byte that can't go on is behind those that some text has
abbrev pub word_read : {A : Type 0} → (A → List ℕ) → Part → List ℕ → Option A → ℕ → Reading A
word_read text part bytes (Some value) going = Done value (drop (length (text value)) bytes)
word_read text part bytes None going = if nat_le (length bytes) going then Ends else Wrong part (length bytes - going)

abbrev pub word_at : {A : Type 0} → (A → List ℕ) → List A → Part → List ℕ → Reading A
word_at text values part bytes = word_read text part bytes (first_word text values bytes) (reach text values bytes)
