-- Walks that leap over the files below a directory that is told already. A pattern without `...` fits directories of one depth alone, so each file has one
-- directory that it may fit (Command-Line Reference, "p4 dirs"). How the walk goes is this project's own choice.
use Rattle.std.specs.Prelude.{◌≡◌, ◌==◌, ◌&&◌, ◌++◌, ◌+◌, ℕ, zero, suc, Bool, true, false, not, List, [], ◌∷◌, drop, filter, if◌then◌else◌, take, Option, Some, None, option_map}
use Rattle.std.specs.Cmp.Lexicographic.{slice_cmp}
use Rattle.std.specs.Ordering.{is_lt, nat_cmp}
use Rattle.depot_rows.specs.depot_path.Fit.{fits}
use Rattle.depot_rows.specs.depot_path.Path.{printed}
use Rattle.depot_rows.specs.depot_path.declared.piece.Piece.{Piece}
use Rattle.depot_rows.specs.depot_path.declared.piece.Piece.TheVariants.{Byte, Dots}
use Rattle.named_files.specs.Listed.{has_beginning}
use Rattle.history_query.specs.Directories.{text_inserted}

abbrev pub is_dots : Piece → Bool
is_dots Dots = true
is_dots _ = false

abbrev pub is_slash : Piece → Bool
is_slash (Byte b) = b == 0x2F
is_slash _ = false

-- how many slashes a text has
abbrev pub slash_count : List ℕ → ℕ
slash_count [] = 0
slash_count (b ∷ text) = (if b == 0x2F then 1 else 0) + slash_count text

-- each text that fits has so many slashes behind two
abbrev pub IsDepth : List Piece → ℕ → Type 0
IsDepth pattern depth = (text : List ℕ) → fits pattern text ≡ true → slash_count text ≡ suc (suc depth)

-- the front of a text that ends at the slash with so many before it
abbrev pub front_before : ℕ → List ℕ → Option (List ℕ)
front_before n [] = None
front_before zero (b ∷ rest) = if b == 0x2F then Some [] else option_map (λ front. b ∷ front) (front_before zero rest)
front_before (suc n) (b ∷ rest) = option_map (λ front. b ∷ front) (front_before (if b == 0x2F then n else suc n) rest)

-- the directory above a path that has so many slashes behind the first two
abbrev pub directory_at : ℕ → List ℕ → Option (List ℕ)
directory_at depth path = option_map (λ front. take 2 path ++ front) (front_before depth (drop 2 path))

-- the least text behind that of a file, and behind those of all files below a directory: the byte behind `/` is `0`
abbrev pub behind_file : List ℕ → List ℕ
behind_file path = printed path ++ 0 ∷ []

abbrev pub behind_directory : List ℕ → List ℕ
behind_directory directory = printed directory ++ 0x30 ∷ []

-- where the walk goes on behind a file, which is seen or isn't, and what is told of it
abbrev pub next_text : List Piece → ℕ → Bool → List ℕ → List ℕ
next_text pattern depth seen path = elim (directory_at depth path) [
  | None ↦ behind_file path
  | Some directory ↦ if fits pattern directory && not seen then behind_file path else behind_directory directory
]

abbrev pub texts_at : List Piece → ℕ → Bool → List ℕ → List (List ℕ)
texts_at pattern depth seen path = elim (directory_at depth path) [
  | None ↦ []
  | Some directory ↦ if fits pattern directory && seen then printed directory ∷ [] else []
]

-- the files from a text on, and the first of some, where it begins with a text
abbrev pub files_from : List ℕ → List (List ℕ) → List (List ℕ)
files_from text files = filter (λ path. not (is_lt (slice_cmp nat_cmp (printed path) text))) files

abbrev pub first_begun : List ℕ → List (List ℕ) → Option (List ℕ)
first_begun beginning [] = None
first_begun beginning (path ∷ files) = if has_beginning beginning path then Some path else None

-- texts put into a set, the last first
abbrev pub texts_put : List (List ℕ) → List (List ℕ) → List (List ℕ)
texts_put [] texts = texts
texts_put (text ∷ more) texts = text_inserted text (texts_put more texts)
