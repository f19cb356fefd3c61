-- Values that the definitions give.
use Rattle.std.proofs.Common.{◌≡◌, ℕ, zero, suc, List, [], ◌∷◌, refl, Ok, Err, Result}
use Rattle.std.specs.Prelude.{codes}
use Rattle.view_map.specs.Mapping.{mapped, files_at}
use Rattle.view_map.specs.Reading.{view_of, in_line}
use Rattle.view_map.specs.Beginnings.{beginnings}
use Rattle.view_map.specs.declared.line.ViewLine.{ViewLine}
use Rattle.view_map.specs.declared.fault.ViewFault.{ViewFault}
use Rattle.view_map.specs.declared.fault.ViewCause.TheVariants.{BadLine, UnequalSpecifiers, TooManyLines, WrongRoot}
use Rattle.view_map.specs.declared.mapped.Mapped.TheVariants.{Nothing, At}

-- the lines that texts spell for the client ws1
abbrev read : List (List ℕ) → Result (List ViewLine) ViewFault
read texts = view_of (codes "ws1") texts

abbrev lines_of : Result (List ViewLine) ViewFault → List ViewLine
lines_of (Ok view) = view
lines_of (Err fault) = []

abbrev lines : List (List ℕ) → List ViewLine
lines texts = lines_of (read texts)

-- a view with an exclusion, and a line over an earlier one's client paths
abbrev hiding : List ViewLine
hiding = lines (codes "//depot/... //ws1/..." ∷ codes "-//depot/tmp/... //ws1/tmp/..." ∷ codes "//depot/lib/... //ws1/src/..." ∷ [])

plain : mapped hiding (codes "//depot/a") ≡ At (codes "//ws1/a") []
plain = refl

excluded : mapped hiding (codes "//depot/tmp/x") ≡ Nothing
excluded = refl

moved : mapped hiding (codes "//depot/lib/x") ≡ At (codes "//ws1/src/x") []
moved = refl

hidden : mapped hiding (codes "//depot/src/x") ≡ Nothing
hidden = refl

owned : files_at hiding (codes "//ws1/src/x") ≡ codes "//depot/lib/x" ∷ []
owned = refl

unfilled : files_at hiding (codes "//ws1/tmp/x") ≡ []
unfilled = refl

-- a view with overlays: three lines put a file at one client path
abbrev overlaid : List ViewLine
overlaid = lines (codes "//depot/base/... //ws1/..." ∷ codes "+//depot/over/... //ws1/..." ∷ codes "+//depot/top/... //ws1/..." ∷ [])

below : mapped overlaid (codes "//depot/base/a") ≡ At (codes "//ws1/a") (codes "//depot/top/a" ∷ codes "//depot/over/a" ∷ [])
below = refl

between : mapped overlaid (codes "//depot/over/a") ≡ At (codes "//ws1/a") (codes "//depot/top/a" ∷ [])
between = refl

above : mapped overlaid (codes "//depot/top/a") ≡ At (codes "//ws1/a") []
above = refl

all_three : files_at overlaid (codes "//ws1/a") ≡ codes "//depot/top/a" ∷ codes "//depot/over/a" ∷ codes "//depot/base/a" ∷ []
all_three = refl

-- an exclusion takes files from earlier overlay lines too
abbrev cut_off : List ViewLine
cut_off = lines (codes "//depot/... //ws1/..." ∷ codes "+//other/... //ws1/..." ∷ codes "-//other/a/... //ws1/none/..." ∷ [])

cut : mapped cut_off (codes "//other/a/x") ≡ Nothing
cut = refl

without_rival : mapped cut_off (codes "//depot/a/x") ≡ At (codes "//ws1/a/x") []
without_rival = refl

with_rival : mapped cut_off (codes "//depot/b/x") ≡ At (codes "//ws1/b/x") (codes "//other/b/x" ∷ [])
with_rival = refl

-- the n-th `*` answers the n-th `*`, and `%%1` answers `%%1`
abbrev exchanged : List ViewLine
exchanged = lines (codes "//depot/%%1.%%2/*.c/* //ws1/%%2/%%1/*.h/*" ∷ [])

exchanges : mapped exchanged (codes "//depot/a.b/f.c/g") ≡ At (codes "//ws1/b/a/f.h/g") []
exchanges = refl

exchanges_back : files_at exchanged (codes "//ws1/b/a/f.h/g") ≡ codes "//depot/a.b/f.c/g" ∷ []
exchanges_back = refl

-- where the client side's own cut gives other texts, the line doesn't take the file
abbrev doubtful : List ViewLine
doubtful = lines (codes "//depot/%%1/%%2 //ws1/%%1.%%2" ∷ [])

clear : mapped doubtful (codes "//depot/a/b.c") ≡ At (codes "//ws1/a.b.c") []
clear = refl

unclear : mapped doubtful (codes "//depot/a.b/c") ≡ Nothing
unclear = refl

-- what is made is to be a path
no_path : mapped (lines (codes "//depot/a/* //ws1/.*" ∷ [])) (codes "//depot/a/.") ≡ Nothing
no_path = refl

-- signs and quotes
quoted : lines (codes "\"-//depot/a b/...\"  \"//ws1/c d/...\"  " ∷ []) ≡ lines (codes "-\"//depot/a b/...\" \"//ws1/c d/...\"" ∷ [])
quoted = refl

spaced : mapped (lines (codes "\"//depot/a b/...\" \"//ws1/c d/...\"" ∷ [])) (codes "//depot/a b/x") ≡ At (codes "//ws1/c d/x") []
spaced = refl

two_signs : read (codes "-\"-//depot/a\" //ws1/a" ∷ []) ≡ Err (in_line 1 BadLine)
two_signs = refl

one_side : read (codes "//depot/... " ∷ []) ≡ Err (in_line 1 BadLine)
one_side = refl

three_sides : read (codes "//depot/a //ws1/a //ws1/b" ∷ []) ≡ Err (in_line 1 BadLine)
three_sides = refl

no_gap : read (codes "\"//depot/a\"//ws1/a" ∷ []) ≡ Err (in_line 1 BadLine)
no_gap = refl

unclosed : read (codes "\"//depot/a //ws1/a" ∷ []) ≡ Err (in_line 1 BadLine)
unclosed = refl

-- the first bad line
second_bad : read (codes "//depot/... //ws1/..." ∷ codes "//depot/* //ws1/..." ∷ codes "//depot/... //ws/..." ∷ []) ≡ Err (in_line 2 UnequalSpecifiers)
second_bad = refl

twice : read (codes "//depot/%%1/%%1 //ws1/%%1/%%1" ∷ []) ≡ Err (in_line 1 UnequalSpecifiers)
twice = refl

-- a client's name that another's begins with
wrong_root : read (codes "//depot/... //ws12/..." ∷ []) ≡ Err (in_line 1 WrongRoot)
wrong_root = refl

too_short : read (codes "//depot/... //ws1" ∷ []) ≡ Err (in_line 1 UnequalSpecifiers)
too_short = refl

abbrev many : ℕ → List (List ℕ)
many zero = []
many (suc n) = codes "//" ∷ many n

too_many : read (many 201) ≡ Err (in_line 201 TooManyLines)
too_many = refl

first_of_many : read (many 200) ≡ Err (in_line 1 BadLine)
first_of_many = refl

-- where a walk over files begins
begins_below : beginnings (codes "//ws1/src/") hiding ≡ codes "//depot/src/" ∷ codes "//depot/lib/" ∷ []
begins_below = refl

begins_above : beginnings (codes "//ws1/") exchanged ≡ codes "//depot/" ∷ []
begins_above = refl

begins_beside : beginnings (codes "//ws1/doc/") (lines (codes "//depot/src/... //ws1/src/..." ∷ [])) ≡ []
begins_beside = refl
