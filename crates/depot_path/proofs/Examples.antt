-- Values that the definitions give.
use Rattle.std.proofs.Common.{◌≡◌, [], ◌∷◌, Some, None, refl, Ok, Err, true, false, pos}
use Rattle.std.specs.Prelude.{codes}
use Rattle.depot_path.specs.Path.{path_of, printed}
use Rattle.depot_path.specs.Pattern.{pattern_of, literal}
use Rattle.depot_path.specs.Fit.{texts}
use Rattle.depot_path.specs.Revision.{wanted_of}
use Rattle.depot_path.specs.declared.fault.PathFault.TheVariants.{EmptyPart, BadEscape, BadDate, BadRange, BadRevision}
use Rattle.depot_path.specs.declared.piece.Piece.TheVariants.{Byte, Star, Dots, Place}
use Rattle.depot_path.specs.declared.revision.RevSpec.TheVariants.{Change, Moment, Number, Only}
use Rattle.depot_path.specs.declared.revision.Wanted.TheVariants.{One, Range}

reads_escape : path_of (codes "//ws1/a%40b") ≡ Ok (codes "//ws1/a@b")
reads_escape = refl

prints_escape : printed (codes "//ws1/a@b") ≡ codes "//ws1/a%40b"
prints_escape = refl

refuses_escape : path_of (codes "//ws1/a%4") ≡ Err BadEscape
refuses_escape = refl

refuses_one_component : path_of (codes "//ws1") ≡ Err EmptyPart
refuses_one_component = refl

-- a run of dots is read from the left, three at a time
reads_pattern : pattern_of true (codes "//a%%1/....") ≡ Ok (Byte 47 ∷ Byte 47 ∷ Byte 97 ∷ Place 1 ∷ Byte 47 ∷ Dots ∷ Byte 46 ∷ [])
reads_pattern = refl

begins : literal (Byte 47 ∷ Byte 97 ∷ Star ∷ Byte 98 ∷ []) ≡ codes "/a"
begins = refl

-- `*a*` in `aab`: the first star takes nothing
shortest_first : texts (Star ∷ Byte 97 ∷ Star ∷ []) (codes "aab") ≡ Some ([] ∷ codes "ab" ∷ [])
shortest_first = refl

no_slash : texts (Star ∷ []) (codes "a/b") ≡ None
no_slash = refl

date : wanted_of false (codes "2023/11/14:22:13:20") ≡ Ok (One (Moment (pos 1700000000)))
date = refl

no_date : wanted_of false (codes "2023/13/01") ≡ Err BadDate
no_date = refl

only : wanted_of false (codes "=1") ≡ Ok (One (Only 1))
only = refl

second_mark : wanted_of false (codes "1,@1") ≡ Ok (Range (Change 1) (Change 1))
second_mark = refl

one_mark : wanted_of true (codes "3,5") ≡ Ok (Range (Number 3) (Number 5))
one_mark = refl

two_marks : wanted_of true (codes "1,@1") ≡ Err BadRange
two_marks = refl

comma : wanted_of false (codes "1,2,3") ≡ Err BadRevision
comma = refl
