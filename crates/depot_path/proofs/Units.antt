-- A text and the bytes that it spells, mark by mark: a mark is a byte that stands for itself, or an escape.
use Rattle.std.proofs.Common.{◌≡◌, ℕ, zero, suc, ◌-◌, ◌≤◌, Bool, true, false, cond, nat_le, List, [], ◌∷◌, ◌++◌, drop, take, length, map, Option, Some, None, refl, sym, ap, ◌∙◌, arith, lit≤}
use Rattle.std.proofs.lemmas.Bool.Decides.{nat_tests}
use Rattle.std.proofs.lemmas.Bool.{eqb-true, or_parts}
use Rattle.std.specs.Prelude.{codes, ◌==◌, ◌||◌, ◌&&◌, nat_eq, is_none}
use Rattle.std.specs.List.{list_any, slice_split, onto_first, flat_map}
use Rattle.std.specs.Cmp.Lexicographic.{pointwise, same_text}
use Rattle.std.proofs.lemmas.List.{take-append-drop}
use Rattle.depot_path.specs.declared.utf8.Tail.{Tail}
use Rattle.depot_path.specs.Bytes.{is_among, is_control, same, begins_with}
use Rattle.depot_path.specs.Utf8.{goes_on, tail, tail_past, tail_of, is_between}
use Rattle.depot_path.specs.Path.{escaped, printed, escape_at, unescaped, has_bad_escape, has_three_dots}

pub data Mark : Type 0 where
  Plain : ℕ → Mark
  At : Mark
  Hash : Mark
  Star : Mark
  SmallStar : Mark
  Percent : Mark

abbrev pub source : Mark → List ℕ
source (Plain b) = b ∷ []
source At = codes "%40"
source Hash = codes "%23"
source Star = codes "%2A"
source SmallStar = codes "%2a"
source Percent = codes "%25"

abbrev pub value : Mark → ℕ
value (Plain b) = b
value At = 0x40
value Hash = 0x23
value Star = 0x2A
value SmallStar = 0x2A
value Percent = 0x25

-- the text, and the bytes that it spells
abbrev pub spelled : List Mark → List ℕ
spelled marks = flat_map source marks

abbrev pub meant : List Mark → List ℕ
meant marks = map value marks

-- a byte that has no escape
pub record IsPlain (b : ℕ) : Type 0 where
  pub no_at : (b == 0x40) ≡ false
  pub no_hash : (b == 0x23) ≡ false
  pub no_star : (b == 0x2A) ≡ false
  pub no_percent : (b == 0x25) ≡ false

abbrev pub IsMark : Mark → Type 0
IsMark (Plain b) = IsPlain b
IsMark _ = Unit {0}

abbrev pub AreMarks : List Mark → Type 0
AreMarks [] = Unit {0}
AreMarks (m ∷ marks) = IsMark m × AreMarks marks

-- ---- the tests see both alike

-- the byte before what follows, in both
abbrev pub SameAny : (ℕ → Bool) → List Mark → Type 0
SameAny test marks = list_any test (spelled marks) ≡ list_any test (meant marks)

pub same_control : (marks : List Mark) → SameAny is_control marks
same_control [] = refl
same_control (Plain b ∷ marks) = ap (λ r. is_control b || r) (same_control marks)
same_control (At ∷ marks) = same_control marks
same_control (Hash ∷ marks) = same_control marks
same_control (Star ∷ marks) = same_control marks
same_control (SmallStar ∷ marks) = same_control marks
same_control (Percent ∷ marks) = same_control marks

-- a beginning of dots
same_one : (marks : List Mark) → begins_with (spelled marks) (codes ".") ≡ begins_with (meant marks) (codes ".")
same_one [] = refl
same_one (Plain b ∷ marks) = refl
same_one (At ∷ marks) = refl
same_one (Hash ∷ marks) = refl
same_one (Star ∷ marks) = refl
same_one (SmallStar ∷ marks) = refl
same_one (Percent ∷ marks) = refl

same_two : (marks : List Mark) → begins_with (spelled marks) (codes "..") ≡ begins_with (meant marks) (codes "..")
same_two [] = refl
same_two (Plain b ∷ marks) = ap (λ r. nat_eq 46 b && r) (same_one marks)
same_two (At ∷ marks) = refl
same_two (Hash ∷ marks) = refl
same_two (Star ∷ marks) = refl
same_two (SmallStar ∷ marks) = refl
same_two (Percent ∷ marks) = refl

same_three : (marks : List Mark) → begins_with (spelled marks) (codes "...") ≡ begins_with (meant marks) (codes "...")
same_three [] = refl
same_three (Plain b ∷ marks) = ap (λ r. nat_eq 46 b && r) (same_two marks)
same_three (At ∷ marks) = refl
same_three (Hash ∷ marks) = refl
same_three (Star ∷ marks) = refl
same_three (SmallStar ∷ marks) = refl
same_three (Percent ∷ marks) = refl

pub both_or : {a b c d : Bool} → a ≡ b → c ≡ d → (a || c) ≡ (b || d)
both_or e f = cc

pub same_dots : (marks : List Mark) → has_three_dots (spelled marks) ≡ has_three_dots (meant marks)
same_dots [] = refl
same_dots (Plain b ∷ marks) = both_or (same_three (Plain b ∷ marks)) (same_dots marks)
same_dots (At ∷ marks) = same_dots marks
same_dots (Hash ∷ marks) = same_dots marks
same_dots (Star ∷ marks) = same_dots marks
same_dots (SmallStar ∷ marks) = same_dots marks
same_dots (Percent ∷ marks) = same_dots marks

-- the two slashes
pub same_slashes : (marks : List Mark) → begins_with (spelled marks) (codes "//") ≡ begins_with (meant marks) (codes "//")
same_slashes [] = refl
same_slashes (At ∷ marks) = refl
same_slashes (Hash ∷ marks) = refl
same_slashes (Star ∷ marks) = refl
same_slashes (SmallStar ∷ marks) = refl
same_slashes (Percent ∷ marks) = refl
same_slashes (Plain b ∷ []) = refl
same_slashes (Plain b ∷ Plain c ∷ marks) = refl
same_slashes (Plain b ∷ At ∷ marks) = refl
same_slashes (Plain b ∷ Hash ∷ marks) = refl
same_slashes (Plain b ∷ Star ∷ marks) = refl
same_slashes (Plain b ∷ SmallStar ∷ marks) = refl
same_slashes (Plain b ∷ Percent ∷ marks) = refl

-- characters
abbrev pub IsFine : Option Tail → Type 0
IsFine None = Unit {0}
IsFine (Some t) = nat_le t.low 0x7F ≡ false

fine_if : (c : Bool) (a b : Option Tail) → IsFine a → IsFine b → IsFine (cond c a b)
fine_if true a b h k = h
fine_if false a b h k = k

abbrev rest_7 : ℕ → Option Tail
rest_7 b = cond (b == 0xF4) (Some (tail 3 0x80 0x8F)) None

fine_7 : (b : ℕ) → IsFine (rest_7 b)
fine_7 b = fine_if (b == 0xF4) (Some (tail 3 0x80 0x8F)) None refl tt

abbrev rest_6 : ℕ → Option Tail
rest_6 b = cond (is_between 0xF1 0xF3 b) (Some (tail 3 0x80 0xBF)) (rest_7 b)

fine_6 : (b : ℕ) → IsFine (rest_6 b)
fine_6 b = fine_if (is_between 0xF1 0xF3 b) (Some (tail 3 0x80 0xBF)) (rest_7 b) refl (fine_7 b)

abbrev rest_5 : ℕ → Option Tail
rest_5 b = cond (b == 0xF0) (Some (tail 3 0x90 0xBF)) (rest_6 b)

fine_5 : (b : ℕ) → IsFine (rest_5 b)
fine_5 b = fine_if (b == 0xF0) (Some (tail 3 0x90 0xBF)) (rest_6 b) refl (fine_6 b)

abbrev rest_4 : ℕ → Option Tail
rest_4 b = cond (is_between 0xE1 0xEF b) (Some (tail 2 0x80 0xBF)) (rest_5 b)

fine_4 : (b : ℕ) → IsFine (rest_4 b)
fine_4 b = fine_if (is_between 0xE1 0xEF b) (Some (tail 2 0x80 0xBF)) (rest_5 b) refl (fine_5 b)

abbrev rest_3 : ℕ → Option Tail
rest_3 b = cond (b == 0xED) (Some (tail 2 0x80 0x9F)) (rest_4 b)

fine_3 : (b : ℕ) → IsFine (rest_3 b)
fine_3 b = fine_if (b == 0xED) (Some (tail 2 0x80 0x9F)) (rest_4 b) refl (fine_4 b)

abbrev rest_2 : ℕ → Option Tail
rest_2 b = cond (b == 0xE0) (Some (tail 2 0xA0 0xBF)) (rest_3 b)

fine_2 : (b : ℕ) → IsFine (rest_2 b)
fine_2 b = fine_if (b == 0xE0) (Some (tail 2 0xA0 0xBF)) (rest_3 b) refl (fine_3 b)

abbrev pub rest_1 : ℕ → Option Tail
rest_1 b = cond (is_between 0xC2 0xDF b) (Some (tail 1 0x80 0xBF)) (rest_2 b)

fine_1 : (b : ℕ) → IsFine (rest_1 b)
fine_1 b = fine_if (is_between 0xC2 0xDF b) (Some (tail 1 0x80 0xBF)) (rest_2 b) refl (fine_2 b)

fine_0 : (b : ℕ) → IsFine (tail_of b)
fine_0 b = fine_if (nat_le b 0x7F) (Some (tail 0 0x80 0xBF)) (rest_1 b) refl (fine_1 b)

fine_past : (t : Tail) (b : ℕ) → IsFine (tail_past t b)
fine_past t b =
    fine_if (t.more == 0) (tail_of b) (cond (is_between t.low t.high b) (Some (tail (t.more - 1) 0x80 0xBF)) None)
    (fine_0 b) (fine_if (is_between t.low t.high b) (Some (tail (t.more - 1) 0x80 0xBF)) None refl tt)

-- the start of a character
abbrev pub start : Tail
start = tail 0 0x80 0xBF

-- an ASCII byte ends no character that goes on, and is one where none does
ascii : (t : Tail) (b : ℕ) (text : List ℕ) → tail_of b ≡ Some start → nat_le t.low b ≡ false → goes_on (Some t) (b ∷ text) ≡ (t.more == 0) && goes_on (Some start) text
ascii t b text e f = go (t.more == 0)
  where
    go : (c : Bool) → goes_on (cond c (tail_of b) (cond (nat_le t.low b && nat_le b t.high) (Some (tail (t.more - 1) 0x80 0xBF)) None)) text ≡ c && goes_on (Some start) text
    go true = ap (λ o. goes_on o text) e
    go false = ap (λ low. goes_on (cond (low && nat_le b t.high) (Some (tail (t.more - 1) 0x80 0xBF)) None) text) f

below : (low b : ℕ) → b ≤ 0x7F → nat_le low 0x7F ≡ false → nat_le low b ≡ false
below low b h f = grind (arith, nat_tests)

coded : (t : Tail) (b c : ℕ) (text path : List ℕ) → tail_of b ≡ Some start → tail_of c ≡ Some start → b ≤ 0x7F → c ≤ 0x7F → IsFine (Some t) →
    goes_on (Some start) text ≡ goes_on (Some start) path → goes_on (Some t) (b ∷ text) ≡ goes_on (Some t) (c ∷ path)
coded t b c text path e f h k low same =
    ascii t b text e (below t.low b h low) ∙ ap (λ r. (t.more == 0) && r) same ∙ sym (ascii t c path f (below t.low c k low))

pub same_chars : (marks : List Mark) (o : Option Tail) → IsFine o → goes_on o (spelled marks) ≡ goes_on o (meant marks)
same_chars [] o h = refl
same_chars (Plain b ∷ marks) None h = refl
same_chars (Plain b ∷ marks) (Some t) h = same_chars marks (tail_past t b) (fine_past t b)
same_chars (At ∷ marks) None h = refl
same_chars (At ∷ marks) (Some t) h = coded t 37 0x40 (codes "40" ++ spelled marks) (meant marks) refl refl (lit≤ tt) (lit≤ tt) h (same_chars marks (Some start) refl)
same_chars (Hash ∷ marks) None h = refl
same_chars (Hash ∷ marks) (Some t) h = coded t 37 0x23 (codes "23" ++ spelled marks) (meant marks) refl refl (lit≤ tt) (lit≤ tt) h (same_chars marks (Some start) refl)
same_chars (Star ∷ marks) None h = refl
same_chars (Star ∷ marks) (Some t) h = coded t 37 0x2A (codes "2A" ++ spelled marks) (meant marks) refl refl (lit≤ tt) (lit≤ tt) h (same_chars marks (Some start) refl)
same_chars (SmallStar ∷ marks) None h = refl
same_chars (SmallStar ∷ marks) (Some t) h = coded t 37 0x2A (codes "2a" ++ spelled marks) (meant marks) refl refl (lit≤ tt) (lit≤ tt) h (same_chars marks (Some start) refl)
same_chars (Percent ∷ marks) None h = refl
same_chars (Percent ∷ marks) (Some t) h = coded t 37 0x25 (codes "25" ++ spelled marks) (meant marks) refl refl (lit≤ tt) (lit≤ tt) h (same_chars marks (Some start) refl)

-- components
abbrev pub is_slash : Mark → Bool
is_slash (Plain b) = b == 0x2F
is_slash _ = false

abbrev pub parts_of : List Mark → List (List Mark)
parts_of marks = slice_split is_slash marks

abbrev pub slash_split : List ℕ → List (List ℕ)
slash_split text = slice_split (λ b. b == 0x2F) text

-- each byte before the first part
abbrev fold_onto : List ℕ → List (List ℕ) → List (List ℕ)
fold_onto [] parts = parts
fold_onto (b ∷ bytes) parts = onto_first b (fold_onto bytes parts)

onto_spelled : (m : Mark) (parts : List (List Mark)) → map spelled (onto_first m parts) ≡ fold_onto (source m) (map spelled parts)
onto_spelled (Plain b) [] = refl
onto_spelled (Plain b) (part ∷ parts) = refl
onto_spelled At [] = refl
onto_spelled At (part ∷ parts) = refl
onto_spelled Hash [] = refl
onto_spelled Hash (part ∷ parts) = refl
onto_spelled Star [] = refl
onto_spelled Star (part ∷ parts) = refl
onto_spelled SmallStar [] = refl
onto_spelled SmallStar (part ∷ parts) = refl
onto_spelled Percent [] = refl
onto_spelled Percent (part ∷ parts) = refl

onto_meant : (m : Mark) (parts : List (List Mark)) → map meant (onto_first m parts) ≡ onto_first (value m) (map meant parts)
onto_meant m [] = refl
onto_meant m (part ∷ parts) = refl

plain_parts : (f : List Mark → List ℕ) (b : ℕ) (parts : List (List Mark)) (split : List (List ℕ)) → split ≡ map f parts → f [] ≡ [] →
    map f (onto_first (Plain b) parts) ≡ onto_first b (map f parts) →
    (c : Bool) → cond c ([] ∷ split) (onto_first b split) ≡ map f (cond c ([] ∷ parts) (onto_first (Plain b) parts))
plain_parts f b parts split e z o true = cc
plain_parts f b parts split e z o false = ap (λ r. onto_first b r) e ∙ sym o

pub split_spelled : (marks : List Mark) → slash_split (spelled marks) ≡ map spelled (parts_of marks)
split_spelled [] = refl
split_spelled (Plain b ∷ marks) = plain_parts spelled b (parts_of marks) (slash_split (spelled marks)) (split_spelled marks) refl (onto_spelled (Plain b) (parts_of marks)) (b == 0x2F)
split_spelled (At ∷ marks) = ap (λ r. fold_onto (source At) r) (split_spelled marks) ∙ sym (onto_spelled At (parts_of marks))
split_spelled (Hash ∷ marks) = ap (λ r. fold_onto (source Hash) r) (split_spelled marks) ∙ sym (onto_spelled Hash (parts_of marks))
split_spelled (Star ∷ marks) = ap (λ r. fold_onto (source Star) r) (split_spelled marks) ∙ sym (onto_spelled Star (parts_of marks))
split_spelled (SmallStar ∷ marks) = ap (λ r. fold_onto (source SmallStar) r) (split_spelled marks) ∙ sym (onto_spelled SmallStar (parts_of marks))
split_spelled (Percent ∷ marks) = ap (λ r. fold_onto (source Percent) r) (split_spelled marks) ∙ sym (onto_spelled Percent (parts_of marks))

pub split_meant : (marks : List Mark) → slash_split (meant marks) ≡ map meant (parts_of marks)
split_meant [] = refl
split_meant (Plain b ∷ marks) = plain_parts meant b (parts_of marks) (slash_split (meant marks)) (split_meant marks) refl (onto_meant (Plain b) (parts_of marks)) (b == 0x2F)
split_meant (At ∷ marks) = ap (λ r. onto_first 0x40 r) (split_meant marks) ∙ sym (onto_meant At (parts_of marks))
split_meant (Hash ∷ marks) = ap (λ r. onto_first 0x23 r) (split_meant marks) ∙ sym (onto_meant Hash (parts_of marks))
split_meant (Star ∷ marks) = ap (λ r. onto_first 0x2A r) (split_meant marks) ∙ sym (onto_meant Star (parts_of marks))
split_meant (SmallStar ∷ marks) = ap (λ r. onto_first 0x2A r) (split_meant marks) ∙ sym (onto_meant SmallStar (parts_of marks))
split_meant (Percent ∷ marks) = ap (λ r. onto_first 0x25 r) (split_meant marks) ∙ sym (onto_meant Percent (parts_of marks))

pub any_part : (test : List ℕ → Bool) → ((part : List Mark) → test (spelled part) ≡ test (meant part)) → (parts : List (List Mark)) →
    list_any test (map spelled parts) ≡ list_any test (map meant parts)
any_part test same [] = refl
any_part test same (part ∷ parts) = both_or (same part) (any_part test same parts)

pub count_parts : (parts : List (List Mark)) → length (map spelled parts) ≡ length (map meant parts)
count_parts [] = refl
count_parts (part ∷ parts) = ap (λ n. suc n) (count_parts parts)

pub same_empty : (part : List Mark) → same [] (spelled part) ≡ same [] (meant part)
same_empty [] = refl
same_empty (Plain b ∷ part) = refl
same_empty (At ∷ part) = refl
same_empty (Hash ∷ part) = refl
same_empty (Star ∷ part) = refl
same_empty (SmallStar ∷ part) = refl
same_empty (Percent ∷ part) = refl

is_nothing : (part : List Mark) → same (spelled part) [] ≡ same (meant part) []
is_nothing [] = refl
is_nothing (Plain b ∷ part) = refl
is_nothing (At ∷ part) = refl
is_nothing (Hash ∷ part) = refl
is_nothing (Star ∷ part) = refl
is_nothing (SmallStar ∷ part) = refl
is_nothing (Percent ∷ part) = refl

pub is_dot : (part : List Mark) → same (spelled part) (codes ".") ≡ same (meant part) (codes ".")
is_dot [] = refl
is_dot (Plain b ∷ part) = ap (λ r. nat_eq b 46 && r) (is_nothing part)
is_dot (At ∷ part) = refl
is_dot (Hash ∷ part) = refl
is_dot (Star ∷ part) = refl
is_dot (SmallStar ∷ part) = refl
is_dot (Percent ∷ part) = refl

pub is_two_dots : (part : List Mark) → same (spelled part) (codes "..") ≡ same (meant part) (codes "..")
is_two_dots [] = refl
is_two_dots (Plain b ∷ part) = ap (λ r. nat_eq b 46 && r) (is_dot part)
is_two_dots (At ∷ part) = refl
is_two_dots (Hash ∷ part) = refl
is_two_dots (Star ∷ part) = refl
is_two_dots (SmallStar ∷ part) = refl
is_two_dots (Percent ∷ part) = refl

-- ---- what a list of marks spells is read as meant

pub escaped_plain : (b : ℕ) → IsPlain b → escaped b ≡ b ∷ []
escaped_plain b h = simp (h.no_at, h.no_hash, h.no_star, h.no_percent)

pub same_length : (marks : List Mark) → AreMarks marks → length (spelled marks) ≡ length (printed (meant marks))
same_length [] h = refl
same_length (Plain b ∷ marks) h = ap (λ n. suc n) (same_length marks h.1) ∙ ap (λ e. length (e ++ printed (meant marks))) (sym (escaped_plain b h.0))
same_length (At ∷ marks) h = ap (λ n. suc (suc (suc n))) (same_length marks h.1)
same_length (Hash ∷ marks) h = ap (λ n. suc (suc (suc n))) (same_length marks h.1)
same_length (Star ∷ marks) h = ap (λ n. suc (suc (suc n))) (same_length marks h.1)
same_length (SmallStar ∷ marks) h = ap (λ n. suc (suc (suc n))) (same_length marks h.1)
same_length (Percent ∷ marks) h = ap (λ n. suc (suc (suc n))) (same_length marks h.1)

-- a byte other than `%` begins no escape
abbrev some_byte : ℕ → Option ℕ
some_byte b = Some b

no_escape : (c : Bool) (rest : List ℕ) → c ≡ false →
    cond (c && pointwise nat_eq (codes "40") (take 2 rest)) (some_byte 0x40)
    (cond (c && pointwise nat_eq (codes "23") (take 2 rest)) (some_byte 0x23)
    (cond ((c && pointwise nat_eq (codes "2A") (take 2 rest)) || (c && pointwise nat_eq (codes "2a") (take 2 rest))) (some_byte 0x2A)
    (cond (c && pointwise nat_eq (codes "25") (take 2 rest)) (some_byte 0x25) None)))
    ≡ None
no_escape true rest e = absurd cc
no_escape false rest e = refl

turned : (a b : ℕ) → (a == b) ≡ false → nat_eq b a ≡ false
turned a b e = grind (arith, nat_tests)

plain_escape : (b : ℕ) (rest : List ℕ) → IsPlain b → escape_at (b ∷ rest) ≡ None
plain_escape b rest h = no_escape (nat_eq 37 b) rest (turned b 37 h.no_percent)

reads_plain : (b : ℕ) (rest path : List ℕ) → IsPlain b → unescaped 0 rest ≡ path → unescaped 0 (b ∷ rest) ≡ b ∷ path
reads_plain b rest path h e = simp (plain_escape b rest h) (ap (λ r. b ∷ r) e)

pub reads : (marks : List Mark) → AreMarks marks → unescaped 0 (spelled marks) ≡ meant marks
reads [] h = refl
reads (Plain b ∷ marks) h = reads_plain b (spelled marks) (meant marks) h.0 (reads marks h.1)
reads (At ∷ marks) h = ap (λ r. 0x40 ∷ r) (reads marks h.1)
reads (Hash ∷ marks) h = ap (λ r. 0x23 ∷ r) (reads marks h.1)
reads (Star ∷ marks) h = ap (λ r. 0x2A ∷ r) (reads marks h.1)
reads (SmallStar ∷ marks) h = ap (λ r. 0x2A ∷ r) (reads marks h.1)
reads (Percent ∷ marks) h = ap (λ r. 0x25 ∷ r) (reads marks h.1)

either_false : {a b : Bool} → a ≡ false → b ≡ false → (a || b) ≡ false
either_false e f = cc

plain_no_bad : (b : ℕ) (rest : List ℕ) → IsPlain b → has_bad_escape rest ≡ false → has_bad_escape (b ∷ rest) ≡ false
plain_no_bad b rest h e = simp (turned b 37 h.no_percent) e

pub no_bad : (marks : List Mark) → AreMarks marks → has_bad_escape (spelled marks) ≡ false
no_bad [] h = refl
no_bad (Plain b ∷ marks) h = plain_no_bad b (spelled marks) h.0 (no_bad marks h.1)
no_bad (At ∷ marks) h = no_bad marks h.1
no_bad (Hash ∷ marks) h = no_bad marks h.1
no_bad (Star ∷ marks) h = no_bad marks h.1
no_bad (SmallStar ∷ marks) h = no_bad marks h.1
no_bad (Percent ∷ marks) h = no_bad marks h.1

among : (b : ℕ) → IsPlain b → is_among (codes "@#*") b ≡ false
among b h = simp (turned b 0x40 h.no_at, turned b 0x23 h.no_hash, turned b 0x2A h.no_star)

pub none_barred : (marks : List Mark) → AreMarks marks → list_any (is_among (codes "@#*")) (spelled marks) ≡ false
none_barred [] h = refl
none_barred (Plain b ∷ marks) h = either_false (among b h.0) (none_barred marks h.1)
none_barred (At ∷ marks) h = none_barred marks h.1
none_barred (Hash ∷ marks) h = none_barred marks h.1
none_barred (Star ∷ marks) h = none_barred marks h.1
none_barred (SmallStar ∷ marks) h = none_barred marks h.1
none_barred (Percent ∷ marks) h = none_barred marks h.1

-- ---- the marks of a path, as it is printed

abbrev pub mark_of : ℕ → Mark
mark_of b = cond (b == 0x40) At (cond (b == 0x23) Hash (cond (b == 0x2A) Star (cond (b == 0x25) Percent (Plain b))))

pub record IsMarkOf (b : ℕ) (m : Mark) : Type 0 where
  pub is : IsMark m
  pub source_is : source m ≡ escaped b
  pub value_is : value m ≡ b

abbrev choice : ℕ → Bool → Bool → Bool → Bool → Mark
choice b c d e f = cond c At (cond d Hash (cond e Star (cond f Percent (Plain b))))

abbrev spelling : ℕ → Bool → Bool → Bool → Bool → List ℕ
spelling b c d e f = cond c (codes "%40") (cond d (codes "%23") (cond e (codes "%2A") (cond f (codes "%25") (b ∷ []))))

abbrev IsChoice : ℕ → Bool → Bool → Bool → Bool → Type 0
IsChoice b c d e f = IsMark (choice b c d e f) × (source (choice b c d e f) ≡ spelling b c d e f) × (value (choice b c d e f) ≡ b)

choices : (b : ℕ) (c d e f : Bool) → (b == 0x40) ≡ c → (b == 0x23) ≡ d → (b == 0x2A) ≡ e → (b == 0x25) ≡ f → IsChoice b c d e f
choices b true d e f p q r t = (tt, refl, sym (eqb-true b 0x40 p))
choices b false true e f p q r t = (tt, refl, sym (eqb-true b 0x23 q))
choices b false false true f p q r t = (tt, refl, sym (eqb-true b 0x2A r))
choices b false false false true p q r t = (tt, refl, sym (eqb-true b 0x25 t))
choices b false false false false p q r t = (record { no_at = p; no_hash = q; no_star = r; no_percent = t }, refl, refl)

pub mark_is : (b : ℕ) → IsMarkOf b (mark_of b)
mark_is b =
    let h : IsChoice b (b == 0x40) (b == 0x23) (b == 0x2A) (b == 0x25) = choices b (b == 0x40) (b == 0x23) (b == 0x2A) (b == 0x25) refl refl refl refl in
    record { is = h.0; source_is = h.1; value_is = h.2 }

abbrev pub marks_of : List ℕ → List Mark
marks_of path = map mark_of path

pub marks_are : (path : List ℕ) → AreMarks (marks_of path)
marks_are [] = tt
marks_are (b ∷ path) = let m : IsMarkOf b (mark_of b) = mark_is b in (m.is, marks_are path)

pub marks_spelled : (path : List ℕ) → spelled (marks_of path) ≡ printed path
marks_spelled [] = refl
marks_spelled (b ∷ path) = let m : IsMarkOf b (mark_of b) = mark_is b in ap (λ r. r ++ spelled (marks_of path)) m.source_is ∙ ap (λ r. escaped b ++ r) (marks_spelled path)

pub marks_meant : (path : List ℕ) → meant (marks_of path) ≡ path
marks_meant [] = refl
marks_meant (b ∷ path) = let m : IsMarkOf b (mark_of b) = mark_is b in ap (λ r. r ∷ meant (marks_of path)) m.value_is ∙ ap (λ r. b ∷ r) (marks_meant path)

-- ---- the marks of a text without bad escapes and barred bytes

-- the marks of what follows the first bytes of a text
pub record AreMarksOf (k : ℕ) (text : List ℕ) : Type 0 where
  pub marks : List Mark
  pub are : AreMarks marks
  pub source_is : spelled marks ≡ drop k text
  pub value_is : meant marks ≡ unescaped k text

-- an escape of three bytes, and what follows
code_at : (code text : List ℕ) → pointwise nat_eq code (take 3 text) ≡ true → text ≡ code ++ drop 3 text
code_at code text e = sym (ap (λ w. w ++ drop 3 text) (same_text code (take 3 text) (sym e)) ∙ take-append-drop 3 text)

record Begins (text : List ℕ) (v : ℕ) : Type 0 where
  mark : Mark
  is : IsMark mark
  text_is : text ≡ source mark ++ drop 3 text
  value_is : value mark ≡ v

none_some : {v : ℕ} → (let o : Option ℕ = None in o) ≡ Some v → ⊥
none_some e = absurd cc

escape_is : (text : List ℕ) (v : ℕ) → escape_at text ≡ Some v → Begins text v
escape_is text v e = go (begins_with text (codes "%40")) refl (begins_with text (codes "%23")) refl (begins_with text (codes "%2A")) refl (begins_with text (codes "%2a")) refl (begins_with text (codes "%25")) refl e
  where
    go : (c : Bool) → begins_with text (codes "%40") ≡ c → (d : Bool) → begins_with text (codes "%23") ≡ d → (f : Bool) → begins_with text (codes "%2A") ≡ f
        → (g : Bool) → begins_with text (codes "%2a") ≡ g → (h : Bool) → begins_with text (codes "%25") ≡ h
        → cond c (some_byte 0x40) (cond d (some_byte 0x23) (cond (f || g) (some_byte 0x2A) (cond h (some_byte 0x25) None))) ≡ Some v → Begins text v
    go true p d q f r g s h t e = record { mark = At; is = tt; text_is = code_at (codes "%40") text p; value_is = cc }
    go false p true q f r g s h t e = record { mark = Hash; is = tt; text_is = code_at (codes "%23") text q; value_is = cc }
    go false p false q true r g s h t e = record { mark = Star; is = tt; text_is = code_at (codes "%2A") text r; value_is = cc }
    go false p false q false r true s h t e = record { mark = SmallStar; is = tt; text_is = code_at (codes "%2a") text s; value_is = cc }
    go false p false q false r false s true t e = record { mark = Percent; is = tt; text_is = code_at (codes "%25") text t; value_is = cc }
    go false p false q false r false s false t e = absurd (none_some e)

and_true : (a : Bool) → (a && true) ≡ false → a ≡ false
and_true true e = absurd cc
and_true false e = refl

plain_byte : (b : ℕ) → is_among (codes "@#*") b ≡ false → nat_eq 37 b ≡ false → IsPlain b
plain_byte b e f =
    let g = (or_parts (0x40 == b) _ e).1 in
    record {
      no_at = turned 0x40 b (or_parts (0x40 == b) _ e).0;
      no_hash = turned 0x23 b (or_parts (0x23 == b) _ g).0;
      no_star = turned 0x2A b (or_parts (0x2A == b) _ (or_parts (0x23 == b) _ g).1).0;
      no_percent = turned 0x25 b f;
    }

-- the marks from a byte on that begins no escape, or an escape
mark_first : (b : ℕ) (text : List ℕ) → has_bad_escape (b ∷ text) ≡ false → is_among (codes "@#*") b ≡ false → AreMarksOf 0 text → AreMarksOf 2 text → AreMarksOf 0 (b ∷ text)
mark_first b text e f one three = go (escape_at (b ∷ text)) refl
  where
    go : (o : Option ℕ) → escape_at (b ∷ text) ≡ o → AreMarksOf 0 (b ∷ text)
    go None p =
        let bad : ((nat_eq 37 b && true) && is_none (escape_at (b ∷ text))) ≡ false = (or_parts ((nat_eq 37 b && true) && is_none (escape_at (b ∷ text))) (has_bad_escape text) e).0 in
        let q : (nat_eq 37 b && true) ≡ false = and_true (nat_eq 37 b && true) (ap (λ o. (nat_eq 37 b && true) && is_none o) (sym p) ∙ bad) in
        record {
          marks = Plain b ∷ one.marks;
          are = (plain_byte b f (and_true (nat_eq 37 b) q), one.are);
          source_is = ap (λ r. b ∷ r) one.source_is;
          value_is = simp p (ap (λ r. b ∷ r) one.value_is);
        }
    go (Some v) p =
        let r : Begins (b ∷ text) v = escape_is (b ∷ text) v p in
        record {
          marks = r.mark ∷ three.marks;
          are = (r.is, three.are);
          source_is = ap (λ w. source r.mark ++ w) three.source_is ∙ sym r.text_is;
          value_is = simp p (ap (λ w. w ∷ meant three.marks) r.value_is ∙ ap (λ w. v ∷ w) three.value_is);
        }

pub find_marks : (k : ℕ) (text : List ℕ) → has_bad_escape text ≡ false → list_any (is_among (codes "@#*")) text ≡ false → AreMarksOf k text
find_marks zero [] e f = record { marks = []; are = tt; source_is = refl; value_is = refl }
find_marks (suc k) [] e f = record { marks = []; are = tt; source_is = refl; value_is = refl }
find_marks (suc k) (b ∷ text) e f =
    let r : AreMarksOf k text = find_marks k text (or_parts _ _ e).1 (or_parts _ _ f).1 in
    record { marks = r.marks; are = r.are; source_is = r.source_is; value_is = r.value_is }
find_marks zero (b ∷ text) e f =
    mark_first b text e (or_parts _ _ f).0 (find_marks 0 text (or_parts _ _ e).1 (or_parts _ _ f).1) (find_marks 2 text (or_parts _ _ e).1 (or_parts _ _ f).1)
