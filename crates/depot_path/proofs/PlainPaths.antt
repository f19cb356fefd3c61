-- A plain path is a path, and is printed as it is.
use Rattle.std.proofs.Common.{◌≡◌, ℕ, Bool, true, false, cond, nat_le, ◌≤◌, List, [], ◌∷◌, ◌++◌, length, drop, take, Some, refl, sym, ap, subst, ◌∙◌, arith, Ok}
use Rattle.std.specs.Prelude.{IsTrue, codes, ◌||◌, ◌&&◌, not, nat_eq, ◌==◌}
use Rattle.std.specs.List.{list_any, onto_first}
use Rattle.std.specs.Cmp.Lexicographic.{same_text}
use Rattle.std.proofs.lemmas.Bool.Decides.{nat_tests}
use Rattle.std.proofs.lemmas.List.{take-append-drop}
use Rattle.std.proofs.lemmas.Bool.{and_parts, and_from}
use Rattle.depot_path.specs.Bytes.{is_among, is_control, same}
use Rattle.depot_path.specs.Utf8.{goes_on}
use Rattle.depot_path.specs.Path.{printed, begins_with_slashes, has_three_dots, is_path, path_of, is_plain_after, are_plain_after, are_plain_components, is_plain_path}
use Rattle.depot_path.proofs.Units.{IsPlain, escaped_plain, rest_1, slash_split, start}
use Rattle.depot_path.proofs.Paths.{not_false, not_not, prints_path}

absurd_false : (let b : Bool = false in b) ≡ true → ⊥
absurd_false e = absurd cc

-- what a byte that may stand behind another one says of and_from
record Behind (before b : ℕ) : Type 0 where
  low : nat_le 0x20 b ≡ true
  high : nat_le b 0x7E ≡ true
  plain : IsPlain b
  slash : ((b == 0x2F) && (before == 0x2F)) ≡ false
  dot : ((b == 0x2E) && ((before == 0x2F) || (before == 0x2E))) ≡ false

among_all : (b : ℕ) → is_among (codes "@#*%") b ≡ false → IsPlain b
among_all b e = record { no_at = grind (arith, nat_tests); no_hash = grind (arith, nat_tests); no_star = grind (arith, nat_tests); no_percent = grind (arith, nat_tests) }

behind : (before b : ℕ) → is_plain_after before b ≡ true → Behind before b
behind before b e4 =
    let e3 = (and_parts _ _ e4).0 in
    let e2 = (and_parts _ _ e3).0 in
    let e1 = (and_parts _ _ e2).0 in
    record {
      low = (and_parts _ _ e1).0;
      high = (and_parts _ _ e1).1;
      plain = among_all b (not_not _ (and_parts _ _ e2).1);
      slash = not_not _ (and_parts _ _ e3).1;
      dot = not_not _ (and_parts _ _ e4).1;
    }

-- ---- bytes

plain_printed : (before : ℕ) (text : List ℕ) → are_plain_after before text ≡ true → printed text ≡ text
plain_printed before [] e = refl
plain_printed before (b ∷ text) e =
    let h : Behind before b = behind before b (and_parts _ _ e).0 in
    ap (λ r. r ++ printed text) (escaped_plain b h.plain) ∙ ap (λ r. b ∷ r) (plain_printed b text (and_parts _ _ e).1)

ascii : (b : ℕ) → nat_le b 0x7E ≡ true → nat_le b 0x7F ≡ true
ascii b e = grind (arith, nat_tests)

plain_utf8 : (before : ℕ) (text : List ℕ) → are_plain_after before text ≡ true → goes_on (Some start) text ≡ true
plain_utf8 before [] e = refl
plain_utf8 before (b ∷ text) e =
    let h : Behind before b = behind before b (and_parts _ _ e).0 in
    ap (λ c. goes_on (cond c (Some start) (rest_1 b)) text) (ascii b h.high) ∙ plain_utf8 b text (and_parts _ _ e).1

no_control : (b : ℕ) → nat_le 0x20 b ≡ true → nat_le b 0x7E ≡ true → is_control b ≡ false
no_control b e f = grind (arith, nat_tests)

neither : {a b : Bool} → a ≡ false → b ≡ false → (a || b) ≡ false
neither e f = cc

plain_control : (before : ℕ) (text : List ℕ) → are_plain_after before text ≡ true → list_any is_control text ≡ false
plain_control before [] e = refl
plain_control before (b ∷ text) e =
    let h : Behind before b = behind before b (and_parts _ _ e).0 in
    neither (no_control b h.low h.high) (plain_control b text (and_parts _ _ e).1)

-- ---- dots

two_dots : (b c : ℕ) (more : Bool) → ((c == 0x2E) && ((b == 0x2F) || (b == 0x2E))) ≡ false → (nat_eq 46 b && (nat_eq 46 c && more)) ≡ false
two_dots b c more e = grind (arith, nat_tests)

no_more : (a : Bool) → (a && false) ≡ false
no_more true = refl
no_more false = refl

plain_dots : (before : ℕ) (text : List ℕ) → are_plain_after before text ≡ true → has_three_dots text ≡ false
plain_dots before [] e = refl
plain_dots before (b ∷ []) e = neither (no_more (nat_eq 46 b)) refl
plain_dots before (b ∷ c ∷ text) e =
    let h : Behind b c = behind b c (and_parts _ _ (and_parts _ _ e).1).0 in
    neither (two_dots b c _ h.dot) (plain_dots b (c ∷ text) (and_parts _ _ e).1)

-- ---- components

-- a test that no component passes which begins with a byte other than a dot
module _ (test : List ℕ → Bool) (fails : (b : ℕ) (part : List ℕ) → (b == 0x2E) ≡ false → test (b ∷ part) ≡ false) where
  -- of the parts behind a byte the first is whole only behind a slash
  abbrev Fail : Bool → List (List ℕ) → Type 0
  Fail slash parts = list_any test (cond slash parts (drop 1 parts)) ≡ false

  fail_onto : (b : ℕ) (parts : List (List ℕ)) (slash : Bool) → (slash ≡ true → (b == 0x2E) ≡ false) → list_any test (drop 1 parts) ≡ false → Fail slash (onto_first b parts)
  fail_onto b [] true h e = neither (fails b [] (h refl)) refl
  fail_onto b [] false h e = refl
  fail_onto b (part ∷ parts) true h e = neither (fails b part (h refl)) e
  fail_onto b (part ∷ parts) false h e = e

  fail_parts : (before : ℕ) (text : List ℕ) → are_plain_after before text ≡ true → Fail (before == 0x2F) (slash_split text)
  fail_parts before [] e = go (before == 0x2F) e
    where
      go : (c : Bool) → not c ≡ true → Fail c ([] ∷ [])
      go true e = absurd (absurd_false e)
      go false e = refl
  fail_parts before (b ∷ text) e =
      let h : Behind before b = behind before b (and_parts _ _ e).0 in
      go (b == 0x2F) (before == 0x2F) h.slash (λ slash. no_dot b before h.dot slash) (fail_parts b text (and_parts _ _ e).1)
    where
      no_dot : (b before : ℕ) → ((b == 0x2E) && ((before == 0x2F) || (before == 0x2E))) ≡ false → (before == 0x2F) ≡ true → (b == 0x2E) ≡ false
      no_dot b before e f = grind (arith, nat_tests)

      go : (c a : Bool) → (c && a) ≡ false → (a ≡ true → (b == 0x2E) ≡ false) → Fail c (slash_split text) → Fail a (cond c ([] ∷ slash_split text) (onto_first b (slash_split text)))
      go true true e h f = absurd cc
      go true false e h f = f
      go false a e h f = fail_onto b (slash_split text) a h f

not_empty : (b : ℕ) (part : List ℕ) → (b == 0x2E) ≡ false → same [] (b ∷ part) ≡ false
not_empty b part e = refl

not_dots : (b : ℕ) (part : List ℕ) → (b == 0x2E) ≡ false → (same (b ∷ part) (codes ".") || same (b ∷ part) (codes "..")) ≡ false
not_dots b part e = simp e

one_more : (parts : List (List ℕ)) → nat_le 1 (length parts) ≡ true → nat_le 2 (length ([] ∷ parts)) ≡ true
one_more parts e = grind (arith, nat_tests)

at_least_one : (parts : List (List ℕ)) → nat_le 1 (length ([] ∷ parts)) ≡ true
at_least_one parts = grind (arith, nat_tests)

some_part : (text : List ℕ) → nat_le 1 (length (slash_split text)) ≡ true
some_part [] = refl
some_part (b ∷ text) = go (b == 0x2F) (some_part text)
  where
    onto : (parts : List (List ℕ)) → nat_le 1 (length parts) ≡ true → nat_le 1 (length (onto_first b parts)) ≡ true
    onto [] e = refl
    onto (part ∷ parts) e = e

    go : (c : Bool) → nat_le 1 (length (slash_split text)) ≡ true → nat_le 1 (length (cond c ([] ∷ slash_split text) (onto_first b (slash_split text)))) ≡ true
    go true e = at_least_one (slash_split text)
    go false e = onto (slash_split text) e

two_parts : (text : List ℕ) → is_among text 0x2F ≡ true → nat_le 2 (length (slash_split text)) ≡ true
two_parts [] e = absurd (absurd_false e)
two_parts (b ∷ text) e = go (b == 0x2F) e (λ parted. two_parts text parted)
  where
    onto : (parts : List (List ℕ)) → nat_le 2 (length parts) ≡ true → nat_le 2 (length (onto_first b parts)) ≡ true
    onto [] e = absurd (absurd_false e)
    onto (part ∷ parts) e = e

    go : (c : Bool) → (c || is_among text 0x2F) ≡ true → (is_among text 0x2F ≡ true → nat_le 2 (length (slash_split text)) ≡ true) → nat_le 2 (length (cond c ([] ∷ slash_split text) (onto_first b (slash_split text)))) ≡ true
    go true e more = one_more (slash_split text) (some_part text)
    go false e more = onto (slash_split text) (more e)

-- ---- the whole

slashes_before : (text : List ℕ) → begins_with_slashes text ≡ true → text ≡ 0x2F ∷ 0x2F ∷ drop 2 text
slashes_before text e = sym (ap (λ w. w ++ drop 2 text) (same_text (codes "//") (take 2 text) (sym e)) ∙ take-append-drop 2 text)

module _ (rest : List ℕ) (short : nat_le (length (0x2F ∷ 0x2F ∷ rest)) 1024 ≡ true) (parted : is_among rest 0x2F ≡ true) (plain : are_plain_after 0x2F rest ≡ true) where
  rest_printed : printed (0x2F ∷ 0x2F ∷ rest) ≡ 0x2F ∷ 0x2F ∷ rest
  rest_printed = ap (λ r. 0x2F ∷ 0x2F ∷ r) (plain_printed 0x2F rest plain)

  rest_path : is_path (0x2F ∷ 0x2F ∷ rest) ≡ true
  rest_path =
      and_from _ _ (and_from _ _ (and_from _ _ (and_from _ _ (and_from _ _ (and_from _ _
      (ap (λ t. nat_le (length t) 1024) rest_printed ∙ short)
      refl)
      (two_parts rest parted))
      (not_false _ (fail_parts (same []) not_empty 0x2F rest plain)))
      (and_from _ _ (plain_utf8 0x2F rest plain) (not_false _ (plain_control 0x2F rest plain))))
      (not_false _ (fail_parts (λ part. same part (codes ".") || same part (codes "..")) not_dots 0x2F rest plain)))
      (not_false _ (plain_dots 0x2F rest plain))

pub plain_is_printed : (text : List ℕ) → is_plain_path text ≡ true → printed text ≡ text
plain_is_printed text e2 =
    let e1 = (and_parts _ _ e2).0 in
    let e = (and_parts _ _ e2).1 in
    let is = slashes_before text (and_parts _ _ e1).1 in
    subst (λ t. printed t ≡ t) (sym is) (rest_printed (drop 2 text) (ap (λ t. nat_le (length t) 1024) (sym is) ∙ (and_parts _ _ e1).0) (and_parts _ _ e).0 (and_parts _ _ e).1)

pub plain_is_path : (text : List ℕ) → is_plain_path text ≡ true → is_path text ≡ true
plain_is_path text e2 =
    let e1 = (and_parts _ _ e2).0 in
    let e = (and_parts _ _ e2).1 in
    let is = slashes_before text (and_parts _ _ e1).1 in
    subst (λ t. is_path t ≡ true) (sym is) (rest_path (drop 2 text) (ap (λ t. nat_le (length t) 1024) (sym is) ∙ (and_parts _ _ e1).0) (and_parts _ _ e).0 (and_parts _ _ e).1)

pub plain_is_read : (text : List ℕ) → is_plain_path text ≡ true → path_of text ≡ Ok text
plain_is_read text e = ap path_of (sym (plain_is_printed text e)) ∙ prints_path text (plain_is_path text e)

short : (text : List ℕ) → length text ≤ 1024 → nat_le (length text) 1024 ≡ true
short text h = grind (arith, nat_tests)

-- a text is plain where it is short, begins with the slashes, and the rest was told to be plain
pub told_plain : (text rest : List ℕ) (slashes told : Bool) → length text ≤ 1024 → slashes ≡ begins_with_slashes text → slashes ≡ true → rest ≡ drop 2 text → told ≡ are_plain_components rest → IsTrue told → is_plain_path text ≡ true
told_plain text rest slashes told h e f g k is = and_from _ _ (and_from _ _ (short text h) (sym e ∙ f)) (ap are_plain_components (sym g) ∙ sym k ∙ is)
