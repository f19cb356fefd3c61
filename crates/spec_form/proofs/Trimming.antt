-- Lines without blanks at their ends.
use Rattle.std.proofs.Common.{◌≡◌, ℕ, ◌<◌, ◌≤◌, ◌==◌, Bool, true, false, ◌||◌, cond, List, [], ◌∷◌, ◌++◌, length, reverse, refl, sym, ap, ◌∙◌, arith}
use Rattle.std.proofs.lemmas.Bool.Decides.{nat_tests}
use Rattle.std.proofs.lemmas.List.{reverse-append, reverse-reverse}
use Rattle.std.proofs.lemmas.Bool.{or_parts}
use Rattle.depot_path.specs.Bytes.{is_among}
use Rattle.depot_path.specs.Utf8.{is_utf8}
use Rattle.spec_form.specs.Texts.{is_blank, trimmed_start, trimmed_end}
use Rattle.spec_form.proofs.Utf8.{cond_false, utf8_front, ascii-cons}

pub reverse_cons : (b : ℕ) (line : List ℕ) → reverse (b ∷ line) ≡ reverse line ++ b ∷ []
reverse_cons b line = reverse-append (b ∷ []) line

pub start_kept : (b : ℕ) (line : List ℕ) → is_blank b ≡ false → trimmed_start (b ∷ line) ≡ b ∷ line
start_kept b line e = cond_false (is_blank b) (trimmed_start line) (b ∷ line) e

start_if : (b : ℕ) (line : List ℕ) (v : Bool) → is_blank b ≡ v → trimmed_start (trimmed_start line) ≡ trimmed_start line → trimmed_start (cond v (trimmed_start line) (b ∷ line)) ≡ cond v (trimmed_start line) (b ∷ line)
start_if b line true e h = h
start_if b line false e h = start_kept b line e

pub start_twice : (line : List ℕ) → trimmed_start (trimmed_start line) ≡ trimmed_start line
start_twice [] = refl
start_twice (b ∷ line) = start_if b line (is_blank b) refl (start_twice line)

snoc_if : (x b : ℕ) (line : List ℕ) (v : Bool) → trimmed_start (line ++ b ∷ []) ≡ trimmed_start line ++ b ∷ [] → cond v (trimmed_start (line ++ b ∷ [])) (x ∷ line ++ b ∷ []) ≡ cond v (trimmed_start line) (x ∷ line) ++ b ∷ []
snoc_if x b line true h = h
snoc_if x b line false h = refl

start_snoc : (line : List ℕ) (b : ℕ) → is_blank b ≡ false → trimmed_start (line ++ b ∷ []) ≡ trimmed_start line ++ b ∷ []
start_snoc [] b e = start_kept b [] e
start_snoc (x ∷ line) b e = snoc_if x b line (is_blank x) (start_snoc line b e)

end_cons : (b : ℕ) (line : List ℕ) → is_blank b ≡ false → trimmed_end (b ∷ line) ≡ b ∷ trimmed_end line
end_cons b line e =
    ap (λ (l : List ℕ). reverse (trimmed_start l)) (reverse_cons b line)
    ∙ ap (λ (l : List ℕ). reverse l) (start_snoc (reverse line) b e)
    ∙ reverse-append (trimmed_start (reverse line)) (b ∷ [])

end_twice : (line : List ℕ) → trimmed_end (trimmed_end line) ≡ trimmed_end line
end_twice line =
    ap (λ (l : List ℕ). reverse (trimmed_start l)) (reverse-reverse (trimmed_start (reverse line)))
    ∙ ap (λ (l : List ℕ). reverse l) (start_twice (reverse line))

short_if : (b : ℕ) (line : List ℕ) (v : Bool) → length (trimmed_start line) ≤ length line → length (cond v (trimmed_start line) (b ∷ line)) ≤ length (b ∷ line)
short_if b line true h = omega arith
short_if b line false h = omega arith

start_short : (line : List ℕ) → length (trimmed_start line) ≤ length line
start_short [] = omega arith
start_short (b ∷ line) = short_if b line (is_blank b) (start_short line)

first_if : (b : ℕ) (line : List ℕ) (v : Bool) → cond v (trimmed_start line) (b ∷ line) ≡ b ∷ line → v ≡ false
first_if b line true e = let l : length (trimmed_start line) ≡ length (b ∷ line) = ap length e in absurd (omega (arith, start_short line))
first_if b line false e = refl

-- a line that begins with no blank keeps that when it is trimmed at its end
start_of_end : (line : List ℕ) → trimmed_start line ≡ line → trimmed_start (trimmed_end line) ≡ trimmed_end line
start_of_end [] e = refl
start_of_end (b ∷ line) e =
    let no : is_blank b ≡ false = first_if b line (is_blank b) e in
    rw (end_cons b line no) (start_kept b (trimmed_end line) no)

pub trimmed_twice : (line : List ℕ) → trimmed_end (trimmed_start (trimmed_end (trimmed_start line))) ≡ trimmed_end (trimmed_start line)
trimmed_twice line = ap trimmed_end (start_of_end (trimmed_start line) (start_twice line)) ∙ end_twice (trimmed_start line)

-- ---- trimmed lines hold no other bytes

among_cond : (v : Bool) (x y : List ℕ) (c : ℕ) → is_among x c ≡ false → is_among y c ≡ false → is_among (cond v x y) c ≡ false
among_cond true x y c h k = h
among_cond false x y c h k = k

pub among_start : (line : List ℕ) (c : ℕ) → is_among line c ≡ false → is_among (trimmed_start line) c ≡ false
among_start [] c h = refl
among_start (b ∷ line) c h = among_cond (is_blank b) (trimmed_start line) (b ∷ line) c (among_start line c (or_parts (b == c) (is_among line c) h).1) h

pub or_turn : (u v w : Bool) → (u || (v || w)) ≡ (v || (u || w))
or_turn true true w = refl
or_turn true false w = refl
or_turn false true w = refl
or_turn false false w = refl

among_snoc : (line : List ℕ) (b c : ℕ) → is_among (line ++ b ∷ []) c ≡ ((b == c) || is_among line c)
among_snoc [] b c = refl
among_snoc (x ∷ line) b c = ap (λ (v : Bool). (x == c) || v) (among_snoc line b c) ∙ or_turn (x == c) (b == c) (is_among line c)

among_reverse : (line : List ℕ) (c : ℕ) → is_among (reverse line) c ≡ is_among line c
among_reverse [] c = refl
among_reverse (b ∷ line) c =
    ap (λ (l : List ℕ). is_among l c) (reverse_cons b line) ∙ among_snoc (reverse line) b c ∙ ap (λ (v : Bool). (b == c) || v) (among_reverse line c)

pub among_end : (line : List ℕ) (c : ℕ) → is_among line c ≡ false → is_among (trimmed_end line) c ≡ false
among_end line c h =
    among_reverse (trimmed_start (reverse line)) c ∙ among_start (reverse line) c (among_reverse line c ∙ h)

-- ---- trimmed lines of UTF-8 are UTF-8

blank_small : (b : ℕ) → is_blank b ≡ true → b < 0x80
blank_small b h = grind (arith, nat_tests)

utf8_if : (b : ℕ) (line : List ℕ) (v : Bool) → is_blank b ≡ v → (is_utf8 line ≡ true → is_utf8 (trimmed_start line) ≡ true) → is_utf8 (b ∷ line) ≡ true → is_utf8 (cond v (trimmed_start line) (b ∷ line)) ≡ true
utf8_if b line true e h u = h (sym (ascii-cons b line (blank_small b e)) ∙ u)
utf8_if b line false e h u = u

pub utf8_start : (line : List ℕ) → is_utf8 line ≡ true → is_utf8 (trimmed_start line) ≡ true
utf8_start [] u = u
utf8_start (b ∷ line) u = utf8_if b line (is_blank b) refl (utf8_start line) u

back_if : (b : ℕ) (line : List ℕ) (v : Bool) → is_blank b ≡ v → (is_utf8 (reverse line) ≡ true → is_utf8 (reverse (trimmed_start line)) ≡ true) → is_utf8 (reverse (b ∷ line)) ≡ true → is_utf8 (reverse (cond v (trimmed_start line) (b ∷ line))) ≡ true
back_if b line true e h u =
    h (utf8_front (reverse line) b [] (blank_small b e) (sym (ap is_utf8 (reverse_cons b line)) ∙ u))
back_if b line false e h u = u

utf8_back : (line : List ℕ) → is_utf8 (reverse line) ≡ true → is_utf8 (reverse (trimmed_start line)) ≡ true
utf8_back [] u = u
utf8_back (b ∷ line) u = back_if b line (is_blank b) refl (utf8_back line) u

pub utf8_end : (line : List ℕ) → is_utf8 line ≡ true → is_utf8 (trimmed_end line) ≡ true
utf8_end line u = utf8_back (reverse line) (ap is_utf8 (reverse-reverse line) ∙ u)
