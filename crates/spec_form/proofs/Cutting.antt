-- Cutting a text at its first such byte, and into lines.
use Rattle.std.proofs.Common.{◌≡◌, ℕ, zero, suc, ◌<◌, ◌≤◌, ◌==◌, Bool, true, false, ◌||◌, cond, List, [], ◌∷◌, ◌++◌, length, refl, sym, ap, subst, ◌∙◌, arith}
use Rattle.std.specs.List.{AllByRecursion}
use Rattle.std.proofs.lemmas.Bool.Decides.{nat_tests}
use Rattle.std.proofs.lemmas.Bool.{or_parts, or_right}
use Rattle.depot_path.specs.Bytes.{is_among}
use Rattle.depot_path.specs.Utf8.{is_utf8}
use Rattle.spec_form.proofs.Utf8.{cond_true, cond_false, utf8_front, utf8_rest}
use Rattle.spec_form.specs.Texts.{before, behind, onto_first, text_lines}

pub lines_cut : (text : List ℕ) → is_among text 0x0A ≡ true → text_lines text ≡ before 0x0A text ∷ text_lines (behind 0x0A text)
lines_cut [] = λ h. absurd cc
lines_cut (b ∷ text) =
    elim (b == 0x0A) as (λ t. (t || is_among text 0x0A) ≡ true → cond t ([] ∷ text_lines text) (onto_first b (text_lines text)) ≡ cond t [] (b ∷ before 0x0A text) ∷ text_lines (cond t text (behind 0x0A text))) [
      | true ↦ λ h. refl
      | false ↦ λ h. rw (lines_cut text h) refl
    ]

whole_rest : (b : ℕ) (text : List ℕ) → is_among text 0x0A ≡ false → onto_first b (text_lines text) ≡ (b ∷ text) ∷ []
whole_rest b [] = λ h. refl
whole_rest b (x ∷ text) = elim (x == 0x0A) as (λ t. (t || is_among text 0x0A) ≡ false → onto_first b (cond t ([] ∷ text_lines text) (onto_first x (text_lines text))) ≡ (b ∷ x ∷ text) ∷ []) [
  | true ↦ λ h. absurd cc
  | false ↦ λ h. rw (whole_rest x text h) refl
]

pub lines_whole : (b : ℕ) (text : List ℕ) → is_among (b ∷ text) 0x0A ≡ false → text_lines (b ∷ text) ≡ (b ∷ text) ∷ []
lines_whole b text =
    elim (b == 0x0A) as (λ t. (t || is_among text 0x0A) ≡ false → cond t ([] ∷ text_lines text) (onto_first b (text_lines text)) ≡ (b ∷ text) ∷ []) [
      | true ↦ λ h. absurd cc
      | false ↦ λ h. whole_rest b text h
    ]

pub behind_shorter : (c : ℕ) (text : List ℕ) → is_among text c ≡ true → length (behind c text) < length text
behind_shorter c [] = λ h. absurd cc
behind_shorter c (b ∷ text) =
    elim (b == c) as (λ t. (t || is_among text c) ≡ true → length (cond t text (behind c text)) < length (b ∷ text)) [
      | true ↦ λ h. omega arith
      | false ↦ λ h. let ih : length (behind c text) < length text = behind_shorter c text h in omega arith
    ]

eqb_self : (c : ℕ) → (c == c) ≡ true
eqb_self c = grind (arith, nat_tests)

or_both : (v w u : Bool) → (v || w) ≡ false → u ≡ false → (v || u) ≡ false
or_both true w u h k = absurd cc
or_both false w u h k = k

eqb_same : (b c : ℕ) → (b == c) ≡ true → b ≡ c
eqb_same b c h = grind (arith, nat_tests)

-- a text is what stands before its first byte c, that byte, and what stands behind it
pub parts_at : (c : ℕ) (text : List ℕ) → is_among text c ≡ true → text ≡ before c text ++ c ∷ behind c text
parts_at c [] h = absurd cc
parts_at c (b ∷ text) h =
    let step : (t : Bool) → (b == c) ≡ t → (t || is_among text c) ≡ true → b ∷ text ≡ cond t [] (b ∷ before c text) ++ c ∷ cond t text (behind c text) =
    λ (t : Bool). elim t as (λ v. (b == c) ≡ v → (v || is_among text c) ≡ true → b ∷ text ≡ cond v [] (b ∷ before c text) ++ c ∷ cond v text (behind c text)) [
      | true ↦ λ e k. ap (λ (x : ℕ). x ∷ text) (eqb_same b c e)
      | false ↦ λ e k. ap (λ (xs : List ℕ). b ∷ xs) (parts_at c text k)
    ] in
    step (b == c) refl h

before_if : (c b : ℕ) (text : List ℕ) (v : Bool) → (b == c) ≡ v → is_among (before c text) c ≡ false → is_among (cond v [] (b ∷ before c text)) c ≡ false
before_if c b text true e h = refl
before_if c b text false e h = rw (e, h) refl

-- no byte c stands before the first one
pub before_none : (c : ℕ) (text : List ℕ) → is_among (before c text) c ≡ false
before_none c [] = refl
before_none c (b ∷ text) = before_if c b text (b == c) refl (before_none c text)

among_if : (c x b : ℕ) (text : List ℕ) (v : Bool) → ((b == x) || is_among text x) ≡ false → (is_among text x ≡ false → is_among (before c text) x ≡ false × is_among (behind c text) x ≡ false) →
    is_among (cond v [] (b ∷ before c text)) x ≡ false × is_among (cond v text (behind c text)) x ≡ false
among_if c x b text true h k = (refl, (or_parts (b == x) (is_among text x) h).1)
among_if c x b text false h k =
    let parts : is_among (before c text) x ≡ false × is_among (behind c text) x ≡ false = k (or_parts (b == x) (is_among text x) h).1 in
    (or_both (b == x) (is_among text x) (is_among (before c text) x) h parts.0, parts.1)

-- a byte that a text lacks, its parts lack
pub among_parts : (c x : ℕ) (text : List ℕ) → is_among text x ≡ false → is_among (before c text) x ≡ false × is_among (behind c text) x ≡ false
among_parts c x [] h = (refl, refl)
among_parts c x (b ∷ text) h = among_if c x b text (b == c) h (among_parts c x text)

-- the first byte c of a text that begins so is this one
pub before_at : (c : ℕ) (front rest : List ℕ) → is_among front c ≡ false → before c (front ++ c ∷ rest) ≡ front
before_at c [] rest h = cond_true (c == c) [] _ (eqb_self c)
before_at c (b ∷ front) rest h =
    cond_false (b == c) [] _ (or_parts (b == c) (is_among front c) h).0 ∙ ap (λ (l : List ℕ). b ∷ l) (before_at c front rest (or_parts (b == c) (is_among front c) h).1)

pub behind_at : (c : ℕ) (front rest : List ℕ) → is_among front c ≡ false → behind c (front ++ c ∷ rest) ≡ rest
behind_at c [] rest h = cond_true (c == c) rest _ (eqb_self c)
behind_at c (b ∷ front) rest h =
    cond_false (b == c) _ _ (or_parts (b == c) (is_among front c) h).0 ∙ behind_at c front rest (or_parts (b == c) (is_among front c) h).1

pub among_at : (c : ℕ) (front rest : List ℕ) → is_among (front ++ c ∷ rest) c ≡ true
among_at c [] rest = rw (eqb_self c) refl
among_at c (b ∷ front) rest = or_right (b == c) (is_among (front ++ c ∷ rest) c) (among_at c front rest)

pub among-append : (x : ℕ) (front rest : List ℕ) → is_among front x ≡ false → is_among rest x ≡ false → is_among (front ++ rest) x ≡ false
among-append x [] rest h k = k
among-append x (b ∷ front) rest h k = or_both (b == x) (is_among front x) (is_among (front ++ rest) x) h (among-append x front rest (or_parts (b == x) (is_among front x) h).1 k)

-- a line, its end, and what follows
pub line_then : (line rest : List ℕ) → is_among line 0x0A ≡ false → text_lines (line ++ 0x0A ∷ rest) ≡ line ∷ text_lines rest
line_then [] rest h = refl
line_then (b ∷ line) rest h =
    cond_false (b == 0x0A) _ _ (or_parts (b == 0x0A) (is_among line 0x0A) h).0 ∙ ap (onto_first b) (line_then line rest (or_parts (b == 0x0A) (is_among line 0x0A) h).1)

-- ---- the lines of a text of UTF-8 are lines of UTF-8

-- one line of UTF-8
pub record Clean (line : List ℕ) : Type 0 where
  pub one : is_among line 0x0A ≡ false
  pub utf8 : is_utf8 line ≡ true

clean_first : (text : List ℕ) → is_among text 0x0A ≡ true → is_utf8 text ≡ true → Clean (before 0x0A text)
clean_first text h u = record {
  one = before_none 0x0A text;
  utf8 = utf8_front (before 0x0A text) 0x0A (behind 0x0A text) (omega arith) (sym (ap is_utf8 (parts_at 0x0A text h)) ∙ u);
}

clean_if : (n b : ℕ) (text : List ℕ) (v : Bool) → is_among (b ∷ text) 0x0A ≡ v → is_utf8 (b ∷ text) ≡ true →
    (v ≡ true → AllByRecursion Clean (text_lines (behind 0x0A (b ∷ text)))) → AllByRecursion Clean (text_lines (b ∷ text))
clean_if n b text true e u k = subst (λ (ls : List (List ℕ)). AllByRecursion Clean ls) (sym (lines_cut (b ∷ text) e)) (clean_first (b ∷ text) e u, k refl)
clean_if n b text false e u k = subst (λ (ls : List (List ℕ)). AllByRecursion Clean ls) (sym (lines_whole b text e)) (record { one = e; utf8 = u }, tt)

clean_within : (n : ℕ) (text : List ℕ) → length text ≤ n → is_utf8 text ≡ true → AllByRecursion Clean (text_lines text)
clean_within n [] le u = tt
clean_within zero (b ∷ text) le u = absurd (omega arith)
clean_within (suc n) (b ∷ text) le u =
    clean_if n b text (is_among (b ∷ text) 0x0A) refl u
    (λ (h : is_among (b ∷ text) 0x0A ≡ true).
    let l : length (behind 0x0A (b ∷ text)) < length (b ∷ text) = behind_shorter 0x0A (b ∷ text) h in
    clean_within n (behind 0x0A (b ∷ text)) (omega arith)
    (utf8_rest (before 0x0A (b ∷ text)) 0x0A (behind 0x0A (b ∷ text)) (omega arith) (sym (ap is_utf8 (parts_at 0x0A (b ∷ text) h)) ∙ u)))

pub clean_lines : (text : List ℕ) → is_utf8 text ≡ true → AllByRecursion Clean (text_lines text)
clean_lines text u = clean_within (length text) text (omega arith) u

-- where there is no byte c, all stands before it
pub before_whole : (c : ℕ) (text : List ℕ) → is_among text c ≡ false → before c text ≡ text
before_whole c [] h = refl
before_whole c (b ∷ text) h =
    cond_false (b == c) [] _ (or_parts (b == c) (is_among text c) h).0 ∙ ap (λ (l : List ℕ). b ∷ l) (before_whole c text (or_parts (b == c) (is_among text c) h).1)

pub behind_none : (c : ℕ) (text : List ℕ) → is_among text c ≡ false → behind c text ≡ []
behind_none c [] h = refl
behind_none c (b ∷ text) h =
    cond_false (b == c) _ _ (or_parts (b == c) (is_among text c) h).0 ∙ behind_none c text (or_parts (b == c) (is_among text c) h).1
