-- How the words of a line follow from its first word and the rest.
use Rattle.std.proofs.Common.{◌≡◌, ℕ, zero, suc, ◌+◌, ◌-◌, ◌<◌, ◌≤◌, Bool, true, false, cond, List, [], ◌∷◌, length, take, drop, slice_index, refl, sym, ap, subst, ◌∙◌, arith, length-drop}
use Rattle.std.specs.Prelude.{◌&&◌, not, ◌==◌, filter}
use Rattle.std.specs.List.{onto_first}
use Rattle.std.proofs.lemmas.Bool.{eqb-true, and_parts}
use Rattle.std.proofs.lemmas.List.{take_all}
use Rattle.protect_table.specs.Words.{parts_words, quoted_after, joined, between_spaces, is_word, is_comment, before_comment, words_of, counted, word_length, at_first, without_spaces}

-- ---- the length of a word

pub length_here : (quoted : Bool) (text : List ℕ) (i : ℕ) → i < length text → parts_words quoted (slice_index text i) ≡ true → word_length quoted (drop i text) ≡ 0
length_here quoted [] i low e = absurd (omega arith)
length_here quoted (b ∷ text) zero low e = ap (λ p. counted p (word_length (quoted_after quoted b) text)) e
length_here quoted (b ∷ text) (suc i) low e = length_here quoted text i (omega arith) e

pub length_more : (quoted : Bool) (text : List ℕ) (i : ℕ) → i < length text → parts_words quoted (slice_index text i) ≡ false →
    word_length quoted (drop i text) ≡ word_length (quoted_after quoted (slice_index text i)) (drop (i + 1) text) + 1
length_more quoted [] i low e = absurd (omega arith)
length_more quoted (b ∷ text) zero low e = ap (λ p. counted p (word_length (quoted_after quoted b) text)) e ∙ omega arith
length_more quoted (b ∷ text) (suc i) low e = let next : suc i + 1 ≡ suc (i + 1) = omega arith in rw next (length_more quoted text i (omega arith) e)

pub length_end : (quoted : Bool) (text : List ℕ) (i : ℕ) → length text ≤ i → word_length quoted (drop i text) ≡ 0
length_end quoted [] zero low = refl
length_end quoted [] (suc i) low = refl
length_end quoted (b ∷ text) zero low = absurd (omega arith)
length_end quoted (b ∷ text) (suc i) low = length_end quoted text i (omega arith)

-- ---- the parts of a text

abbrev after_part : List ℕ → List (List ℕ)
after_part [] = []
after_part (b ∷ text) = between_spaces false text

not_true : (a : Bool) → not a ≡ true → a ≡ false
not_true true e = absurd cc
not_true false e = refl

is_parting : (quoted : Bool) (b : ℕ) → parts_words quoted b ≡ true → (b ≡ 32) × (quoted ≡ false)
is_parting quoted b e = let h = and_parts (b == 32) (not quoted) e in (eqb-true b 32 h.0, not_true quoted h.1)

outside : (quoted : Bool) (b : ℕ) → parts_words quoted b ≡ true → quoted_after quoted b ≡ false
outside quoted b e = let h = is_parting quoted b e in ap (quoted_after quoted) h.0 ∙ h.1

IsSplit : Bool → ℕ → List ℕ → ℕ → List (List ℕ) → Type 0
IsSplit p b text n parts = joined p b parts ≡ take (counted p n) (b ∷ text) ∷ after_part (drop (counted p n) (b ∷ text))

split_by : (p : Bool) (b : ℕ) (text : List ℕ) (n : ℕ) (parts : List (List ℕ)) → (p ≡ true → parts ≡ between_spaces false text) →
    parts ≡ take n text ∷ after_part (drop n text) → IsSplit p b text n parts
unfolding IsSplit
split_by true b text n parts h e = ap (λ ps. [] ∷ ps) (h refl)
split_by false b text n parts h e = ap (onto_first b) e

split : (quoted : Bool) (text : List ℕ) → between_spaces quoted text ≡ take (word_length quoted text) text ∷ after_part (drop (word_length quoted text) text)
unfolding IsSplit
split quoted [] = refl
split quoted (b ∷ text) =
    split_by (parts_words quoted b) b text (word_length (quoted_after quoted b) text) (between_spaces (quoted_after quoted b) text)
    (λ e. ap (λ q. between_spaces q text) (outside quoted b e)) (split (quoted_after quoted b) text)

words_in : List (List ℕ) → List (List ℕ)
words_in parts = filter is_word parts

HasSame : List ℕ → Type 0
HasSame rest = filter is_word (after_part rest) ≡ filter is_word (between_spaces false rest)

same_by : (p : Bool) (b : ℕ) (text : List ℕ) (n : ℕ) → (p ≡ true → b ≡ 32) → HasSame (drop n text) → HasSame (drop (counted p n) (b ∷ text))
unfolding HasSame
same_by true b text n h k = ap (λ c. filter is_word (between_spaces false (c ∷ text))) (sym (h refl))
same_by false b text n h k = k

same_rest : (quoted : Bool) (text : List ℕ) → HasSame (drop (word_length quoted text) text)
unfolding HasSame
same_rest quoted [] = refl
same_rest quoted (b ∷ text) =
    same_by (parts_words quoted b) b text (word_length (quoted_after quoted b) text) (λ e. (is_parting quoted b e).0) (same_rest (quoted_after quoted b) text)

-- ---- spaces at the beginning

pass_by : (p : Bool) (b : ℕ) (text : List ℕ) → (p ≡ true → b ≡ 32) → words_of (without_spaces text) ≡ words_of text → words_of (at_first p (without_spaces text) (b ∷ text)) ≡ words_of (b ∷ text)
pass_by true b text h e = e ∙ ap (λ c. words_of (c ∷ text)) (sym (h refl))
pass_by false b text h e = refl

spaceless : (text : List ℕ) → words_of (without_spaces text) ≡ words_of text
spaceless [] = refl
spaceless (b ∷ text) = pass_by (b == 32) b text (eqb-true b 32) (spaceless text)

IsStart : List ℕ → Type 0
IsStart t = word_length false t ≡ 0 → t ≡ []

start_by : (p : Bool) (b : ℕ) (text : List ℕ) → (b == 32) ≡ p → IsStart (without_spaces text) → IsStart (at_first p (without_spaces text) (b ∷ text))
unfolding IsStart
start_by true b text e h = h
start_by false b text e h = λ z.
    let no : parts_words false b ≡ false = ap (λ c. c && true) e in
    let long : word_length false (b ∷ text) ≡ suc (word_length (quoted_after false b) text) = ap (λ p. counted p (word_length (quoted_after false b) text)) no in
    absurd (omega (arith, z, long))

starts : (text : List ℕ) → IsStart (without_spaces text)
unfolding IsStart
starts [] = λ z. refl
starts (b ∷ text) = start_by (b == 32) b text refl (starts text)

-- ---- the first word

abbrev first_of : List ℕ → List ℕ
first_of text = take (word_length false text) text

first_kept : (w : List ℕ) (others : List (List ℕ)) → 1 ≤ length w → filter is_word (w ∷ others) ≡ w ∷ filter is_word others
first_kept [] others long = absurd (omega arith)
first_kept (b ∷ w) others long = refl

kept_by : (p : Bool) (w : List ℕ) (words : List (List ℕ)) → is_comment w ≡ p → before_comment (w ∷ words) ≡ cond p [] (w ∷ before_comment words)
kept_by p w words e = ap (λ c. cond c [] (w ∷ before_comment words)) e

by_words : (t : List ℕ) → 1 ≤ length (first_of t) → filter is_word (between_spaces false t) ≡ first_of t ∷ filter is_word (between_spaces false (drop (word_length false t) t))
unfolding HasSame
by_words t long =
    ap (filter is_word) (split false t) ∙ first_kept (first_of t) (after_part (drop (word_length false t) t)) long ∙ ap (λ ws. first_of t ∷ ws) (same_rest false t)

some_word : (text : List ℕ) → 1 ≤ length (first_of (without_spaces text)) → is_comment (first_of (without_spaces text)) ≡ false →
    words_of text ≡ first_of (without_spaces text) ∷ words_of (drop (word_length false (without_spaces text)) (without_spaces text))
some_word text long plain =
    let t = without_spaces text in
    sym (spaceless text) ∙ ap before_comment (by_words t long)
    ∙ kept_by false (first_of t) (filter is_word (between_spaces false (drop (word_length false t) t))) plain

not_zero : (n : ℕ) → (n == 0) ≡ false → 1 ≤ n
not_zero zero e = absurd cc
not_zero (suc n) e = omega arith

is_zero : (n : ℕ) → (n == 0) ≡ true → n ≡ 0
is_zero n e = eqb-true n 0 e

pub found_word : (text t : List ℕ) (n : ℕ) → t ≡ without_spaces text → n ≡ word_length false t → n ≤ length t → (length (take n t) == 0) ≡ false → is_comment (take n t) ≡ false →
    words_of text ≡ take n t ∷ words_of (take (length t - n) (drop n t))
found_word text t n e f low long plain =
    let P : List ℕ → Type 0 = λ u. (length (first_of u) == 0) ≡ false → is_comment (first_of u) ≡ false → words_of text ≡ first_of u ∷ words_of (drop (word_length false u) u) in
    let whole : take (length t - n) (drop n t) ≡ drop n t = take_all (length t - n) (drop n t) (omega (arith, length-drop {A = ℕ})) in
    let Q : ℕ → Type 0 = λ k. (length (take k t) == 0) ≡ false → is_comment (take k t) ≡ false → words_of text ≡ take k t ∷ words_of (drop k t) in
    let start : P (without_spaces text) = λ a b. some_word text (not_zero _ a) b in
    let there : P t = subst P (sym e) start in
    subst Q (sym f) there long plain ∙ ap (λ u. take n t ∷ words_of u) (sym whole)

comment_long : (w : List ℕ) → is_comment w ≡ true → 1 ≤ length w
comment_long [] e = absurd cc
comment_long (b ∷ w) e = omega arith

comment_word : (text : List ℕ) → is_comment (first_of (without_spaces text)) ≡ true → words_of text ≡ []
comment_word text marked =
    let t = without_spaces text in
    sym (spaceless text) ∙ ap before_comment (by_words t (comment_long (first_of t) marked))
    ∙ kept_by true (first_of t) (filter is_word (between_spaces false (drop (word_length false t) t))) marked

none_of : (n : ℕ) (t : List ℕ) → length (take n t) ≡ 0 → (n ≡ 0 → t ≡ []) → t ≡ []
none_of n [] e h = refl
none_of zero (b ∷ t) e h = h refl
none_of (suc n) (b ∷ t) e h = absurd (omega arith)

no_word : (text : List ℕ) → length (first_of (without_spaces text)) ≡ 0 → words_of text ≡ []
unfolding IsStart
no_word text e = sym (spaceless text) ∙ ap words_of (none_of (word_length false (without_spaces text)) (without_spaces text) e (starts text))

pub found_comment : (text t : List ℕ) (n : ℕ) → t ≡ without_spaces text → n ≡ word_length false t → is_comment (take n t) ≡ true → words_of text ≡ []
found_comment text t n e f marked =
    let P : List ℕ → Type 0 = λ u. is_comment (first_of u) ≡ true → words_of text ≡ [] in
    let there : P t = subst P (sym e) (comment_word text) in
    there (ap (λ k. is_comment (take k t)) (sym f) ∙ marked)

pub found_none : (text t : List ℕ) (n : ℕ) → t ≡ without_spaces text → n ≡ word_length false t → (length (take n t) == 0) ≡ true → words_of text ≡ []
found_none text t n e f short =
    let P : List ℕ → Type 0 = λ u. (length (first_of u) == 0) ≡ true → words_of text ≡ [] in
    let there : P t = subst P (sym e) (λ a. no_word text (is_zero _ a)) in
    there (ap (λ k. length (take k t) == 0) (sym f) ∙ short)
