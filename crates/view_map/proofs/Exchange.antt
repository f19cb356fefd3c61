-- Texts that go from one pattern's specifiers to another's, and back again, are the same.
use Rattle.std.proofs.Common.{◌≡◌, ℕ, ◌+◌, ◌≤◌, Bool, true, false, cond, List, [], ◌∷◌, length, map, refl, sym, ap, subst, ◌∙◌, arith}
use Rattle.std.specs.Prelude.{◌==◌, count_by}
use Rattle.std.specs.List.{list_all}
use Rattle.std.proofs.lemmas.Bool.{eqb-true, and_parts, and_from}
use Rattle.std.proofs.lemmas.List.Sums.{sum_by-cons}
use Rattle.depot_path.specs.declared.piece.Piece.{Piece}
use Rattle.view_map.specs.Specifiers.{same_label, labels, stands_once, same_specifiers, text_for, answering}
use Rattle.view_map.specs.declared.specifiers.Label.{Label}
use Rattle.view_map.specs.declared.specifiers.Label.TheVariants.{Star, Dots, Place}

abbrev Texts : Type 0
Texts = List (List ℕ)

-- ---- equal labels

pub label_is : (a b : Label) → same_label a b ≡ true → a ≡ b
label_is (Star m) (Star n) e = ap Star (eqb-true m n e)
label_is (Dots m) (Dots n) e = ap Dots (eqb-true m n e)
label_is (Place m) (Place n) e = ap Place (eqb-true m n e)
label_is (Star m) (Dots n) e = absurd cc
label_is (Star m) (Place n) e = absurd cc
label_is (Dots m) (Star n) e = absurd cc
label_is (Dots m) (Place n) e = absurd cc
label_is (Place m) (Star n) e = absurd cc
label_is (Place m) (Dots n) e = absurd cc

same_number : (n : ℕ) → (n == n) ≡ true
same_number n = grind arith

pub label_same : (a : Label) → same_label a a ≡ true
label_same (Star n) = same_number n
label_same (Dots n) = same_number n
label_same (Place n) = same_number n

not_true : (b : Bool) → (b ≡ true → ⊥) → b ≡ false
not_true true f = absurd (f refl)
not_true false f = refl

apart : false ≡ true → ⊥
apart e = absurd cc

pub label_turned : (a b : Label) → same_label a b ≡ false → same_label b a ≡ false
label_turned a b e = not_true (same_label b a) (λ f. apart (sym e ∙ (ap (λ x. same_label a x) (label_is b a f) ∙ label_same a)))

-- ---- labels of which each stands once

abbrev HasOne : List Label → Label → Type 0
HasOne ls l = 1 ≤ count_by (same_label l) ls

abbrev AllOnce : List Label → List Label → Type 0
AllOnce ms ls = list_all (stands_once ms) ls ≡ true

pub count_one : (ms : List Label) (l : Label) → stands_once ms l ≡ true → count_by (same_label l) ms ≡ 1
count_one ms l e = eqb-true (count_by (same_label l) ms) 1 e

pub count_cons : (l m : Label) (ms : List Label) → count_by (same_label l) (m ∷ ms) ≡ cond (same_label l m) 1 0 + count_by (same_label l) ms
count_cons l m ms = sum_by-cons (λ x. cond (same_label l x) 1 0) m ms

-- a label that stands somewhere is one of the list's
found_once : (ms ls : List Label) (l : Label) → AllOnce ls ms → HasOne ms l → count_by (same_label l) ls ≡ 1
found_once [] ls l h one = absurd (omega (arith, one))
found_once (m ∷ ms) ls l h one = go (same_label l m) refl (found_once ms ls l)
  where
    go : (b : Bool) → same_label l m ≡ b → (AllOnce ls ms → HasOne ms l → count_by (same_label l) ls ≡ 1) → count_by (same_label l) ls ≡ 1
    go true e rest = subst (λ x. count_by (same_label x) ls ≡ 1) (sym (label_is l m e)) (count_one ls m (and_parts (stands_once ls m) (list_all (stands_once ls) ms) h).0)
    go false e rest =
        let more : count_by (same_label l) (m ∷ ms) ≡ cond false 1 0 + count_by (same_label l) ms = count_cons l m ms ∙ ap (λ b. cond b 1 0 + count_by (same_label l) ms) e in
        rest (and_parts (stands_once ls m) (list_all (stands_once ls) ms) h).1 (omega (arith, more, one))

one_is : (n : ℕ) → n ≡ 1 → (n == 1) ≡ true
one_is n e = grind (arith, e)

-- each label of the one list stands once in it, where each stands once in the other, and the other's in it
stands_alone : (ks ls ms : List Label) → AllOnce ms ks → AllOnce ls ms → AllOnce ls ks
stands_alone [] ls ms h g = refl
stands_alone (k ∷ ks) ls ms h g =
    and_from (stands_once ls k) (list_all (stands_once ls) ks)
    (one_is (count_by (same_label k) ls) (found_once ms ls k g (omega (arith, count_one ms k (and_parts (stands_once ms k) (list_all (stands_once ms) ks) h).0))))
    (stands_alone ks ls ms (and_parts (stands_once ms k) (list_all (stands_once ms) ks) h).1 g)

-- ---- the texts that labels have

text_first : (l : Label) (ls : List Label) (t : List ℕ) (ts : Texts) (m : Label) → same_label l m ≡ true → text_for (l ∷ ls) (t ∷ ts) m ≡ t
text_first l ls t ts m e = rw e refl

text_later : (l : Label) (ls : List Label) (t : List ℕ) (ts : Texts) (m : Label) → same_label l m ≡ false → text_for (l ∷ ls) (t ∷ ts) m ≡ text_for ls ts m
text_later l ls t ts m e = rw e refl

-- a list of labels after one that it has not
abbrev IsFree : Label → List Label → Type 0
IsFree l ls = count_by (same_label l) ls ≡ 0

texts_later : (l : Label) (ms ls : List Label) (t : List ℕ) (ts : Texts) → IsFree l ms → map (text_for (l ∷ ls) (t ∷ ts)) ms ≡ map (text_for ls ts) ms
texts_later l [] ls t ts free = refl
texts_later l (m ∷ ms) ls t ts free =
    go (same_label l m) refl (texts_later l ms ls t ts)
  where
    go : (b : Bool) → same_label l m ≡ b → (IsFree l ms → map (text_for (l ∷ ls) (t ∷ ts)) ms ≡ map (text_for ls ts) ms) →
        map (text_for (l ∷ ls) (t ∷ ts)) (m ∷ ms) ≡ map (text_for ls ts) (m ∷ ms)
    go true e rest = let one : cond true 1 0 + count_by (same_label l) ms ≡ 0 = sym (ap (λ b. cond b 1 0 + count_by (same_label l) ms) e) ∙ sym (count_cons l m ms) ∙ free in absurd (omega (arith, one))
    go false e rest =
        let none : cond false 1 0 + count_by (same_label l) ms ≡ 0 = sym (ap (λ b. cond b 1 0 + count_by (same_label l) ms) e) ∙ sym (count_cons l m ms) ∙ free in
        ap (λ u. u ∷ map (text_for (l ∷ ls) (t ∷ ts)) ms) (text_later l ls t ts m e) ∙ ap (λ us. text_for ls ts m ∷ us) (rest (omega (arith, none)))

-- no label of a list stands in it twice
abbrev NoTwice : List Label → Type 0
NoTwice [] = Unit {0}
NoTwice (l ∷ ls) = IsFree l ls × NoTwice ls

free_of : (l : Label) (ls : List Label) → count_by (same_label l) (l ∷ ls) ≡ 1 → IsFree l ls
free_of l ls e =
    let f : cond true 1 0 + count_by (same_label l) ls ≡ 1 = sym (ap (λ b. cond b 1 0 + count_by (same_label l) ls) (label_same l)) ∙ sym (count_cons l l ls) ∙ e in
    omega (arith, f)

-- a label that stands once in a list stands in no later part without it
has_first : (l : Label) (ls : List Label) → 1 ≤ count_by (same_label l) (l ∷ ls)
has_first l ls = omega (arith, count_cons l l ls ∙ ap (λ b. cond b 1 0 + count_by (same_label l) ls) (label_same l))

in_longer : (l k : Label) (ls : List Label) → count_by (same_label l) ls ≤ count_by (same_label l) (k ∷ ls)
in_longer l k ls = omega (arith, count_cons l k ls)

-- the labels of a part of a list, in which each stands at most once
at_most_once : (ls ks : List Label) → AllOnce ks ls → ((l : Label) → count_by (same_label l) ls ≤ count_by (same_label l) ks) → NoTwice ls
at_most_once [] ks h part = tt
at_most_once (l ∷ ls) ks h part = (
  free_of l ls (omega (arith, has_first l ls, part l, count_one ks l (and_parts (stands_once ks l) (list_all (stands_once ks) ls) h).0)),
  at_most_once ls ks (and_parts (stands_once ks l) (list_all (stands_once ks) ls) h).1 (λ k. omega (arith, in_longer k l ls, part k)),
)

own_texts : (ls : List Label) (ts : Texts) → NoTwice ls → length ts ≡ length ls → map (text_for ls ts) ls ≡ ts
own_texts [] [] h e = refl
own_texts [] (t ∷ ts) h e = absurd (omega (arith, e))
own_texts (l ∷ ls) [] h e = absurd (omega (arith, e))
own_texts (l ∷ ls) (t ∷ ts) h e =
    ap (λ u. u ∷ map (text_for (l ∷ ls) (t ∷ ts)) ls) (text_first l ls t ts l (label_same l))
    ∙ ap (λ us. t ∷ us) (texts_later l ls ls t ts h.0 ∙ own_texts ls ts h.1 (omega (arith, e)))

-- the text of a label, where each label has the text that a function gives it
text_given : (f : Label → List ℕ) (ms : List Label) (l : Label) → HasOne ms l → text_for ms (map f ms) l ≡ f l
text_given f [] l one = absurd (omega (arith, one))
text_given f (m ∷ ms) l one = go (same_label m l) refl (text_given f ms l)
  where
    go : (b : Bool) → same_label m l ≡ b → (HasOne ms l → text_for ms (map f ms) l ≡ f l) → text_for (m ∷ ms) (map f (m ∷ ms)) l ≡ f l
    go true e rest = text_first m ms (f m) (map f ms) l e ∙ ap f (label_is m l e)
    go false e rest =
        let more : count_by (same_label l) (m ∷ ms) ≡ cond false 1 0 + count_by (same_label l) ms =
        count_cons l m ms ∙ ap (λ b. cond b 1 0 + count_by (same_label l) ms) (label_turned m l e) in
        text_later m ms (f m) (map f ms) l e ∙ rest (omega (arith, more, one))

texts_given : (f : Label → List ℕ) (ls ms : List Label) → AllOnce ms ls → map (text_for ms (map f ms)) ls ≡ map f ls
texts_given f [] ms h = refl
texts_given f (l ∷ ls) ms h =
    ap (λ u. u ∷ map (text_for ms (map f ms)) ls) (text_given f ms l (omega (arith, count_one ms l (and_parts (stands_once ms l) (list_all (stands_once ms) ls) h).0)))
    ∙ ap (λ us. f l ∷ us) (texts_given f ls ms (and_parts (stands_once ms l) (list_all (stands_once ms) ls) h).1)

-- there and back
pub back_again : (from to : List Piece) (ts : Texts) → same_specifiers from to ≡ true → length ts ≡ length (labels from) → answering to from (answering from to ts) ≡ ts
back_again from to ts h e =
    let there : AllOnce (labels to) (labels from) = (and_parts (list_all (stands_once (labels to)) (labels from)) (list_all (stands_once (labels from)) (labels to)) h).0 in
    let back : AllOnce (labels from) (labels to) = (and_parts (list_all (stands_once (labels to)) (labels from)) (list_all (stands_once (labels from)) (labels to)) h).1 in
    texts_given (text_for (labels from) ts) (labels from) (labels to) there
    ∙ own_texts (labels from) ts (at_most_once (labels from) (labels from) (stands_alone (labels from) (labels from) (labels to) there back) (λ l. omega arith)) e

pub turned : (from to : List Piece) → same_specifiers from to ≡ true → same_specifiers to from ≡ true
turned from to h =
    and_from (list_all (stands_once (labels from)) (labels to)) (list_all (stands_once (labels to)) (labels from))
    (and_parts (list_all (stands_once (labels to)) (labels from)) (list_all (stands_once (labels from)) (labels to)) h).1
    (and_parts (list_all (stands_once (labels to)) (labels from)) (list_all (stands_once (labels from)) (labels to)) h).0
