-- UTF-8 of the parts of a text.
use Rattle.std.proofs.Common.{◌≡◌, ℕ, ◌<◌, ◌≤◌, ◌==◌, Bool, true, false, ◌&&◌, cond, List, [], ◌∷◌, ◌++◌, Option, Some, None, refl, sym, ap, ◌∙◌, arith}
use Rattle.std.specs.Prelude.{nat_le}
use Rattle.std.proofs.lemmas.Bool.Decides.{nat_tests}
use Rattle.depot_path.specs.declared.utf8.Tail.{Tail}
use Rattle.depot_path.specs.Utf8.{is_between, tail, tail_of, tail_past, goes_on, is_utf8}

pub cond_true : {A : Type 0} (v : Bool) (x y : A) → v ≡ true → cond v x y ≡ x
cond_true true x y e = refl
cond_true false x y e = absurd cc

pub cond_false : {A : Type 0} (v : Bool) (x y : A) → v ≡ false → cond v x y ≡ y
cond_false true x y e = absurd cc
cond_false false x y e = refl

-- where a character has ended, the next begins
ended : (t : Tail) (text : List ℕ) → (t.more == 0) ≡ true → goes_on (Some t) text ≡ is_utf8 text
ended t [] e = e
ended t (b ∷ text) e = ap (λ (o : Option Tail). goes_on o text) (cond_true (t.more == 0) (tail_of b) _ e)

goes_after : (o : Option Tail) (text more : List ℕ) → goes_on o text ≡ true → goes_on o (text ++ more) ≡ is_utf8 more
goes_after None text more h = absurd cc
goes_after (Some t) [] more h = ended t more h
goes_after (Some t) (b ∷ text) more h = goes_after (tail_past t b) text more h

-- behind whole characters a text goes on as it would begin
pub utf8-append : (text more : List ℕ) → is_utf8 text ≡ true → is_utf8 (text ++ more) ≡ is_utf8 more
utf8-append text more h = goes_after (Some (tail 0 0x80 0xBF)) text more h

pub utf8_both : (text more : List ℕ) → is_utf8 text ≡ true → is_utf8 more ≡ true → is_utf8 (text ++ more) ≡ true
utf8_both text more h k = utf8-append text more h ∙ k

-- what may follow within a character is no ASCII byte
abbrev IsHigh : Option Tail → Type 0
IsHigh None = Unit {0}
IsHigh (Some t) = 0x80 ≤ t.low

high_if : (v : Bool) (o p : Option Tail) → IsHigh o → IsHigh p → IsHigh (cond v o p)
high_if true o p h k = h
high_if false o p h k = k

high_of : (b : ℕ) → IsHigh (tail_of b)
high_of b =
    high_if (nat_le b 0x7F) _ _ (omega arith) (high_if (is_between 0xC2 0xDF b) _ _ (omega arith) (high_if (b == 0xE0) _ _ (omega arith)
    (high_if (b == 0xED) _ _ (omega arith) (high_if (is_between 0xE1 0xEF b) _ _ (omega arith) (high_if (b == 0xF0) _ _ (omega arith)
    (high_if (is_between 0xF1 0xF3 b) _ _ (omega arith) (high_if (b == 0xF4) _ _ (omega arith) tt)))))))

high_past : (t : Tail) (b : ℕ) → IsHigh (tail_past t b)
high_past t b = high_if (t.more == 0) _ _ (high_of b) (high_if (is_between t.low t.high b) _ _ (omega arith) tt)

below_none : (low x : ℕ) (w : Bool) → x < low → (nat_le low x && w) ≡ false
below_none low x w lt = let e : nat_le low x ≡ false = grind (arith, nat_tests) in rw e refl

stops : (v w : Bool) (o p : Option Tail) (text : List ℕ) → w ≡ false → goes_on (cond v o (cond w p None)) text ≡ true → v ≡ true
stops true w o p text e h = refl
stops false true o p text e h = absurd cc
stops false false o p text e h = absurd cc

front : (o : Option Tail) (text : List ℕ) (x : ℕ) (more : List ℕ) → IsHigh o → x < 0x80 → goes_on o (text ++ x ∷ more) ≡ true → goes_on o text ≡ true
front None text x more high lt h = absurd cc
front (Some t) [] x more high lt h =
    stops (t.more == 0) (is_between t.low t.high x) (tail_of x) _ more (below_none t.low x (nat_le x t.high) (omega arith)) h
front (Some t) (b ∷ text) x more high lt h = front (tail_past t b) text x more (high_past t b) lt h

-- what stands before an ASCII byte of a text, and behind it, is a text
pub utf8_front : (text : List ℕ) (x : ℕ) (more : List ℕ) → x < 0x80 → is_utf8 (text ++ x ∷ more) ≡ true → is_utf8 text ≡ true
utf8_front text x more lt h = front (Some (tail 0 0x80 0xBF)) text x more (omega arith) lt h

pub ascii-cons : (x : ℕ) (more : List ℕ) → x < 0x80 → is_utf8 (x ∷ more) ≡ is_utf8 more
ascii-cons x more lt =
    let e : nat_le x 0x7F ≡ true = grind (arith, nat_tests) in
    ap (λ (o : Option Tail). goes_on o more) (cond_true (nat_le x 0x7F) (Some (tail 0 0x80 0xBF)) _ e)

pub utf8_rest : (text : List ℕ) (x : ℕ) (more : List ℕ) → x < 0x80 → is_utf8 (text ++ x ∷ more) ≡ true → is_utf8 more ≡ true
utf8_rest text x more lt h =
    sym (ascii-cons x more lt) ∙ sym (utf8-append text (x ∷ more) (utf8_front text x more lt h)) ∙ h
