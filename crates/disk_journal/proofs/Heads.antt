-- The head of a group is read as it is written.
use Rattle.std.proofs.Common.{◌≡◌, ◌≢◌, ℕ, ◌+◌, ◌%◌, ◌^◌, ◌<◌, Bool, true, false, cond, not, eqb, ltb, List, [], ◌∷◌, ◌++◌, length, take, drop, Option, Some, None, refl, sym, ◌∙◌, ap, arith, append_assoc, length-append}
use Rattle.std.specs.Prelude.{codes, decimal, position, IfSome, IsSomeAnd, MatchOption, SomeIff}
use denote.Bor.{Bor}
use Rattle.std.specs.List.{prefix_len}
use Rattle.std.proofs.lemmas.Bool.{ne_eqb, lt-ltb, eq-eqb}
use Rattle.std.proofs.lemmas.List.{take_at, drop_at, append_cancel_left}
use Rattle.std.proofs.lemmas.Fmt.{decimal_by_steps}
use Rattle.disk_journal.specs.Text.{head, mark}

-- other bytes than this one
abbrev other : ℕ → ℕ → Bool
other wanted byte = not (eqb byte wanted)

passes : (wanted d : ℕ) (tail : List ℕ) → wanted < 48 → prefix_len (other wanted) ((48 + d) ∷ tail) ≡ 1 + prefix_len (other wanted) tail
passes wanted d tail low = let e : eqb (48 + d) wanted ≡ false = ne_eqb (48 + d) wanted (λ h. omega (arith, h, low)) in rw e refl

digits_pass : (wanted n : ℕ) → wanted < 48 → n < 2 ^ 64 → (tail : List ℕ) → prefix_len (other wanted) (decimal n ++ tail) ≡ length (decimal n) + prefix_len (other wanted) tail
digits_pass wanted n low small =
    decimal_by_steps (λ k ds. (tail : List ℕ) → prefix_len (other wanted) (ds ++ tail) ≡ length ds + prefix_len (other wanted) tail)
    (λ k lt tail. passes wanted k tail low)
    (λ k ds big ih tail.
    let one = passes wanted (k % 10) tail low in
    let l : length (ds ++ (48 + k % 10) ∷ []) ≡ length ds + 1 = length-append ds ((48 + k % 10) ∷ []) in
    ap (prefix_len (other wanted)) (append_assoc ds ((48 + k % 10) ∷ []) tail) ∙ ih ((48 + k % 10) ∷ tail) ∙ omega (arith, one, l))
    n small

stops : (wanted : ℕ) (after : List ℕ) → prefix_len (other wanted) (wanted ∷ after) ≡ 0
stops wanted after = let e : eqb wanted wanted ≡ true = eq-eqb wanted wanted refl in rw e refl

-- the byte behind the digits is found
pub place_is : (wanted n : ℕ) (after : List ℕ) → wanted < 48 → n < 2 ^ 64 → position (λ byte. eqb byte wanted) (decimal n ++ wanted ∷ after) ≡ Some (length (decimal n))
place_is wanted n after low small =
    let at : prefix_len (other wanted) (decimal n ++ wanted ∷ after) ≡ length (decimal n) = digits_pass wanted n low small (wanted ∷ after) ∙ omega (arith, stops wanted after) in
    let within : ltb (length (decimal n)) (length (decimal n ++ wanted ∷ after)) ≡ true = lt-ltb _ _ (omega (arith, length-append (decimal n) (wanted ∷ after))) in
    ap (λ (k : ℕ). cond (ltb k (length (decimal n ++ wanted ∷ after))) (Some k) None) at ∙ ap (λ (b : Bool). cond b (Some (length (decimal n))) None) within

pub begins_is : (number size : ℕ) (rest : List ℕ) → mark 101 ++ (head number size ++ rest) ≡ codes "@ex@\n@nx@ " ++ (decimal number ++ 32 ∷ (decimal size ++ 10 ∷ rest))
begins_is number size rest = simp append_assoc

pub long_is : (number size : ℕ) → 5 + length (head number size) + size ≡ length (decimal number) + length (decimal size) + 2 + size + 10
long_is number size =
    omega (arith, length-append (codes "@nx@ " ++ decimal number ++ codes " " ++ decimal size) (codes "\n"), length-append (codes "@nx@ " ++ decimal number ++ codes " ") (decimal size), length-append (codes "@nx@ " ++ decimal number) (codes " "), length-append (codes "@nx@ ") (decimal number))

-- a mark that isn't open
pub not_open : (byte : ℕ) (rest more : List ℕ) → byte ≢ 101 → mark byte ++ rest ≡ codes "@ex@\n@nx@ " ++ more → ⊥
not_open byte rest more shut e = shut (let same : byte ≡ 101 = cc in same)

pub place_found : (wanted n : ℕ) (after bytes : List ℕ) (found : Option ℕ) → wanted < 48 → n < 2 ^ 64 → bytes ≡ decimal n ++ wanted ∷ after → found ≡ position (λ byte. eqb byte wanted) bytes → found ≡ Some (length (decimal n))
place_found wanted n after bytes found low small is found_is = found_is ∙ ap (position (λ byte. eqb byte wanted)) is ∙ place_is wanted n after low small

-- what stands behind that byte, and before it
pub after_is : (wanted n at : ℕ) (after bytes : List ℕ) → bytes ≡ decimal n ++ wanted ∷ after → at ≡ length (decimal n) → drop (at + 1) bytes ≡ after
after_is wanted n at after bytes is place =
    ap (λ (l : List ℕ). drop (at + 1) l) (is ∙ sym (append_assoc (decimal n) (wanted ∷ []) after)) ∙ drop_at (decimal n ++ wanted ∷ []) after (at + 1) (omega (arith, length-append (decimal n) (wanted ∷ []), place))

pub digits_are : (wanted n at : ℕ) (after bytes : List ℕ) → bytes ≡ decimal n ++ wanted ∷ after → at ≡ length (decimal n) → take at bytes ≡ decimal n
digits_are wanted n at after bytes is place = ap (λ (l : List ℕ). take at l) is ∙ take_at (decimal n) (wanted ∷ after) at (sym place)

pub line_long : (number size : ℕ) (after bytes : List ℕ) → bytes ≡ decimal number ++ 32 ∷ (decimal size ++ 10 ∷ after) → length bytes ≡ length (decimal number) + length (decimal size) + 2 + length after
line_long number size after bytes is =
    omega (arith, ap length is, length-append (decimal number) (32 ∷ (decimal size ++ 10 ∷ after)), length-append (decimal size) (10 ∷ after))

pub none_some : (k : ℕ) → (let o : Option ℕ = None in o) ≡ Some k → ⊥
none_some k e = cc

pub some_some : (j k : ℕ) → (let o : Option ℕ = Some j in o) ≡ Some k → j ≡ k
some_some j k e = cc

abbrev Strips : List ℕ → List ℕ → Option (Bor (List ℕ)) → Type 0
Strips bytes word found = MatchOption found ((rest : List ℕ) → bytes ≢ word ++ rest) (λ x. bytes ≡ word ++ x.now)

pub behind_found : (bytes word rest : List ℕ) (found : Option (Bor (List ℕ))) → bytes ≡ word ++ rest → Strips bytes word found → IsSomeAnd found (λ x. x.now ≡ rest)
behind_found bytes word rest None is strips = strips rest is
behind_found bytes word rest (Some x) is strips = append_cancel_left word x.now rest (sym strips ∙ is)

pub behind_only : (bytes word : List ℕ) (found : Option (Bor (List ℕ))) → Strips bytes word found → IfSome found (λ x. bytes ≡ word ++ x.now)
behind_only bytes word None strips = tt
behind_only bytes word (Some x) strips = strips

pub some_when : (found : Option ℕ) (P : Type 0) (v : ℕ) → SomeIff found P v → P → found ≡ Some v
some_when None P v iff holds = absurd (iff holds)
some_when (Some x) P v iff holds = ap (λ (n : ℕ). let o : Option ℕ = Some n in o) iff.1
