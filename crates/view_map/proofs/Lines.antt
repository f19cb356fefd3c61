-- How the lines read so far go on by one.
use Rattle.std.proofs.Common.{◌≡◌, inl, inr, ℕ, zero, suc, ◌+◌, ◌<◌, ◌≤◌, Bool, true, false, cond, List, [], ◌∷◌, ◌++◌, length, drop, get_or, refl, sym, ap, subst, ◌∙◌, append_assoc, arith, Result, Ok, Err}
use Rattle.std.specs.Prelude.{◌&&◌}
use Rattle.std.specs.List.{list_all}
use Rattle.std.proofs.lemmas.List.{append-nil}
use Rattle.std.proofs.lemmas.List.Folds.{list_all-append}
use Rattle.depot_path.specs.Answers.{Answers, ◌>>=◌, on_ok, on_err}
use Rattle.view_map.specs.Carry.{is_paired}
use Rattle.view_map.specs.Reading.{line_of, in_line, no_memory, is_memory, lines_from}
use Rattle.view_map.specs.declared.line.ViewLine.{ViewLine}
use Rattle.view_map.specs.declared.fault.ViewFault.{ViewFault}
use Rattle.view_map.specs.declared.fault.ViewCause.{ViewCause}
use Rattle.view_map.specs.declared.fault.ViewCause.TheVariants.{BadLine, UnequalSpecifiers, TooManyLines, WrongRoot, Memory}

abbrev pub after_these : List ViewLine → Result (List ViewLine) ViewFault → Result (List ViewLine) ViewFault
after_these read answer = on_ok (λ lines. read ++ lines) answer

-- the lines read so far, and those that follow
pub record HasRead (root : List ℕ) (texts : List (List ℕ)) (read : List ViewLine) (i : ℕ) : Type 0 where
  pub goes_on : after_these read (lines_from (i + 1) root (drop i texts)) ≡ lines_from 1 root texts
  pub paired : list_all is_paired read ≡ true

at_step : (n : ℕ) (root : List ℕ) (texts : List (List ℕ)) (i : ℕ) (d : List ℕ) → i < length texts →
    lines_from n root (drop i texts) ≡ (on_err (in_line n) (line_of root (get_or texts i d)) >>= (λ line. on_ok (λ lines. line ∷ lines) (lines_from (n + 1) root (drop (i + 1) texts))))
at_step n root [] i d low = absurd (omega arith)
at_step n root (text ∷ texts) zero d low = refl
at_step n root (text ∷ texts) (suc i) d low = let next : suc i + 1 ≡ suc (i + 1) = omega arith in rw next (at_step n root texts i d (omega arith))

is_line : (line : ViewLine) (expected : Result ViewLine ViewCause) → Answers Memory (Ok line) expected → expected ≡ Ok line
is_line line expected h = elim h.is [ inl e ↦ cc | inr e ↦ sym e ]

pushed : (read : List ViewLine) (line : ViewLine) (answer : Result (List ViewLine) ViewFault) →
    after_these read (on_ok (λ lines. line ∷ lines) answer) ≡ after_these (read ++ line ∷ []) answer
pushed read line (Err fault) = refl
pushed read line (Ok lines) = ap Ok (sym (append_assoc read (line ∷ []) lines))

both : (a b : Bool) → a ≡ true → b ≡ true → (a && (b && true)) ≡ true
both true true e f = refl
both true false e f = f
both false b e f = e

pub one_more : (root : List ℕ) (texts : List (List ℕ)) (read : List ViewLine) (i : ℕ) (d : List ℕ) (line : ViewLine) → i < length texts → HasRead root texts read i →
    Answers Memory (Ok line) (line_of root (get_or texts i d)) → is_paired line ≡ true → HasRead root texts (read ++ line ∷ []) (i + 1)
one_more root texts read i d line low h is paired = record {
  goes_on =
      sym (pushed read line (lines_from (i + 1 + 1) root (drop (i + 1) texts)))
      ∙ ap (λ r. after_these read (on_err (in_line (i + 1)) r >>= (λ line. on_ok (λ lines. line ∷ lines) (lines_from (i + 1 + 1) root (drop (i + 1) texts))))) (sym (is_line line (line_of root (get_or texts i d)) is))
      ∙ ap (after_these read) (sym (at_step (i + 1) root texts i d low)) ∙ h.goes_on;
  paired = list_all-append is_paired read (line ∷ []) ∙ both (list_all is_paired read) (is_paired line) h.paired paired;
}

bad_line : (root : List ℕ) (texts : List (List ℕ)) (read : List ViewLine) (i : ℕ) (d : List ℕ) (what : ViewCause) → i < length texts → HasRead root texts read i →
    line_of root (get_or texts i d) ≡ Err what → lines_from 1 root texts ≡ Err (in_line (i + 1) what)
bad_line root texts read i d what low h e =
    sym h.goes_on ∙ ap (after_these read) (at_step (i + 1) root texts i d low)
    ∙ ap (λ r. after_these read (on_err (in_line (i + 1)) r >>= (λ line. on_ok (λ lines. line ∷ lines) (lines_from (i + 1 + 1) root (drop (i + 1) texts))))) e

fault_is : (n : ℕ) (what : ViewCause) (expected : Result (List ViewLine) ViewFault) → expected ≡ Err (in_line n what) →
    Answers no_memory (Err (cond (is_memory what) no_memory (in_line n what))) expected
fault_is n BadLine expected e = record { is = inr (sym e) }
fault_is n UnequalSpecifiers expected e = record { is = inr (sym e) }
fault_is n TooManyLines expected e = record { is = inr (sym e) }
fault_is n WrongRoot expected e = record { is = inr (sym e) }
fault_is n Memory expected e = record { is = inl refl }

wants : (n : ℕ) (what : ViewCause) (expected : Result (List ViewLine) ViewFault) → what ≡ Memory → Answers no_memory (Err (cond (is_memory what) no_memory (in_line n what))) expected
wants n what expected e = record { is = inl (ap (λ w. Err (cond (is_memory w) no_memory (in_line n w))) e) }

is_memory_fault : (fault : ViewCause) (x y : Result ViewLine ViewCause) → x ≡ Err fault → y ≡ Err Memory → x ≡ y → fault ≡ Memory
is_memory_fault fault x y e f h = cc

pub stops : (root : List ℕ) (texts : List (List ℕ)) (read : List ViewLine) (i : ℕ) (d : List ℕ) (what : ViewCause) (fault : ViewFault) → i < length texts → HasRead root texts read i →
    Answers Memory (Err what) (line_of root (get_or texts i d)) → fault ≡ cond (is_memory what) no_memory (in_line (i + 1) what) → Answers no_memory (Err fault) (lines_from 1 root texts)
stops root texts read i d what fault low h is e =
    let P : ViewFault → Type 0 = λ f. Answers no_memory (Err f) (lines_from 1 root texts) in
    subst P (sym e) (elim is.is [
      | inl m ↦ wants (i + 1) what (lines_from 1 root texts) (is_memory_fault what _ _ refl refl m)
      | inr k ↦ fault_is (i + 1) what (lines_from 1 root texts) (bad_line root texts read i d what low h (sym k))
    ])

no_more : (n : ℕ) (root : List ℕ) (texts : List (List ℕ)) (read : List ViewLine) (i : ℕ) → length texts ≤ i → after_these read (lines_from n root (drop i texts)) ≡ Ok (read ++ [])
no_more n root [] read zero low = refl
no_more n root [] read (suc i) low = refl
no_more n root (text ∷ texts) read zero low = absurd (omega arith)
no_more n root (text ∷ texts) read (suc i) low = no_more n root texts read i (omega arith)

pub all_read : (root : List ℕ) (texts : List (List ℕ)) (read : List ViewLine) (i : ℕ) → length texts ≤ i → HasRead root texts read i → Answers no_memory (Ok read) (lines_from 1 root texts)
all_read root texts read i low h = record { is = inr (ap Ok (sym (append-nil read)) ∙ sym (no_more (i + 1) root texts read i low) ∙ h.goes_on) }
