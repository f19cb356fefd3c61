-- How the lines read so far go on by one.
use Rattle.std.proofs.Common.{◌≡◌, inl, inr, ℕ, zero, suc, ◌+◌, ◌<◌, ◌≤◌, cond, List, [], ◌∷◌, ◌++◌, length, drop, get_or, refl, sym, ap, subst, ◌∙◌, append_assoc, arith, Result, Ok, Err}
use Rattle.std.proofs.lemmas.List.{append-nil}
use Rattle.depot_path.specs.Answers.{Answers, ◌>>=◌, on_ok, on_err}
use Rattle.protect_table.specs.Line.{line_of, in_line, no_memory, is_memory, lines_from, table_of}
use Rattle.protect_table.specs.declared.line.ProtectLine.{ProtectLine}
use Rattle.protect_table.specs.declared.fault.ProtectFault.{ProtectFault}
use Rattle.protect_table.specs.declared.fault.LineFault.{LineFault}
use Rattle.protect_table.specs.declared.fault.LineFault.TheVariants.{BadMode, BadGrantee, BadPath, Memory}

abbrev pub after_these : List ProtectLine → Result (List ProtectLine) ProtectFault → Result (List ProtectLine) ProtectFault
after_these read answer = on_ok (λ lines. read ++ lines) answer

-- the lines read so far, and those that follow
pub record HasRead (texts : List (List ℕ)) (read : List ProtectLine) (i : ℕ) : Type 0 where
  pub goes_on : after_these read (lines_from (i + 1) (drop i texts)) ≡ table_of texts

at_step : (n : ℕ) (texts : List (List ℕ)) (i : ℕ) (d : List ℕ) → i < length texts →
    lines_from n (drop i texts) ≡ (on_err (in_line n) (line_of (get_or texts i d)) >>= (λ line. on_ok (λ lines. line ∷ lines) (lines_from (n + 1) (drop (i + 1) texts))))
at_step n [] i d low = absurd (omega arith)
at_step n (text ∷ texts) zero d low = refl
at_step n (text ∷ texts) (suc i) d low = let next : suc i + 1 ≡ suc (i + 1) = omega arith in rw next (at_step n texts i d (omega arith))

is_line : (line : ProtectLine) (expected : Result ProtectLine LineFault) → Answers Memory (Ok line) expected → expected ≡ Ok line
is_line line expected h = elim h.is [ inl e ↦ cc | inr e ↦ sym e ]

pushed : (read : List ProtectLine) (line : ProtectLine) (answer : Result (List ProtectLine) ProtectFault) →
    after_these read (on_ok (λ lines. line ∷ lines) answer) ≡ after_these (read ++ line ∷ []) answer
pushed read line (Err fault) = refl
pushed read line (Ok lines) = ap Ok (sym (append_assoc read (line ∷ []) lines))

pub one_more : (texts : List (List ℕ)) (read : List ProtectLine) (i : ℕ) (d : List ℕ) (line : ProtectLine) → i < length texts → HasRead texts read i →
    Answers Memory (Ok line) (line_of (get_or texts i d)) → HasRead texts (read ++ line ∷ []) (i + 1)
one_more texts read i d line low h is = record {
  goes_on =
      sym (pushed read line (lines_from (i + 1 + 1) (drop (i + 1) texts)))
      ∙ ap (λ r. after_these read (on_err (in_line (i + 1)) r >>= (λ line. on_ok (λ lines. line ∷ lines) (lines_from (i + 1 + 1) (drop (i + 1) texts))))) (sym (is_line line (line_of (get_or texts i d)) is))
      ∙ ap (after_these read) (sym (at_step (i + 1) texts i d low)) ∙ h.goes_on;
}

bad_line : (texts : List (List ℕ)) (read : List ProtectLine) (i : ℕ) (d : List ℕ) (what : LineFault) → i < length texts → HasRead texts read i →
    line_of (get_or texts i d) ≡ Err what → table_of texts ≡ Err (in_line (i + 1) what)
bad_line texts read i d what low h e =
    sym h.goes_on ∙ ap (after_these read) (at_step (i + 1) texts i d low)
    ∙ ap (λ r. after_these read (on_err (in_line (i + 1)) r >>= (λ line. on_ok (λ lines. line ∷ lines) (lines_from (i + 1 + 1) (drop (i + 1) texts))))) e

fault_is : (n : ℕ) (what : LineFault) (expected : Result (List ProtectLine) ProtectFault) → expected ≡ Err (in_line n what) →
    Answers no_memory (Err (cond (is_memory what) no_memory (in_line n what))) expected
fault_is n BadMode expected e = record { is = inr (sym e) }
fault_is n BadGrantee expected e = record { is = inr (sym e) }
fault_is n BadPath expected e = record { is = inr (sym e) }
fault_is n Memory expected e = record { is = inl refl }

wants : (n : ℕ) (what : LineFault) (expected : Result (List ProtectLine) ProtectFault) → what ≡ Memory → Answers no_memory (Err (cond (is_memory what) no_memory (in_line n what))) expected
wants n what expected e = record { is = inl (ap (λ w. Err (cond (is_memory w) no_memory (in_line n w))) e) }

is_memory_fault : (fault : LineFault) (x y : Result ProtectLine LineFault) → x ≡ Err fault → y ≡ Err Memory → x ≡ y → fault ≡ Memory
is_memory_fault fault x y e f h = cc

is_that_fault : (fault : LineFault) (expected : Result ProtectLine LineFault) → Err fault ≡ expected → expected ≡ Err fault
is_that_fault fault expected e = sym e

pub stops : (texts : List (List ℕ)) (read : List ProtectLine) (i : ℕ) (d : List ℕ) (what : LineFault) (fault : ProtectFault) → i < length texts → HasRead texts read i →
    Answers Memory (Err what) (line_of (get_or texts i d)) → fault ≡ cond (is_memory what) no_memory (in_line (i + 1) what) → Answers no_memory (Err fault) (table_of texts)
stops texts read i d what fault low h is e =
    let P : ProtectFault → Type 0 = λ f. Answers no_memory (Err f) (table_of texts) in
    subst P (sym e) (elim is.is [
      | inl m ↦ wants (i + 1) what (table_of texts) (is_memory_fault what _ _ refl refl m)
      | inr k ↦ fault_is (i + 1) what (table_of texts) (bad_line texts read i d what low h (sym k))
    ])

no_more : (n : ℕ) (texts : List (List ℕ)) (read : List ProtectLine) (i : ℕ) → length texts ≤ i → after_these read (lines_from n (drop i texts)) ≡ Ok (read ++ [])
no_more n [] read zero low = refl
no_more n [] read (suc i) low = refl
no_more n (text ∷ texts) read zero low = absurd (omega arith)
no_more n (text ∷ texts) read (suc i) low = no_more n texts read i (omega arith)

pub all_read : (texts : List (List ℕ)) (read : List ProtectLine) (i : ℕ) → length texts ≤ i → HasRead texts read i → Answers no_memory (Ok read) (table_of texts)
all_read texts read i low h = record { is = inr (ap Ok (sym (append-nil read)) ∙ sym (no_more (i + 1) texts read i low) ∙ h.goes_on) }
