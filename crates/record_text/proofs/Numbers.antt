-- The reader of a number reads what is spelled so.
use Rattle.std.proofs.Common.{◌≡◌, ℕ, ◌+◌, ◌-◌, ◌*◌, ◌/◌, ◌%◌, ◌^◌, ◌<◌, ◌≤◌, Bool, true, false, cond, eqb, ltb, leb, ◌&&◌, List, [], ◌∷◌, ◌++◌, Option, Some, None, refl, sym, ap, subst, ◌∙◌, append_assoc, arith}
use Rattle.std.specs.Fmt.{decimal}
use Rattle.std.proofs.lemmas.Bool.{and_parts, and_from, leb-true, ltb-true, eqb-true, eq-eqb, ne_eqb, le-leb, lt-ltb}
use Rattle.std.proofs.lemmas.Fmt.{decimal_digit, decimal_step, decimal_by_steps}
use Rattle.record_text.specs.declared.fault.Part.TheVariants.{Field}
use Rattle.record_text.specs.Reading.{Done, Begins}
use Rattle.record_text.specs.Machine.{Step, Next, Last, Refuse, step_then, run}
use Rattle.db_records.specs.depot_path.Bytes.{is_digit}
use Rattle.record_text.specs.Spelling.{spelled_number, number_step, number_at}
use Rattle.record_text.proofs.Runs.{Steps, reads_run}
use Rattle.record_text.specs.Reading.{Reads}

abbrev pub FitsNumber : ℕ → ℕ → ℕ → Type 0
FitsNumber least most n = (least ≤ n) × (n ≤ most)

abbrev Good : ℕ → ℕ → Option ℕ → Type 0
Good least most None = Unit {0}
Good least most (Some n) = FitsNumber least most n

abbrev taken : Option ℕ → List ℕ
taken None = []
taken (Some n) = decimal n

abbrev chosen : Bool → Option ℕ → Step (Option ℕ) ℕ
chosen b s = cond b (Next s) Refuse

chosen_next : (b : Bool) (s t : Option ℕ) → chosen b s ≡ Next t → (b ≡ true) × (s ≡ t)
chosen_next true s t e = (refl, cc)
chosen_next false s t e = absurd cc

chosen_last : (b : Bool) (s : Option ℕ) (a : ℕ) → chosen b s ≡ Last a → ⊥
chosen_last true s a e = cc
chosen_last false s a e = cc

ended_next : (b d : Bool) (n : ℕ) (s t : Option ℕ) → cond b (Last n) (chosen d s) ≡ Next t → (d ≡ true) × (s ≡ t)
ended_next true d n s t e = absurd cc
ended_next false d n s t e = chosen_next d s t e

ended_last : (b d : Bool) (n a : ℕ) (s : Option ℕ) → cond b (Last n) (chosen d s) ≡ Last a → (b ≡ true) × (n ≡ a)
ended_last true d n a s e = (refl, cc)
ended_last false d n a s e = absurd (chosen_last d s a e)

-- one digit more
grown : (n d : ℕ) → 0 < n → d < 10 → 10 * n + d < 2 ^ 64 → decimal n ++ (48 + d) ∷ [] ≡ decimal (10 * n + d)
grown n d pos low small =
    let q : (10 * n + d) / 10 ≡ n = omega arith in
    let r : (10 * n + d) % 10 ≡ d = omega arith in
    sym (decimal_step (10 * n + d) (omega arith) small ∙ ap (λ (x : ℕ). decimal x ++ (48 + (10 * n + d) % 10) ∷ []) q ∙ ap (λ (x : ℕ). decimal n ++ (48 + x) ∷ []) r)

next_none : (least most ender byte : ℕ) (t : Option ℕ) → 9 ≤ most → number_step least most ender None byte ≡ Next t → Good least most t × ([] ++ byte ∷ [] ≡ taken t)
next_none least most ender byte t wide e =
    let h = chosen_next (is_digit byte && leb least (byte - 48)) (Some (byte - 48)) t e in
    let q = and_parts (is_digit byte) (leb least (byte - 48)) h.0 in
    let p = and_parts (leb 48 byte) (leb byte 57) q.0 in
    let low = leb-true 48 byte p.0 in
    let high = leb-true byte 57 p.1 in
    let back : 48 + (byte - 48) ≡ byte = omega arith in
    subst (λ (s : Option ℕ). Good least most s × ([] ++ byte ∷ [] ≡ taken s)) h.1 ((leb-true least (byte - 48) q.1, omega arith), sym (decimal_digit (byte - 48) (omega arith) ∙ ap (λ (x : ℕ). x ∷ []) back))

next_some : (least most ender n byte : ℕ) (t : Option ℕ) → most < 2 ^ 64 → FitsNumber least most n → number_step least most ender (Some n) byte ≡ Next t → Good least most t × (decimal n ++ byte ∷ [] ≡ taken t)
next_some least most ender n byte t small good e =
    let h = ended_next (eqb byte ender) (is_digit byte && (ltb 0 n && leb (10 * n + (byte - 48)) most)) n (Some (10 * n + (byte - 48))) t e in
    let p = and_parts (is_digit byte) (ltb 0 n && leb (10 * n + (byte - 48)) most) h.0 in
    let d = and_parts (leb 48 byte) (leb byte 57) p.0 in
    let q = and_parts (ltb 0 n) (leb (10 * n + (byte - 48)) most) p.1 in
    let low = leb-true 48 byte d.0 in
    let high = leb-true byte 57 d.1 in
    let pos = ltb-true 0 n q.0 in
    let fits = leb-true (10 * n + (byte - 48)) most q.1 in
    let from : least ≤ n = good.0 in
    let back : 48 + (byte - 48) ≡ byte = omega arith in
    subst (λ (s : Option ℕ). Good least most s × (decimal n ++ byte ∷ [] ≡ taken s)) h.1 ((omega arith, fits), ap (λ (x : ℕ). decimal n ++ x ∷ []) (sym back) ∙ grown n (byte - 48) pos (omega arith) (omega arith))

steps_next : (least most ender : ℕ) → 9 ≤ most → most < 2 ^ 64 → (s : Option ℕ) (byte : ℕ) (t : Option ℕ) → Good least most s → number_step least most ender s byte ≡ Next t → Good least most t × (taken s ++ byte ∷ [] ≡ taken t)
steps_next least most ender wide small None byte t good e = next_none least most ender byte t wide e
steps_next least most ender wide small (Some n) byte t good e = next_some least most ender n byte t small good e

steps_last : (least most ender : ℕ) (s : Option ℕ) (byte a : ℕ) → Good least most s → number_step least most ender s byte ≡ Last a → FitsNumber least most a × (taken s ++ byte ∷ [] ≡ spelled_number ender a)
steps_last least most ender None byte a good e = absurd (chosen_last (is_digit byte && leb least (byte - 48)) (Some (byte - 48)) a e)
steps_last least most ender (Some n) byte a good e =
    let h = ended_last (eqb byte ender) (is_digit byte && (ltb 0 n && leb (10 * n + (byte - 48)) most)) n a (Some (10 * n + (byte - 48))) e in
    (subst (FitsNumber least most) h.1 good, ap (λ (x : ℕ). decimal n ++ x ∷ []) (eqb-true byte ender h.0) ∙ ap (λ (x : ℕ). decimal x ++ ender ∷ []) h.1)

steps_begins : (least most ender : ℕ) → least ≤ 1 → 9 ≤ most → (s : Option ℕ) → Good least most s → Begins (FitsNumber least most) (spelled_number ender) (taken s)
steps_begins least most ender low wide None good = record { value = 1; fits = (low, omega arith); next = 49; more = ender ∷ []; whole = ap (λ (x : List ℕ). x ++ ender ∷ []) (sym (decimal_digit 1 (omega arith))) }
steps_begins least most ender low wide (Some n) good = record { value = n; fits = good; next = ender; more = []; whole = refl }

number_steps : (least most ender : ℕ) → least ≤ 1 → 9 ≤ most → most < 2 ^ 64 → Steps (number_step least most ender) (Good least most) taken (FitsNumber least most) (spelled_number ender)
number_steps least most ender low wide small = record {
  next = λ s byte t good e. steps_next least most ender wide small s byte t good e;
  last = λ s byte a good e. steps_last least most ender s byte a good e;
  begins = λ s good. steps_begins least most ender low wide s good;
}

-- reading the digits leads to the number
first_digit : (least most ender d : ℕ) (tail : List ℕ) → least ≤ d → d < 10 → number_at least most ender ((48 + d) ∷ tail) ≡ run (number_step least most ender) Field (Some d) tail
first_digit least most ender d tail from low =
    let t : is_digit (48 + d) ≡ true = and_from (leb 48 (48 + d)) (leb (48 + d) 57) (le-leb 48 (48 + d) (omega arith)) (le-leb (48 + d) 57 (omega arith)) in
    let back : (48 + d) - 48 ≡ d = omega arith in
    let f : leb least d ≡ true = le-leb least d from in
    let one : number_step least most ender None (48 + d) ≡ Next (Some d) = rw (t, back, f) refl in
    ap (λ (s : Step (Option ℕ) ℕ). step_then s (λ next. run (number_step least most ender) Field next tail) Field tail) one

next_digit : (least most ender n d : ℕ) (tail : List ℕ) → ender < 48 → 0 < n → d < 10 → 10 * n + d ≤ most → run (number_step least most ender) Field (Some n) ((48 + d) ∷ tail) ≡ run (number_step least most ender) Field (Some (10 * n + d)) tail
next_digit least most ender n d tail low_end pos low fits =
    let t : is_digit (48 + d) ≡ true = and_from (leb 48 (48 + d)) (leb (48 + d) 57) (le-leb 48 (48 + d) (omega arith)) (le-leb (48 + d) 57 (omega arith)) in
    let back : (48 + d) - 48 ≡ d = omega arith in
    let not_end : eqb (48 + d) ender ≡ false = ne_eqb (48 + d) ender (λ e. omega arith) in
    let inner : (ltb 0 n && leb (10 * n + d) most) ≡ true = and_from (ltb 0 n) (leb (10 * n + d) most) (lt-ltb 0 n pos) (le-leb (10 * n + d) most fits) in
    let one : number_step least most ender (Some n) (48 + d) ≡ Next (Some (10 * n + d)) = rw (not_end, t, back, inner) refl in
    ap (λ (s : Step (Option ℕ) ℕ). step_then s (λ next. run (number_step least most ender) Field next tail) Field tail) one

digits_read : (least most ender n : ℕ) → least ≤ 1 → ender < 48 → n < 2 ^ 64 → (tail : List ℕ) → least ≤ n → n ≤ most → number_at least most ender (decimal n ++ tail) ≡ run (number_step least most ender) Field (Some n) tail
digits_read least most ender n one low_end small =
    decimal_by_steps (λ k ds. (tail : List ℕ) → least ≤ k → k ≤ most → number_at least most ender (ds ++ tail) ≡ run (number_step least most ender) Field (Some k) tail)
    (λ k low tail from fits. first_digit least most ender k tail from low)
    (λ k ds big ih tail from fits.
    let whole : 10 * (k / 10) + k % 10 ≡ k = omega arith in
    ap (number_at least most ender) (append_assoc ds ((48 + k % 10) ∷ []) tail)
    ∙ ih ((48 + k % 10) ∷ tail) (omega arith) (omega arith)
    ∙ next_digit least most ender (k / 10) (k % 10) tail low_end (omega arith) (omega arith) (omega arith)
    ∙ ap (λ (x : ℕ). run (number_step least most ender) Field (Some x) tail) whole)
    n small

number_again : (least most ender : ℕ) → least ≤ 1 → ender < 48 → most < 2 ^ 64 → (n : ℕ) (rest : List ℕ) → FitsNumber least most n → number_at least most ender (spelled_number ender n ++ rest) ≡ Done n rest
number_again least most ender low low_end small n rest fits =
    let from : least ≤ n = fits.0 in
    let within : n ≤ most = fits.1 in
    let ends_here : eqb ender ender ≡ true = eq-eqb ender ender refl in
    ap (number_at least most ender) (append_assoc (decimal n) (ender ∷ []) rest)
    ∙ digits_read least most ender n low low_end (omega arith) (ender ∷ rest) from within
    ∙ rw ends_here refl

pub number_reads : (least most ender : ℕ) → least ≤ 1 → 9 ≤ most → most < 2 ^ 64 → ender < 48 → Reads (number_at least most ender) (FitsNumber least most) (spelled_number ender)
number_reads least most ender low wide small low_end = reads_run (number_step least most ender) Field (Good least most) taken (FitsNumber least most) (spelled_number ender) None (number_steps least most ender low wide small) tt refl (λ n rest fits. number_again least most ender low low_end small n rest fits)
