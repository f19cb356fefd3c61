-- What is read stands at the front of the bytes, and the first byte that can't go on is one of them.
use Rattle.std.proofs.Common.{◌≡◌, ℕ, zero, suc, ◌+◌, ◌-◌, ◌<◌, ◌≤◌, Bool, true, false, cond, leb, eqb, List, [], ◌∷◌, ◌++◌, length, take, drop, Some, None, refl, sym, ap, subst, ◌∙◌, append_assoc, arith, length-append}
use Rattle.std.specs.Prelude.{nat_eq, codes}
use Rattle.std.specs.List.{starts_with}
use Rattle.std.specs.Fmt.{decimal}
use Rattle.std.proofs.lemmas.List.{take-append-drop}
use Rattle.std.proofs.Math.Seq.{drop-append_seam}
use Rattle.db_records.specs.declared.change.Op.{Op}
use Rattle.db_records.specs.declared.record.Record.{Record}
use Rattle.record_text.specs.declared.fault.Part.TheVariants.{Field}
use Rattle.record_text.specs.declared.fault.RecordFault.{RecordFault}
use Rattle.record_text.specs.declared.fault.RecordFault.TheVariants as faults
use Rattle.record_text.specs.Answers.{Fails}
use Rattle.record_text.specs.Reading.{Reading, Done, Ends, Wrong, and_then, Reads}
use Rattle.record_text.specs.Spelling.{sign, number_at}
use Rattle.record_text.specs.Words.{word_read, common, greater}
use Rattle.record_text.specs.Grammar.{record_at, largest_wide}
use Rattle.record_text.proofs.RecordLaws.{record_reads}
use Rattle.record_text.proofs.Numbers.{number_reads}
use Rattle.journal_groups.specs.Groups.{open_byte}
use Rattle.journal_groups.specs.Reading.{exactly, head_at, window_read, window_at, body_below, body_at, group_at, behind_byte, behind_sign, mark_at, behind_mark, next_at, placed, IsWithin, FailsAt}
use Rattle.journal_groups.proofs.Bodies.{behind_is}
use Rattle.journal_groups.proofs.Extended.{parts_of, exactly_whole}

abbrev pub Inside : {A : Type 0} → List ℕ → Reading A → Type 0
Inside bytes (Done a rest) = (front : List ℕ) × (bytes ≡ front ++ rest)
Inside bytes Ends = Unit {0}
Inside bytes (Wrong part left) = left ≤ length bytes

longer : {A : Type 0} (front rest : List ℕ) (r : Reading A) → Inside rest r → Inside (front ++ rest) r
longer front rest (Done a after) i = (front ++ i.0, ap (λ (t : List ℕ). front ++ t) i.1 ∙ sym (append_assoc front i.0 after))
longer front rest Ends i = tt
longer front rest (Wrong part left) i = let l : length (front ++ rest) ≡ length front + length rest = length-append front rest in let le : left ≤ length rest = i in omega arith

inside_then : {A B : Type 0} (bytes : List ℕ) (r : Reading A) (f : A → List ℕ → Reading B) → Inside bytes r → ((a : A) (rest : List ℕ) → Inside rest (f a rest)) → Inside bytes (and_then r f)
inside_then bytes (Done a rest) f i h = subst (λ (t : List ℕ). Inside t (f a rest)) (sym i.1) (longer i.0 rest (f a rest) (h a rest))
inside_then bytes Ends f i h = tt
inside_then bytes (Wrong part left) f i h = i

inside_read : {A : Type 0} (read : List ℕ → Reading A) (Fits : A → Type 0) (spell : A → List ℕ) (bytes : List ℕ) (r : Reading A) → Reads read Fits spell → read bytes ≡ r → Inside bytes r
inside_read read Fits spell bytes (Done a rest) laws e = (spell a, (laws.done bytes a rest e).1)
inside_read read Fits spell bytes Ends laws e = tt
inside_read read Fits spell bytes (Wrong part left) laws e =
    let s = laws.wrong bytes part left e in
    let l : length bytes ≡ length s.front + length (s.bad ∷ s.after) = ap length s.parts ∙ length-append s.front (s.bad ∷ s.after) in
    let p : left ≡ suc (length s.after) = s.place in
    omega arith

inside_tested : (A : Type 0) (bytes : List ℕ) (b : Bool) (n : ℕ) → Inside {A = A} bytes (cond b Ends (Wrong Field (length bytes - n)))
inside_tested A bytes true n = tt
inside_tested A bytes false n = omega arith

inside_word : (word bytes : List ℕ) (b : Bool) (n : ℕ) → Inside bytes (word_read (λ (x : Unit {0}). word) Field bytes (cond b (Some tt) None) n)
inside_word word bytes true n = (take (length word) bytes, sym (take-append-drop (length word) bytes))
inside_word word bytes false n = inside_tested _ bytes (leb (length bytes) n) n

inside_exactly : (word bytes : List ℕ) → Inside bytes (exactly word bytes)
inside_exactly word bytes = inside_word word bytes (starts_with nat_eq bytes word) (greater (common word bytes) 0)

pub inside_head : (number : ℕ) (bytes : List ℕ) → Inside bytes (head_at number bytes)
inside_head number bytes =
    inside_then bytes (exactly (codes "@nx@ ") bytes) _ (inside_exactly (codes "@nx@ ") bytes)
    (λ _ rest1. inside_then rest1 (exactly (decimal number) rest1) _ (inside_exactly (decimal number) rest1)
    (λ _ rest2. inside_then rest2 (exactly (codes " ") rest2) _ (inside_exactly (codes " ") rest2)
    (λ _ rest. inside_read (number_at 0 largest_wide 0x0A) (λ n. (0 ≤ n) × (n ≤ largest_wide)) _ rest (number_at 0 largest_wide 0x0A rest) (number_reads 0 largest_wide 0x0A (omega arith) (omega arith) (omega arith) (omega arith)) refl)))

inside_window_read : (size : ℕ) (bytes : List ℕ) (r : Reading (Op × Record)) → Inside (take size bytes) r → Inside bytes (window_read size bytes r)
inside_window_read size bytes (Done x rest) i = (take (length (take size bytes) - length rest) bytes, sym (take-append-drop (length (take size bytes) - length rest) bytes))
inside_window_read size bytes Ends i = inside_tested _ bytes (leb (length bytes) size) size
inside_window_read size bytes (Wrong part left) i =
    let le : left ≤ length (take size bytes) = i in
    let b : length bytes - length (take size bytes) ≡ length bytes - size = behind_is size bytes in
    let l : length bytes ≡ length (take size bytes) + length (drop size bytes) = ap length (sym (take-append-drop size bytes)) ∙ length-append (take size bytes) (drop size bytes) in
    omega arith

pub inside_window : (size : ℕ) (bytes : List ℕ) → Inside bytes (window_at size bytes)
inside_window size bytes = inside_window_read size bytes (record_at (take size bytes)) (inside_read record_at _ _ (take size bytes) (record_at (take size bytes)) record_reads refl)

inside_below : (steps size : ℕ) (bytes : List ℕ) → Inside bytes (body_below steps size bytes)
inside_below steps zero bytes = ([], refl)
inside_below zero (suc size) bytes = tt
inside_below (suc steps) (suc size) bytes =
    inside_then bytes (window_at (suc size) bytes) (λ change rest. and_then (body_below steps (suc size - (length bytes - length rest)) rest) (λ changes after. Done (change ∷ changes) after)) (inside_window (suc size) bytes)
    (λ change rest. inside_then rest (body_below steps (suc size - (length bytes - length rest)) rest) (λ changes after. Done (change ∷ changes) after) (inside_below steps (suc size - (length bytes - length rest)) rest)
    (λ changes after. ([], refl)))

pub inside_group : (number : ℕ) (bytes : List ℕ) → Inside bytes (group_at number bytes)
inside_group number bytes = inside_then bytes (head_at number bytes) body_at (inside_head number bytes) (λ size rest. inside_below size size rest)

inside_behind_sign : (bytes : List ℕ) → Inside bytes (behind_sign bytes)
inside_behind_sign [] = tt
inside_behind_sign (byte ∷ rest) = longer (byte ∷ []) rest (behind_byte byte rest) (inside_then rest (exactly (codes "x@\n") rest) (λ _ after. Done (eqb byte open_byte) after) (inside_exactly (codes "x@\n") rest) (λ _ after. ([], refl)))

inside_mark : (bytes : List ℕ) → Inside bytes (mark_at bytes)
inside_mark bytes = inside_then bytes (exactly (sign ∷ []) bytes) (λ _ rest. behind_sign rest) (inside_exactly (sign ∷ []) bytes) (λ _ rest. inside_behind_sign rest)

inside_behind_mark : (number : ℕ) (opened : Bool) (rest : List ℕ) → Inside rest (behind_mark number opened rest)
inside_behind_mark number true rest = inside_then rest (group_at number rest) (λ changes after. Done (Some changes) after) (inside_group number rest) (λ changes after. ([], refl))
inside_behind_mark number false rest = ([], refl)

pub inside_next : (number : ℕ) (bytes : List ℕ) → Inside bytes (next_at number bytes)
inside_next number bytes = inside_then bytes (mark_at bytes) (behind_mark number) (inside_mark bytes) (inside_behind_mark number)

-- ---- faults with their places

pub within_of : {A : Type 0} (bytes : List ℕ) (r : Reading A) (fault : RecordFault) → Inside bytes r → Fails fault r → IsWithin (length bytes) fault
within_of bytes r faults.Memory i e = tt
within_of bytes r faults.Cut i e = tt
within_of bytes r (faults.Wrong part left) i e = subst (Inside bytes) e i

pub fails_at : {A : Type 0} (at : ℕ) (bytes : List ℕ) (r : Reading A) (fault : RecordFault) → Inside bytes r → Fails fault r → FailsAt at bytes (placed at (length bytes) fault) r
fails_at at bytes r faults.Memory i e = tt
fails_at at bytes r faults.Cut i e = (e, refl)
fails_at at bytes r (faults.Wrong part left) i e = let le : left ≤ length bytes = subst (Inside bytes) e i in (part, (left, (e, omega arith)))

pub inside_suffix : {A : Type 0} (bytes : List ℕ) (r : Reading A) (a : A) (rest : List ℕ) → Inside bytes r → r ≡ Done a rest → (length rest ≤ length bytes) × (rest ≡ drop (length bytes - length rest) bytes)
inside_suffix bytes r a rest i e =
    let s = subst (Inside bytes) e i in
    let l : length bytes ≡ length s.0 + length rest = ap length s.1 ∙ length-append s.0 rest in
    let n : length bytes - length rest ≡ length s.0 = omega arith in
    (omega arith, sym (ap (λ (k : ℕ). drop k bytes) n ∙ ap (drop (length s.0)) s.1 ∙ drop-append_seam s.0 rest))

pub head_suffix : (number : ℕ) (bytes : List ℕ) (size : ℕ) (rest : List ℕ) → head_at number bytes ≡ Done size rest → (length rest ≤ length bytes) × (rest ≡ drop (length bytes - length rest) bytes)
head_suffix number bytes size rest e = inside_suffix bytes (head_at number bytes) size rest (inside_head number bytes) e

pub mark_suffix : (bytes : List ℕ) (opened : Bool) (rest : List ℕ) → mark_at bytes ≡ Done opened rest → (length rest ≤ length bytes) × (rest ≡ drop (length bytes - length rest) bytes)
mark_suffix bytes opened rest e = inside_suffix bytes (mark_at bytes) opened rest (inside_mark bytes) e

-- a mark has a byte
pub mark_long : (bytes : List ℕ) (opened : Bool) (rest : List ℕ) → mark_at bytes ≡ Done opened rest → length rest < length bytes
mark_long bytes opened rest e =
    let p = parts_of (exactly (sign ∷ []) bytes) (λ _ mid. behind_sign mid) opened rest e in
    let whole = exactly_whole (sign ∷ []) bytes p.1.0 p.0 p.1.1.0 in
    let l : length bytes ≡ 1 + length p.1.0 = ap length whole ∙ length-append (sign ∷ []) p.1.0 in
    let s : length rest ≤ length p.1.0 = (inside_suffix p.1.0 (behind_sign p.1.0) opened rest (inside_behind_sign p.1.0) p.1.1.1).0 in
    omega arith
