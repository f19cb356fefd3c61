-- What a record's reader says, from the laws.
use Rattle.std.proofs.Common.{◌≡◌, ℕ, ◌+◌, ◌-◌, ◌≤◌, List, [], ◌∷◌, ◌++◌, length, take, drop, Result, Ok, Err, refl, sym, ap, subst, ◌∙◌, append_assoc, arith, length-append}
use Rattle.std.specs.Prelude.{IfOk, IsErrOf}
use Rattle.std.proofs.lemmas.List.{drop_at, append_cancel_right, take-append-drop, append-nil, length-drop}
use Rattle.db_records.specs.declared.change.Op.{Op}
use Rattle.db_records.specs.declared.record.Record.{Record}
use Rattle.record_text.specs.declared.fault.Part.{Part}
use Rattle.record_text.specs.declared.fault.RecordFault.{RecordFault}
use Rattle.record_text.specs.declared.fault.RecordFault.TheVariants as faults
use Rattle.record_text.specs.Reading.{Reading, Done, Ends, Wrong}
use Rattle.record_text.specs.Grammar.{record_at, IsRecord, spelling}
use Rattle.record_text.specs.Answers.{Fails, Gives}
use Rattle.record_text.specs.Clauses.{IsBeginning, StopsAt, IsAnswer, IsCut, IfWrong}
use Rattle.record_text.proofs.RecordLaws.{record_reads}

abbrev pub Answer : Type 0
Answer = Result (Op × Record × ℕ) RecordFault

abbrev pub Exact : List ℕ → Answer → Type 0
Exact bytes result = Gives (λ x. (x.0, x.1)) (λ x. drop x.2 bytes) result (record_at bytes)

abbrev done : Op × Record → List ℕ → Reading (Op × Record)
done x rest = Done x rest

no_ends : (x : Op × Record) (rest : List ℕ) → done x rest ≡ Ends → ⊥
no_ends x rest e = cc

no_wrong : (x : Op × Record) (rest : List ℕ) (part : Part) (left : ℕ) → done x rest ≡ Wrong part left → ⊥
no_wrong x rest part left e = cc

rest_is : (x y : Op × Record) (r s : List ℕ) → done x r ≡ Done y s → r ≡ s
rest_is x y r s e = cc

never_nil : (l : List ℕ) (x : ℕ) (t : List ℕ) → [] ≡ l ++ x ∷ t → ⊥
never_nil [] x t e = cc
never_nil (y ∷ l) x t e = cc

-- the text that was read is this front
front_is : (bytes spelled rest : List ℕ) (n : ℕ) → n ≤ length bytes → bytes ≡ spelled ++ rest → rest ≡ drop n bytes → (take n bytes ≡ spelled) × (length spelled ≡ n)
front_is bytes spelled rest n within e r =
    let whole : take n bytes ++ drop n bytes ≡ spelled ++ drop n bytes = take-append-drop n bytes ∙ e ∙ ap (λ (t : List ℕ). spelled ++ t) r in
    let same : take n bytes ≡ spelled = append_cancel_right (take n bytes) spelled (drop n bytes) whole in
    let l1 : length bytes ≡ length spelled + length rest = ap length e ∙ length-append spelled rest in
    let l2 : length rest ≡ length bytes - n = ap length r ∙ length-drop n bytes in
    (same, omega arith)

pub found_is : (bytes : List ℕ) (result : Answer) → Exact bytes result → IfOk result (λ x. x.2 ≤ length bytes) → IfOk result (λ x. IsRecord x.1 × (take x.2 bytes ≡ spelling x.0 x.1) × (x.2 ≤ length bytes))
found_is bytes (Ok x) e within =
    let d = record_reads.done bytes (x.0, x.1) (drop x.2 bytes) e in
    let f = front_is bytes (spelling x.0 x.1) (drop x.2 bytes) x.2 within d.1 refl in
    (d.0, f.0, within)
found_is bytes (Err fault) e within = tt

pair_is : (op : Op) (row : Record) (x : Op × Record) (rest after : List ℕ) → done (op, row) rest ≡ Done x after → (op ≡ x.0) × (row ≡ x.1) × (rest ≡ after)
pair_is op row x rest after e =
    let p : (let y : Op × Record = (op, row) in y) ≡ x = cc in
    (ap (λ (y : Op × Record). y.0) p, ap (λ (y : Op × Record). y.1) p, cc)

pub only_is : (bytes : List ℕ) (result : Answer) (op : Op) (row : Record) (rest : List ℕ) → Exact bytes result → IfOk result (λ x. x.2 ≤ length bytes) → IsRecord row → bytes ≡ spelling op row ++ rest → IsAnswer result (op, row, length (spelling op row))
only_is bytes (Ok x) op row rest e within fits same =
    let again : record_at bytes ≡ Done (op, row) rest = ap record_at same ∙ record_reads.again (op, row) rest fits in
    let p = pair_is op row (x.0, x.1) rest (drop x.2 bytes) (sym again ∙ e) in
    let f = front_is bytes (spelling op row) rest x.2 within same p.2 in
    ap (λ (o : Op). (o, x.1, x.2)) (sym p.0) ∙ ap (λ (r : Record). (op, r, x.2)) (sym p.1) ∙ ap (λ (n : ℕ). (op, row, n)) (sym f.1)
only_is bytes (Err faults.Memory) op row rest e within fits same = tt
only_is bytes (Err faults.Cut) op row rest e within fits same = absurd (no_ends (op, row) rest (sym (ap record_at same ∙ record_reads.again (op, row) rest fits) ∙ e))
only_is bytes (Err (faults.Wrong part left)) op row rest e within fits same = absurd (no_wrong (op, row) rest part left (sym (ap record_at same ∙ record_reads.again (op, row) rest fits) ∙ e))

never_ok : {X : Type 0} (x : X) (f : RecordFault) → (let r : Result X RecordFault = Ok x in r) ≡ Err f → ⊥
never_ok x f e = cc

fault_is : {X : Type 0} (f g : RecordFault) → (let r : Result X RecordFault = Err f in r) ≡ Err g → f ≡ g
fault_is f g e = cc

pub cut_is : (bytes : List ℕ) (result : Answer) → Exact bytes result → IsErrOf result faults.Cut → IsBeginning bytes
cut_is bytes (Ok x) e cut = absurd (never_ok x faults.Cut cut)
cut_is bytes (Err fault) e cut = record_reads.ends bytes (subst (λ (f : RecordFault). Fails f (record_at bytes)) (fault_is fault faults.Cut cut) e)

-- a beginning isn't read as a whole text, and doesn't stop
pub begins_is : (bytes : List ℕ) (result : Answer) → Exact bytes result → IsBeginning bytes → IsCut result
begins_is bytes (Ok x) e b =
    let d = record_reads.done bytes (x.0, x.1) (drop x.2 bytes) e in
    let longer : spelling b.value.0 b.value.1 ≡ spelling x.0 x.1 ++ (drop x.2 bytes ++ b.next ∷ b.more) = sym b.whole ∙ ap (λ (t : List ℕ). t ++ b.next ∷ b.more) d.1 ∙ append_assoc (spelling x.0 x.1) (drop x.2 bytes) (b.next ∷ b.more) in
    let one : record_at (spelling b.value.0 b.value.1 ++ []) ≡ Done b.value [] = record_reads.again b.value [] b.fits in
    let two : record_at (spelling b.value.0 b.value.1 ++ []) ≡ Done (x.0, x.1) (drop x.2 bytes ++ b.next ∷ b.more) = ap record_at (append-nil (spelling b.value.0 b.value.1) ∙ longer) ∙ record_reads.again (x.0, x.1) (drop x.2 bytes ++ b.next ∷ b.more) d.0 in
    let same : [] ≡ drop x.2 bytes ++ b.next ∷ b.more = rest_is b.value (x.0, x.1) [] (drop x.2 bytes ++ b.next ∷ b.more) (sym one ∙ two) in
    never_nil (drop x.2 bytes) b.next b.more same
begins_is bytes (Err faults.Memory) e b = tt
begins_is bytes (Err faults.Cut) e b = tt
begins_is bytes (Err (faults.Wrong part left)) e b =
    let s = record_reads.wrong bytes part left e in
    s.none b.value (s.after ++ b.next ∷ b.more) [] b.fits (append_assoc s.front (s.bad ∷ []) (s.after ++ b.next ∷ b.more) ∙ sym (append_assoc s.front (s.bad ∷ s.after) (b.next ∷ b.more)) ∙ ap (λ (t : List ℕ). t ++ b.next ∷ b.more) (sym s.parts) ∙ b.whole ∙ sym (append-nil (spelling b.value.0 b.value.1)))

pub wrong_is : (bytes : List ℕ) (result : Answer) → Exact bytes result → IfWrong result (λ part left. StopsAt bytes left)
wrong_is bytes (Ok x) e = tt
wrong_is bytes (Err faults.Memory) e = tt
wrong_is bytes (Err faults.Cut) e = tt
wrong_is bytes (Err (faults.Wrong part left)) e = record_reads.wrong bytes part left e

-- what is left is no longer than all
pub shorter : (bytes : List ℕ) (x : Op × Record) (rest : List ℕ) → record_at bytes ≡ Done x rest → (length rest ≤ length bytes) × (rest ≡ drop (length bytes - length rest) bytes)
shorter bytes x rest e =
    let d = record_reads.done bytes x rest e in
    let l : length bytes ≡ length (spelling x.0 x.1) + length rest = ap length d.1 ∙ length-append (spelling x.0 x.1) rest in
    (omega arith, sym (ap (λ (n : ℕ). drop n bytes) (let k : length bytes - length rest ≡ length (spelling x.0 x.1) = omega arith in k) ∙ ap (drop (length (spelling x.0 x.1))) d.1 ∙ drop_at (spelling x.0 x.1) rest (length (spelling x.0 x.1)) refl))
