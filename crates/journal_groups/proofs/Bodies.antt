-- The records of a group, one after another.
use Rattle.std.proofs.Common.{◌≡◌, ℕ, zero, suc, ◌+◌, ◌-◌, ◌<◌, ◌≤◌, Bool, true, false, cond, leb, List, [], ◌∷◌, ◌++◌, length, take, drop, refl, sym, ap, subst, ◌∙◌, append_assoc, arith, length-append}
use Rattle.std.proofs.Math.Seq.{take-append-add, drop-append_seam}
use Rattle.std.proofs.lemmas.List.{take-append-drop, length-take-le}
use Rattle.db_records.specs.declared.change.Op.{Op}
use Rattle.db_records.specs.declared.change.Op.TheVariants.{Put, Replace, Remove}
use Rattle.db_records.specs.declared.change.Change.{Change}
use Rattle.db_records.specs.declared.record.Record.{Record}
use Rattle.record_text.specs.declared.fault.Part.{Part}
use Rattle.record_text.specs.declared.fault.Part.TheVariants.{Field}
use Rattle.record_text.specs.declared.fault.RecordFault.{RecordFault}
use Rattle.record_text.specs.declared.fault.RecordFault.TheVariants as faults
use Rattle.record_text.specs.Answers.{Fails}
use Rattle.record_text.specs.Reading.{Reading, Done, Ends, Wrong, and_then}
use Rattle.record_text.specs.Grammar.{record_at, spelling, IsRecord}
use Rattle.record_text.proofs.RecordLaws.{record_reads}
use Rattle.journal_groups.specs.Groups.{change_text}
use Rattle.journal_groups.specs.Reading.{change_of, window_read, window_at, body_below, body_at}

abbrev done : {A : Type 0} → A → List ℕ → Reading A
done a rest = Done a rest

-- ---- one record

positive : (n : ℕ) → 0 < suc n
positive n = omega arith

text_long : (op : Op) (row : Record) → 0 < length (spelling op row)
text_long Put row = positive _
text_long Replace row = positive _
text_long Remove row = positive _

-- a record that is no longer than the window is read, whatever follows it
pub window_again : (size : ℕ) (change : Change) (rest : List ℕ) → IsRecord change.row → length (change_text change) ≤ size → window_at size (change_text change ++ rest) ≡ Done change rest
window_again size change rest fits le =
    let text = change_text change in
    let split : length text + (size - length text) ≡ size = omega arith in
    let taken : take size (text ++ rest) ≡ text ++ take (size - length text) rest = ap (λ (n : ℕ). take n (text ++ rest)) (sym split) ∙ take-append-add text rest (size - length text) in
    let read : record_at (take size (text ++ rest)) ≡ Done (change.op, change.row) (take (size - length text) rest) = ap record_at taken ∙ record_reads.again (change.op, change.row) (take (size - length text) rest) fits in
    let l : length (take size (text ++ rest)) ≡ length text + length (take (size - length text) rest) = ap length taken ∙ length-append text (take (size - length text) rest) in
    let n : length (take size (text ++ rest)) - length (take (size - length text) rest) ≡ length text = omega arith in
    ap (window_read size (text ++ rest)) read ∙ ap (λ (k : ℕ). done change (drop k (text ++ rest))) n ∙ ap (done change) (drop-append_seam text rest)

-- what is known of a record that was read
pub record Found (size : ℕ) (bytes : List ℕ) (change : Change) (rest : List ℕ) : Type 0 where
  pub fits : IsRecord change.row
  pub within : length (change_text change) ≤ size
  pub long : 0 < length (change_text change)
  pub parts : bytes ≡ change_text change ++ rest

same_done : {A : Type 0} (a b : A) (r s : List ℕ) → done a r ≡ Done b s → (a ≡ b) × (r ≡ s)
same_done a b r s e = (cc, cc)

abbrev tested : {A : Type 0} → Bool → ℕ → Reading A
tested b left = cond b Ends (Wrong Field left)

never_done : {A : Type 0} (b : Bool) (left : ℕ) (a : A) (rest : List ℕ) → tested b left ≡ Done a rest → ⊥
never_done true left a rest e = cc
never_done false left a rest e = cc

taken_short : (n : ℕ) (l : List ℕ) → length (take n l) ≤ n
taken_short zero l = omega arith
taken_short (suc n) [] = omega arith
taken_short (suc n) (x ∷ l) = let ih = taken_short n l in omega arith

taken_least : (n : ℕ) (l : List ℕ) → length (take n l) ≤ length l
taken_least zero l = omega arith
taken_least (suc n) [] = omega arith
taken_least (suc n) (x ∷ l) = let ih = taken_least n l in omega arith

window_found : (size : ℕ) (bytes : List ℕ) (change : Change) (rest : List ℕ) (r : Reading (Op × Record)) → record_at (take size bytes) ≡ r → window_read size bytes r ≡ Done change rest → Found size bytes change rest
window_found size bytes change rest (Done x left) e d =
    let read = record_reads.done (take size bytes) x left e in
    let text = spelling x.0 x.1 in
    let l : length (take size bytes) ≡ length text + length left = ap length read.1 ∙ length-append text left in
    let n : length (take size bytes) - length left ≡ length text = omega arith in
    let short : length (take size bytes) ≤ size = taken_short size bytes in
    let whole : bytes ≡ text ++ (left ++ drop size bytes) = sym (take-append-drop size bytes) ∙ ap (λ (t : List ℕ). t ++ drop size bytes) read.1 ∙ append_assoc text left (drop size bytes) in
    let behind : drop (length (take size bytes) - length left) bytes ≡ left ++ drop size bytes = ap (λ (k : ℕ). drop k bytes) n ∙ ap (drop (length text)) whole ∙ drop-append_seam text (left ++ drop size bytes) in
    let same = same_done (change_of x) change (drop (length (take size bytes) - length left) bytes) rest d in
    let fits : IsRecord (change_of x).row = read.0 in
    let within : length (change_text (change_of x)) ≤ size = omega arith in
    record {
      fits = subst (λ (c : Change). IsRecord c.row) same.0 fits;
      within = subst (λ (c : Change). length (change_text c) ≤ size) same.0 within;
      long = text_long change.op change.row;
      parts = whole ∙ ap (λ (t : List ℕ). text ++ t) (sym behind ∙ same.1) ∙ ap (λ (c : Change). change_text c ++ rest) same.0;
    }
window_found size bytes change rest Ends e d = absurd (never_done (leb (length bytes) size) (length bytes - size) change rest d)
window_found size bytes change rest (Wrong part left) e d = absurd cc

pub window_done : (size : ℕ) (bytes : List ℕ) (change : Change) (rest : List ℕ) → window_at size bytes ≡ Done change rest → Found size bytes change rest
window_done size bytes change rest e = window_found size bytes change rest (record_at (take size bytes)) refl e

pub behind_is : (size : ℕ) (bytes : List ℕ) → length bytes - length (take size bytes) ≡ length bytes - size
behind_is zero bytes = refl
behind_is (suc n) [] = omega arith
behind_is (suc n) (x ∷ bytes) = let ih = behind_is n bytes in omega arith

pub window_wrong : (size : ℕ) (bytes window : List ℕ) (part : Part) (left : ℕ) → window ≡ take size bytes → record_at window ≡ Wrong part left → window_at size bytes ≡ Wrong Field (left + (length bytes - length window))
window_wrong size bytes window part left e r =
    let n : length bytes - length window ≡ length bytes - size = ap (λ (w : List ℕ). length bytes - length w) e ∙ behind_is size bytes in
    ap (window_read size bytes) (ap record_at (sym e) ∙ r) ∙ ap (λ (k : ℕ). Wrong Field (left + k)) (sym n)

-- a record that was read of a window
pub window_one : (size : ℕ) (bytes window : List ℕ) (op : Op) (row : Record) (n : ℕ) → window ≡ take size bytes → IsRecord row → take n window ≡ spelling op row → n ≤ length window
    → (window_at size bytes ≡ Done (change_of (op, row)) (drop n bytes)) × (n ≤ length bytes) × (n ≤ size) × (0 < n)
window_one size bytes window op row n e fits same within =
    let text = spelling op row in
    let l : length text ≡ n = sym (ap length same) ∙ length-take-le n window within in
    let long : 0 < length text = text_long op row in
    let short : length window ≤ size = subst (λ (w : List ℕ). length w ≤ size) (sym e) (taken_short size bytes) in
    let least : length window ≤ length bytes = subst (λ (w : List ℕ). length w ≤ length bytes) (sym e) (taken_least size bytes) in
    let whole : bytes ≡ text ++ (drop n window ++ drop size bytes) = sym (take-append-drop size bytes) ∙ ap (λ (w : List ℕ). w ++ drop size bytes) (sym e ∙ sym (take-append-drop n window) ∙ ap (λ (t : List ℕ). t ++ drop n window) same) ∙ append_assoc text (drop n window) (drop size bytes) in
    let behind : drop n bytes ≡ drop n window ++ drop size bytes = ap (λ (k : ℕ). drop k bytes) (sym l) ∙ ap (drop (length text)) whole ∙ drop-append_seam text (drop n window ++ drop size bytes) in
    (ap (window_at size) whole ∙ window_again size (change_of (op, row)) (drop n window ++ drop size bytes) fits (omega arith) ∙ ap (done (change_of (op, row))) (sym behind), omega arith, omega arith, omega arith)

-- ---- the bound of the recursion says nothing

then_same_on : {A B : Type 0} (r : Reading A) (f g : A → List ℕ → Reading B) → ((a : A) (rest : List ℕ) → r ≡ Done a rest → f a rest ≡ g a rest) → and_then r f ≡ and_then r g
then_same_on (Done a rest) f g h = h a rest refl
then_same_on Ends f g h = refl
then_same_on (Wrong part left) f g h = refl

abbrev pub before : Change → Reading (List Change) → Reading (List Change)
before change reading = and_then reading (λ changes after. Done (change ∷ changes) after)

same_below : (a b size : ℕ) (bytes : List ℕ) → size ≤ a → size ≤ b → body_below a size bytes ≡ body_below b size bytes
same_below a b zero bytes p q = refl
same_below zero b (suc size) bytes p q = absurd (omega arith)
same_below (suc a) zero (suc size) bytes p q = absurd (omega arith)
same_below (suc a) (suc b) (suc size) bytes p q =
    then_same_on (window_at (suc size) bytes)
    (λ change rest. before change (body_below a (suc size - (length bytes - length rest)) rest))
    (λ change rest. before change (body_below b (suc size - (length bytes - length rest)) rest))
    (λ change rest e.
    let f = window_done (suc size) bytes change rest e in
    let l : length bytes ≡ length (change_text change) + length rest = ap length f.parts ∙ length-append (change_text change) rest in
    let long : 0 < length (change_text change) = f.long in
    ap (before change) (same_below a b (suc size - (length bytes - length rest)) rest (omega arith) (omega arith)))

-- a record and those behind it
pub body_one : (size : ℕ) (change : Change) (rest : List ℕ) → IsRecord change.row → length (change_text change) ≤ size → body_at size (change_text change ++ rest) ≡ before change (body_at (size - length (change_text change)) rest)
body_one zero change rest fits le = absurd (let long = text_long change.op change.row in omega arith)
body_one (suc size) change rest fits le =
    let text = change_text change in
    let long : 0 < length text = text_long change.op change.row in
    let l : length (text ++ rest) ≡ length text + length rest = length-append text rest in
    let n : length (text ++ rest) - length rest ≡ length text = omega arith in
    ap (λ (r : Reading Change). and_then r (λ c after. before c (body_below size (suc size - (length (text ++ rest) - length after)) after))) (window_again (suc size) change rest fits le)
    ∙ ap (λ (k : ℕ). before change (body_below size (suc size - k) rest)) n
    ∙ ap (before change) (same_below size (suc size - length text) (suc size - length text) rest (omega arith) (omega arith))

-- ---- records that were read before others

abbrev pub with_front : List Change → Reading (List Change) → Reading (List Change)
with_front front reading = and_then reading (λ changes rest. Done (front ++ changes) rest)

pub front_more : (change : Change) (front : List Change) (r : Reading (List Change)) → before change (with_front front r) ≡ with_front (change ∷ front) r
front_more change front (Done changes rest) = refl
front_more change front Ends = refl
front_more change front (Wrong part left) = refl

pub no_front : (r : Reading (List Change)) → with_front [] r ≡ r
no_front (Done changes rest) = refl
no_front Ends = refl
no_front (Wrong part left) = refl

-- ---- faults

pub fails_then : {A B : Type 0} (fault : RecordFault) (r : Reading A) (f : A → List ℕ → Reading B) → Fails fault r → Fails fault (and_then r f)
fails_then faults.Memory r f e = tt
fails_then faults.Cut r f e = ap (λ x. and_then x f) e
fails_then (faults.Wrong part left) r f e = ap (λ x. and_then x f) e

pub fails_body : (fault : RecordFault) (front : List Change) (size : ℕ) (bytes : List ℕ) → 0 < size → Fails fault (window_at size bytes) → Fails fault (with_front front (body_at size bytes))
fails_body fault front zero bytes pos e = absurd (omega arith)
fails_body fault front (suc size) bytes pos e =
    fails_then fault (body_at (suc size) bytes) (λ changes rest. Done (front ++ changes) rest)
    (fails_then fault (window_at (suc size) bytes) (λ change rest. before change (body_below size (suc size - (length bytes - length rest)) rest)) e)
