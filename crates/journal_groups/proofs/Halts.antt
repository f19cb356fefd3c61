-- Where a reader stops, and that it stops there whatever follows.
use Rattle.std.proofs.Common.{◌≡◌, ℕ, zero, suc, ◌+◌, ◌-◌, ◌<◌, ◌≤◌, Bool, true, false, cond, leb, List, [], ◌∷◌, ◌++◌, length, take, drop, refl, sym, ap, subst, ◌∙◌, append_assoc, arith, length-append, length-drop}
use Rattle.std.proofs.Math.Seq.{take-append-add, take-append_seam}
use Rattle.std.proofs.lemmas.List.{take-append-drop, take_all, length-take-le, append-nil}
use Rattle.std.proofs.lemmas.List.Concat.{flat_map-cons}
use Rattle.std.proofs.lemmas.Bool.{leb-true, leb-false, le-leb, lt-leb}
use Rattle.db_records.specs.declared.change.Op.{Op}
use Rattle.db_records.specs.declared.change.Change.{Change}
use Rattle.db_records.specs.declared.record.Record.{Record}
use Rattle.record_text.specs.declared.fault.Part.{Part}
use Rattle.record_text.specs.declared.fault.Part.TheVariants.{Field}
use Rattle.record_text.specs.Reading.{Reading, Done, Ends, Wrong, and_then, Begins, NoneBegins, Reads}
use Rattle.record_text.specs.Clauses.{IsBeginning}
use Rattle.record_text.specs.Grammar.{record_at, IsRecord}
use Rattle.record_text.proofs.RecordLaws.{record_reads}
use Rattle.journal_groups.specs.Groups.{change_text, body_of, AreRecords}
use Rattle.journal_groups.specs.Reading.{window_read, window_at, body_below, body_at}
use Rattle.journal_groups.specs.Causes.{BodyGoesOn}
use Rattle.journal_groups.proofs.Bodies.{before, body_one, window_done}

abbrev pub IsWrong : {A : Type 0} → Reading A → Type 0
IsWrong r = (part : Part) × ((left : ℕ) × (r ≡ Wrong part left))

abbrev done : {A : Type 0} → A → List ℕ → Reading A
done a rest = Done a rest

abbrev ends : {A : Type 0} → Reading A
ends = Ends

pub no_done_ends : {A : Type 0} (a : A) (rest : List ℕ) → done a rest ≡ Ends → ⊥
no_done_ends a rest e = cc

pub no_done_wrong : {A : Type 0} (a : A) (rest : List ℕ) (part : Part) (left : ℕ) → done a rest ≡ Wrong part left → ⊥
no_done_wrong a rest part left e = cc

pub no_ends_wrong : {A : Type 0} (part : Part) (left : ℕ) → ends {A = A} ≡ Wrong part left → ⊥
no_ends_wrong part left e = cc

rest_is : {A : Type 0} (a b : A) (r s : List ℕ) → done a r ≡ Done b s → r ≡ s
rest_is a b r s e = cc

never_nil : (l : List ℕ) (x : ℕ) (t : List ℕ) → [] ≡ l ++ x ∷ t → ⊥
never_nil [] x t e = cc
never_nil (y ∷ l) x t e = cc

-- ---- readers with laws

begins_case : {A : Type 0} (read : List ℕ → Reading A) (Fits : A → Type 0) (spell : A → List ℕ) → Reads read Fits spell → (bytes : List ℕ) (r : Reading A) → read bytes ≡ r → Begins Fits spell bytes → r ≡ Ends
begins_case read Fits spell laws bytes (Done a rest) e b =
    let d = laws.done bytes a rest e in
    let whole : spell b.value ≡ spell a ++ (rest ++ b.next ∷ b.more) = sym b.whole ∙ ap (λ (t : List ℕ). t ++ b.next ∷ b.more) d.1 ∙ append_assoc (spell a) rest (b.next ∷ b.more) in
    let one : read (spell b.value ++ []) ≡ Done b.value [] = laws.again b.value [] b.fits in
    let two : read (spell b.value ++ []) ≡ Done a (rest ++ b.next ∷ b.more) = ap read (append-nil (spell b.value) ∙ whole) ∙ laws.again a (rest ++ b.next ∷ b.more) d.0 in
    absurd (never_nil rest b.next b.more (rest_is b.value a [] (rest ++ b.next ∷ b.more) (sym one ∙ two)))
begins_case read Fits spell laws bytes Ends e b = refl
begins_case read Fits spell laws bytes (Wrong part left) e b =
    let s = laws.wrong bytes part left e in
    absurd (s.none b.value (s.after ++ b.next ∷ b.more) [] b.fits (append_assoc s.front (s.bad ∷ []) (s.after ++ b.next ∷ b.more) ∙ sym (append_assoc s.front (s.bad ∷ s.after) (b.next ∷ b.more)) ∙ ap (λ (t : List ℕ). t ++ b.next ∷ b.more) (sym s.parts) ∙ b.whole ∙ sym (append-nil (spell b.value))))

-- what begins a text is read to its end
pub begins_ends : {A : Type 0} (read : List ℕ → Reading A) (Fits : A → Type 0) (spell : A → List ℕ) → Reads read Fits spell → (bytes : List ℕ) → Begins Fits spell bytes → read bytes ≡ Ends
begins_ends read Fits spell laws bytes b = begins_case read Fits spell laws bytes (read bytes) refl b

none_case : {A : Type 0} (read : List ℕ → Reading A) (Fits : A → Type 0) (spell : A → List ℕ) → Reads read Fits spell → (bytes more : List ℕ) (r : Reading A) → NoneBegins Fits spell bytes → read (bytes ++ more) ≡ r → IsWrong r
none_case read Fits spell laws bytes more (Done a rest) none e = let d = laws.done (bytes ++ more) a rest e in absurd (none a more rest d.0 d.1)
none_case read Fits spell laws bytes more Ends none e =
    let b = laws.ends (bytes ++ more) e in
    absurd (none b.value (more ++ b.next ∷ b.more) [] b.fits (sym (append_assoc bytes more (b.next ∷ b.more)) ∙ b.whole ∙ sym (append-nil (spell b.value))))
none_case read Fits spell laws bytes more (Wrong part left) none e = (part, (left, refl))

pub none_wrong : {A : Type 0} (read : List ℕ → Reading A) (Fits : A → Type 0) (spell : A → List ℕ) → Reads read Fits spell → (bytes more : List ℕ) → NoneBegins Fits spell bytes → IsWrong (read (bytes ++ more))
none_wrong read Fits spell laws bytes more none = none_case read Fits spell laws bytes more (read (bytes ++ more)) none refl

pub wrong_then : {A B : Type 0} (r : Reading A) (f : A → List ℕ → Reading B) → IsWrong r → IsWrong (and_then r f)
wrong_then r f w = (w.0, (w.1.0, ap (λ x. and_then x f) w.1.1))

-- ---- the cases of one thing after another

pub data Way {A B : Type 0} (r : Reading A) (f : A → List ℕ → Reading B) (s : Reading B) : Type 0 where
  second : (a : A) (rest : List ℕ) → r ≡ Done a rest → f a rest ≡ s → Way r f s
  first_ends : r ≡ Ends → Ends ≡ s → Way r f s
  first_wrong : (part : Part) (left : ℕ) → r ≡ Wrong part left → Wrong part left ≡ s → Way r f s

pub way_of : {A B : Type 0} (r : Reading A) (f : A → List ℕ → Reading B) (s : Reading B) → and_then r f ≡ s → Way r f s
way_of (Done a rest) f s e = second a rest refl e
way_of Ends f s e = first_ends refl e
way_of (Wrong part left) f s e = first_wrong part left refl e

-- ---- one record

abbrev tested : {A : Type 0} → Bool → ℕ → Reading A
tested b left = cond b Ends (Wrong Field left)

tested_ends : {A : Type 0} (b : Bool) (left : ℕ) → tested {A = A} b left ≡ Ends → b ≡ true
tested_ends true left e = refl
tested_ends false left e = absurd cc

tested_wrong : {A : Type 0} (b : Bool) (n left : ℕ) (part : Part) → tested {A = A} b n ≡ Wrong part left → (b ≡ false) × (n ≡ left)
tested_wrong true n left part e = absurd cc
tested_wrong false n left part e = (refl, cc)

window_ends_case : (size : ℕ) (bytes : List ℕ) (r : Reading (Op × Record)) → record_at (take size bytes) ≡ r → window_read size bytes r ≡ Ends → IsBeginning bytes × (length bytes ≤ size)
window_ends_case size bytes (Done x rest) e d = absurd cc
window_ends_case size bytes Ends e d =
    let le = leb-true (length bytes) size (tested_ends (leb (length bytes) size) (length bytes - size) d) in
    (record_reads.ends bytes (ap record_at (sym (take_all size bytes le)) ∙ e), le)
window_ends_case size bytes (Wrong part left) e d = absurd cc

window_ends : (size : ℕ) (bytes : List ℕ) → window_at size bytes ≡ Ends → IsBeginning bytes × (length bytes ≤ size)
window_ends size bytes e = window_ends_case size bytes (record_at (take size bytes)) refl e

window_begins : (size : ℕ) (bytes : List ℕ) → IsBeginning bytes → length bytes ≤ size → window_at size bytes ≡ Ends
window_begins size bytes b le =
    ap (window_read size bytes) (ap record_at (take_all size bytes le) ∙ begins_ends record_at _ _ record_reads bytes b)
    ∙ ap (λ (c : Bool). tested c (length bytes - size)) (le-leb (length bytes) size le)

record WindowHalts (size : ℕ) (bytes : List ℕ) (left : ℕ) : Type 0 where
  front : List ℕ
  bad : ℕ
  after : List ℕ
  parts : bytes ≡ front ++ bad ∷ after
  place : left ≡ suc (length after)
  begins : IsBeginning front
  within : length front ≤ size
  wrong : (more : List ℕ) → IsWrong (window_at size ((front ++ bad ∷ []) ++ more))

read_wrong : (size : ℕ) (bytes : List ℕ) (r : Reading (Op × Record)) → IsWrong r → IsWrong (window_read size bytes r)
read_wrong size bytes r w = (Field, (w.1.0 + (length bytes - size), ap (window_read size bytes) w.1.1))

taken_front : (size : ℕ) (front more : List ℕ) → length front ≤ size → take size (front ++ more) ≡ front ++ take (size - length front) more
taken_front size front more le =
    let split : length front + (size - length front) ≡ size = omega arith in
    ap (λ (n : ℕ). take n (front ++ more)) (sym split) ∙ take-append-add front more (size - length front)

headed : (l : List ℕ) → 0 < length l → (x : ℕ) × ((t : List ℕ) × (l ≡ x ∷ t))
headed [] lt = absurd (omega arith)
headed (x ∷ t) lt = (x, (t, refl))

wrong_is : (m n left : ℕ) (part : Part) → (let r : Reading Change = Wrong Field (m + n) in r) ≡ Wrong part left → m + n ≡ left
wrong_is m n left part e = cc

taken_most : (n : ℕ) (l : List ℕ) → length (take n l) ≤ n
taken_most zero l = omega arith
taken_most (suc n) [] = omega arith
taken_most (suc n) (x ∷ l) = let ih = taken_most n l in omega arith

window_halts_case : (size : ℕ) (bytes : List ℕ) (part : Part) (left : ℕ) (r : Reading (Op × Record)) → record_at (take size bytes) ≡ r → window_read size bytes r ≡ Wrong part left → WindowHalts size bytes left
window_halts_case size bytes part left (Done x rest) e d = absurd cc
window_halts_case size bytes part left Ends e d =
    let t = tested_wrong (leb (length bytes) size) (length bytes - size) left part d in
    let lt : size < length bytes = leb-false (length bytes) size t.0 in
    let front = take size bytes in
    let long : length front ≡ size = length-take-le size bytes (omega arith) in
    let l : length (drop size bytes) ≡ length bytes - size = length-drop size bytes in
    let h = headed (drop size bytes) (omega arith) in
    let hl : length (drop size bytes) ≡ suc (length h.1.0) = ap length h.1.1 in
    let place : length bytes - size ≡ left = t.1 in
    record {
      front = front;
      bad = h.0;
      after = h.1.0;
      parts = sym (take-append-drop size bytes) ∙ ap (λ (s : List ℕ). front ++ s) h.1.1;
      place = omega arith;
      begins = record_reads.ends front e;
      within = omega arith;
      wrong = λ more.
          let all = (front ++ h.0 ∷ []) ++ more in
          let moved : all ≡ front ++ h.0 ∷ more = append_assoc front (h.0 ∷ []) more in
          let taken : take size all ≡ front = ap (λ (n : ℕ). take n all) (sym long) ∙ ap (take (length front)) moved ∙ take-append_seam front (h.0 ∷ more) in
          let n : length all ≡ length front + suc (length more) = ap length moved ∙ length-append front (h.0 ∷ more) in
          (Field, (length all - size, ap (window_read size all) (ap record_at taken ∙ e) ∙ ap (λ (c : Bool). tested c (length all - size)) (lt-leb (length all) size (omega arith))));
    }
window_halts_case size bytes part left (Wrong q m) e d =
    let s = record_reads.wrong (take size bytes) q m e in
    let total : m + (length bytes - size) ≡ left = wrong_is m (length bytes - size) left part d in
    let l : length (take size bytes) ≡ length s.front + suc (length s.after) = ap length s.parts ∙ length-append s.front (s.bad ∷ s.after) in
    let short : length (take size bytes) ≤ size = taken_most size bytes in
    let dl : length (drop size bytes) ≡ length bytes - size = length-drop size bytes in
    let al : length (s.after ++ drop size bytes) ≡ length s.after + length (drop size bytes) = length-append s.after (drop size bytes) in
    let p : m ≡ suc (length s.after) = s.place in
    let fl : length (s.front ++ s.bad ∷ []) ≡ length s.front + 1 = length-append s.front (s.bad ∷ []) in
    record {
      front = s.front;
      bad = s.bad;
      after = s.after ++ drop size bytes;
      parts = sym (take-append-drop size bytes) ∙ ap (λ (t : List ℕ). t ++ drop size bytes) s.parts ∙ append_assoc s.front (s.bad ∷ s.after) (drop size bytes);
      place = omega arith;
      begins = s.begins;
      within = omega arith;
      wrong = λ more.
          let front = s.front ++ s.bad ∷ [] in
          let taken = taken_front size front more (omega arith) in
          read_wrong size (front ++ more) (record_at (take size (front ++ more))) (subst (λ (t : List ℕ). IsWrong (record_at t)) (sym taken) (none_wrong record_at _ _ record_reads front (take (size - length front) more) s.none));
    }

window_halts : (size : ℕ) (bytes : List ℕ) (part : Part) (left : ℕ) → window_at size bytes ≡ Wrong part left → WindowHalts size bytes left
window_halts size bytes part left e = window_halts_case size bytes part left (record_at (take size bytes)) refl e

-- no record is read of them, whatever follows
pub window_never : (size : ℕ) (bytes rest : List ℕ) (part : Part) (left : ℕ) (change : Change) (after : List ℕ) → window_at size bytes ≡ Wrong part left → window_at size (bytes ++ rest) ≡ Done change after → ⊥
window_never size bytes rest part left change after wrong read =
    let h = window_halts size bytes part left wrong in
    let whole : bytes ++ rest ≡ (h.front ++ h.bad ∷ []) ++ (h.after ++ rest) = ap (λ (l : List ℕ). l ++ rest) h.parts ∙ append_assoc h.front (h.bad ∷ h.after) rest ∙ sym (append_assoc h.front (h.bad ∷ []) (h.after ++ rest)) in
    let again = h.wrong (h.after ++ rest) in
    no_done_wrong change after again.0 again.1.0 (sym read ∙ ap (window_at size) whole ∙ again.1.1)

-- ---- the records of a group

body_cons : (change : Change) (changes : List Change) (rest : List ℕ) → body_of (change ∷ changes) ++ rest ≡ change_text change ++ (body_of changes ++ rest)
body_cons change changes rest = ap (λ (t : List ℕ). t ++ rest) (flat_map-cons change_text change changes) ∙ append_assoc (change_text change) (body_of changes) rest

cons_goes : (change : Change) (size : ℕ) (rest : List ℕ) → IsRecord change.row → length (change_text change) ≤ size → 0 < length (change_text change) → BodyGoesOn (size - length (change_text change)) rest → BodyGoesOn size (change_text change ++ rest)
cons_goes change size rest fits le long g =
    let l : length (change_text change ++ rest) ≡ length (change_text change) + length rest = length-append (change_text change) rest in
    let w : length rest ≤ size - length (change_text change) = g.within in
    record {
      changes = change ∷ g.changes;
      rest = g.rest;
      are_records = (fits, g.are_records);
      parts = ap (λ (t : List ℕ). change_text change ++ t) g.parts ∙ sym (body_cons change g.changes g.rest);
      goes_on = g.goes_on;
      within = omega arith;
      unfinished = λ none. (let u : length rest < size - length (change_text change) = g.unfinished none in omega arith);
    }

nil_goes : (size : ℕ) (bytes : List ℕ) → IsBeginning bytes → length bytes ≤ size → 0 < size → BodyGoesOn size bytes
nil_goes size bytes b le pos = record {
  changes = [];
  rest = bytes;
  are_records = tt;
  parts = refl;
  goes_on = b;
  within = le;
  unfinished = λ none. (let l : length bytes ≡ 0 = ap length none in omega arith);
}

before_ends : (change : Change) (r : Reading (List Change)) → before change r ≡ Ends → r ≡ Ends
before_ends change (Done changes rest) e = absurd cc
before_ends change Ends e = refl
before_ends change (Wrong part left) e = absurd cc

before_wrong : (change : Change) (r : Reading (List Change)) (part : Part) (left : ℕ) → before change r ≡ Wrong part left → (q : Part) × (r ≡ Wrong q left)
before_wrong change (Done changes rest) part left e = absurd cc
before_wrong change Ends part left e = absurd cc
before_wrong change (Wrong q m) part left e = let same : m ≡ left = cc in (q, ap (λ (n : ℕ). Wrong q n) same)

zero_done : (bytes : List ℕ) → (let r : Reading (List Change) = Done [] bytes in r) ≡ Ends → ⊥
zero_done bytes e = cc

zero_right : (bytes : List ℕ) (part : Part) (left : ℕ) → (let r : Reading (List Change) = Done [] bytes in r) ≡ Wrong part left → ⊥
zero_right bytes part left e = cc

never_both : (part : Part) (left : ℕ) → (let r : Reading (List Change) = Wrong part left in r) ≡ Ends → ⊥
never_both part left e = cc

below_ends : (steps size : ℕ) (bytes : List ℕ) → size ≤ steps → body_below steps size bytes ≡ Ends → BodyGoesOn size bytes
below_ends steps zero bytes le e = absurd (zero_done bytes e)
below_ends zero (suc size) bytes le e = absurd (omega arith)
below_ends (suc steps) (suc size) bytes le e =
    elim (way_of (window_at (suc size) bytes) (λ change rest. before change (body_below steps (suc size - (length bytes - length rest)) rest)) Ends e) [
      | second change rest f g ↦
          let w = window_done (suc size) bytes change rest f in
          let l : length bytes ≡ length (change_text change) + length rest = ap length w.parts ∙ length-append (change_text change) rest in
          let long : 0 < length (change_text change) = w.long in
          let n : suc size - (length bytes - length rest) ≡ suc size - length (change_text change) = omega arith in
          let ih = below_ends steps (suc size - (length bytes - length rest)) rest (omega arith) (before_ends change (body_below steps (suc size - (length bytes - length rest)) rest) g) in
          subst (BodyGoesOn (suc size)) (sym w.parts) (cons_goes change (suc size) rest w.fits w.within w.long (subst (λ (k : ℕ). BodyGoesOn k rest) n ih))
      | first_ends f same ↦ (let w = window_ends (suc size) bytes f in nil_goes (suc size) bytes w.0 w.1 (omega arith))
      | first_wrong part left f same ↦ absurd (never_both part left same)
    ]

pub body_ends : (size : ℕ) (bytes : List ℕ) → body_at size bytes ≡ Ends → BodyGoesOn size bytes
body_ends size bytes e = below_ends size size bytes (omega arith) e

nothing : (l : List ℕ) → length l ≤ 0 → l ≡ []
nothing [] le = refl
nothing (x ∷ l) le = absurd (omega arith)

goes_ends : (changes : List Change) (size : ℕ) (rest : List ℕ) → AreRecords changes → IsBeginning rest → length (body_of changes ++ rest) ≤ size → (rest ≡ [] → length (body_of changes ++ rest) < size) → body_at size (body_of changes ++ rest) ≡ Ends
goes_ends [] zero rest are b le open_so = absurd (let none = nothing rest (omega arith) in let lt : length rest < 0 = open_so none in omega arith)
goes_ends [] (suc size) rest are b le open_so = ap (λ r. and_then r (λ change after. before change (body_below size (suc size - (length rest - length after)) after))) (window_begins (suc size) rest b le)
goes_ends (change ∷ changes) size rest are b le open_so =
    let text = change_text change in
    let l : length (body_of (change ∷ changes) ++ rest) ≡ length text + length (body_of changes ++ rest) = ap length (body_cons change changes rest) ∙ length-append text (body_of changes ++ rest) in
    ap (body_at size) (body_cons change changes rest) ∙ body_one size change (body_of changes ++ rest) are.0 (omega arith)
    ∙ ap (before change) (goes_ends changes (size - length text) rest are.1 b (omega arith) (λ none. (let lt : length (body_of (change ∷ changes) ++ rest) < size = open_so none in omega arith)))

pub body_goes : (size : ℕ) (bytes : List ℕ) → BodyGoesOn size bytes → body_at size bytes ≡ Ends
body_goes size bytes g =
    ap (body_at size) g.parts ∙ goes_ends g.changes size g.rest g.are_records g.goes_on (subst (λ (t : List ℕ). length t ≤ size) g.parts g.within) (λ none. subst (λ (t : List ℕ). length t < size) g.parts (g.unfinished none))

pub record BodyHalts (size : ℕ) (bytes : List ℕ) (left : ℕ) : Type 0 where
  pub front : List ℕ
  pub bad : ℕ
  pub after : List ℕ
  pub parts : bytes ≡ front ++ bad ∷ after
  pub place : left ≡ suc (length after)
  pub goes : BodyGoesOn size front
  pub wrong : (more : List ℕ) → IsWrong (body_at size ((front ++ bad ∷ []) ++ more))

wrong_same : (part q : Part) (left m : ℕ) → (let r : Reading (List Change) = Wrong part left in r) ≡ Wrong q m → left ≡ m
wrong_same part q left m e = cc

below_halts : (steps size : ℕ) (bytes : List ℕ) (part : Part) (left : ℕ) → size ≤ steps → body_below steps size bytes ≡ Wrong part left → BodyHalts size bytes left
below_halts steps zero bytes part left le e = absurd (zero_right bytes part left e)
below_halts zero (suc size) bytes part left le e = absurd (omega arith)
below_halts (suc steps) (suc size) bytes part left le e =
    elim (way_of (window_at (suc size) bytes) (λ change rest. before change (body_below steps (suc size - (length bytes - length rest)) rest)) (Wrong part left) e) [
      | second change rest f g ↦
          let w = window_done (suc size) bytes change rest f in
          let text = change_text change in
          let l : length bytes ≡ length text + length rest = ap length w.parts ∙ length-append text rest in
          let long : 0 < length text = w.long in
          let n : suc size - (length bytes - length rest) ≡ suc size - length text = omega arith in
          let b = before_wrong change (body_below steps (suc size - (length bytes - length rest)) rest) part left g in
          let ih = subst (λ (k : ℕ). BodyHalts k rest left) n (below_halts steps (suc size - (length bytes - length rest)) rest b.0 left (omega arith) b.1) in
          record {
            front = text ++ ih.front;
            bad = ih.bad;
            after = ih.after;
            parts = w.parts ∙ ap (λ (t : List ℕ). text ++ t) ih.parts ∙ sym (append_assoc text ih.front (ih.bad ∷ ih.after));
            place = ih.place;
            goes = cons_goes change (suc size) ih.front w.fits w.within w.long ih.goes;
            wrong = λ more.
                let moved : ((text ++ ih.front) ++ ih.bad ∷ []) ++ more ≡ text ++ ((ih.front ++ ih.bad ∷ []) ++ more) = ap (λ (t : List ℕ). t ++ more) (append_assoc text ih.front (ih.bad ∷ [])) ∙ append_assoc text (ih.front ++ ih.bad ∷ []) more in
                let one = body_one (suc size) change ((ih.front ++ ih.bad ∷ []) ++ more) w.fits w.within in
                subst IsWrong (sym (ap (body_at (suc size)) moved ∙ one)) (wrong_then (body_at (suc size - length text) ((ih.front ++ ih.bad ∷ []) ++ more)) (λ changes after. Done (change ∷ changes) after) (ih.wrong more));
          }
      | first_ends f same ↦ absurd (no_ends_wrong part left same)
      | first_wrong q m f same ↦
          let w = window_halts (suc size) bytes q m f in
          record {
            front = w.front;
            bad = w.bad;
            after = w.after;
            parts = w.parts;
            place = sym (wrong_same q part m left same) ∙ w.place;
            goes = nil_goes (suc size) w.front w.begins w.within (omega arith);
            wrong = λ more. wrong_then (window_at (suc size) ((w.front ++ w.bad ∷ []) ++ more)) (λ change rest. before change (body_below size (suc size - (length ((w.front ++ w.bad ∷ []) ++ more) - length rest)) rest)) (w.wrong more);
          }
    ]

pub body_halts : (size : ℕ) (bytes : List ℕ) (part : Part) (left : ℕ) → body_at size bytes ≡ Wrong part left → BodyHalts size bytes left
body_halts size bytes part left e = below_halts size size bytes part left (omega arith) e
