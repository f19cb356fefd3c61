-- What is read is printed so, and what is printed so is read.
use Rattle.std.proofs.Common.{◌≡◌, ℕ, zero, suc, ◌+◌, ◌-◌, ◌≤◌, Bool, true, false, eqb, List, [], ◌∷◌, ◌++◌, length, Option, Some, None, refl, sym, ap, subst, ◌∙◌, append_assoc, arith, length-append}
use Rattle.std.specs.Prelude.{codes, ◌≢◌}
use Rattle.std.specs.Fmt.{decimal}
use Rattle.std.proofs.lemmas.Bool.{ne_eqb, eqb-true, eqb-false}
use Rattle.std.proofs.lemmas.List.{append-nil}
use Rattle.std.proofs.lemmas.List.Concat.{flat_map-cons}
use Rattle.db_records.specs.declared.change.Change.{Change}
use Rattle.record_text.specs.Reading.{Reading, Done, Ends, and_then}
use Rattle.record_text.specs.Spelling.{sign, spelled_number, number_at}
use Rattle.record_text.specs.Grammar.{largest_wide}
use Rattle.record_text.proofs.Numbers.{number_reads}
use Rattle.journal_groups.specs.Groups.{change_text, body_of, head_of, group_text, AreRecords, IsGroup, mark, open_byte}
use Rattle.journal_groups.specs.Reading.{exactly, head_at, window_at, body_below, body_at, group_at, behind_sign, mark_at, behind_mark, next_at}
use Rattle.journal_groups.proofs.Bodies.{window_done, before, body_one, with_front, front_more, no_front}
use Rattle.journal_groups.proofs.Extended.{parts_of, exactly_whole, exactly_again}

abbrev done : {A : Type 0} → A → List ℕ → Reading A
done a rest = Done a rest

-- ---- records

pub body_cons : (change : Change) (changes : List Change) (rest : List ℕ) → body_of (change ∷ changes) ++ rest ≡ change_text change ++ (body_of changes ++ rest)
body_cons change changes rest = ap (λ (t : List ℕ). t ++ rest) (flat_map-cons change_text change changes) ∙ append_assoc (change_text change) (body_of changes) rest

pub length_cons : (change : Change) (changes : List Change) → length (body_of (change ∷ changes)) ≡ length (change_text change) + length (body_of changes)
length_cons change changes = ap length (flat_map-cons change_text change changes) ∙ length-append (change_text change) (body_of changes)

pub body_joined : (xs ys : List Change) → body_of (xs ++ ys) ≡ body_of xs ++ body_of ys
body_joined [] ys = refl
body_joined (x ∷ xs) ys = ap (λ (l : List ℕ). change_text x ++ l) (body_joined xs ys) ∙ sym (append_assoc (change_text x) (body_of xs) (body_of ys))

-- the records at the front are read, and then the others
pub body_many : (changes : List Change) (size left : ℕ) (rest : List ℕ) → AreRecords changes → size ≡ length (body_of changes) + left → body_at size (body_of changes ++ rest) ≡ with_front changes (body_at left rest)
body_many [] size left rest are e = let same : size ≡ left = omega (arith, e) in ap (λ (n : ℕ). body_at n rest) same ∙ sym (no_front (body_at left rest))
body_many (change ∷ changes) size left rest are e =
    let l = length_cons change changes in
    let le : length (change_text change) ≤ size = omega arith in
    let n : size - length (change_text change) ≡ length (body_of changes) + left = omega arith in
    ap (body_at size) (body_cons change changes rest)
    ∙ body_one size change (body_of changes ++ rest) are.0 le
    ∙ ap (before change) (body_many changes (size - length (change_text change)) left rest are.1 n)
    ∙ front_more change changes (body_at left rest)

pub body_again : (changes : List Change) (size : ℕ) (rest : List ℕ) → AreRecords changes → size ≡ length (body_of changes) → body_at size (body_of changes ++ rest) ≡ Done changes rest
body_again changes size rest are e = body_many changes size 0 rest are (omega (arith, e)) ∙ ap (λ (c : List Change). done c rest) (append-nil changes)

-- what a body was read to be
abbrev pub IsBody : List ℕ → ℕ → List Change → List ℕ → Type 0
IsBody bytes size changes rest = AreRecords changes × (bytes ≡ body_of changes ++ rest) × (length (body_of changes) ≡ size)

cons_is : (change : Change) (changes : List Change) (after : List ℕ) (all : List Change) (rest : List ℕ) → done (change ∷ changes) after ≡ Done all rest → (change ∷ changes ≡ all) × (after ≡ rest)
cons_is change changes after all rest e = (cc, cc)

nil_is : (bytes : List ℕ) (all : List Change) (rest : List ℕ) → done [] bytes ≡ Done all rest → ([] ≡ all) × (bytes ≡ rest)
nil_is bytes all rest e = (cc, cc)

no_ends : (changes : List Change) (rest : List ℕ) → (let r : Reading (List Change) = Ends in r) ≡ Done changes rest → ⊥
no_ends changes rest e = cc

below_done : (steps size : ℕ) (bytes : List ℕ) (changes : List Change) (rest : List ℕ) → body_below steps size bytes ≡ Done changes rest → IsBody bytes size changes rest
below_done steps zero bytes changes rest e =
    let n = nil_is bytes changes rest e in
    subst (λ (c : List Change). IsBody bytes zero c rest) n.0 (tt, n.1, refl)
below_done zero (suc size) bytes changes rest e = absurd (no_ends changes rest e)
below_done (suc steps) (suc size) bytes changes rest e =
    let p = parts_of (window_at (suc size) bytes) (λ change mid. before change (body_below steps (suc size - (length bytes - length mid)) mid)) changes rest e in
    let f = window_done (suc size) bytes p.0 p.1.0 p.1.1.0 in
    let q = parts_of (body_below steps (suc size - (length bytes - length p.1.0)) p.1.0) (λ others after. Done (p.0 ∷ others) after) changes rest p.1.1.1 in
    let c = cons_is p.0 q.0 q.1.0 changes rest q.1.1.1 in
    let ih = below_done steps (suc size - (length bytes - length p.1.0)) p.1.0 q.0 q.1.0 q.1.1.0 in
    let l : length bytes ≡ length (change_text p.0) + length p.1.0 = ap length f.parts ∙ length-append (change_text p.0) p.1.0 in
    let within : length (change_text p.0) ≤ suc size = f.within in
    let rests : length (body_of q.0) ≡ suc size - (length bytes - length p.1.0) = ih.2 in
    let all = length_cons p.0 q.0 in
    let whole : bytes ≡ body_of (p.0 ∷ q.0) ++ rest = f.parts ∙ ap (λ (t : List ℕ). change_text p.0 ++ t) (ih.1 ∙ ap (λ (t : List ℕ). body_of q.0 ++ t) c.1) ∙ sym (body_cons p.0 q.0 rest) in
    let size_is : length (body_of (p.0 ∷ q.0)) ≡ suc size = omega arith in
    subst (λ (x : List Change). IsBody bytes (suc size) x rest) c.0 ((f.fits, ih.0), whole, size_is)

-- ---- heads

pub head_again : (number size : ℕ) (rest : List ℕ) → size ≤ largest_wide → head_at number (head_of number size ++ rest) ≡ Done size rest
head_again number size rest fits =
    let tail = spelled_number 0x0A size ++ rest in
    let split : head_of number size ++ rest ≡ codes "@nx@ " ++ (decimal number ++ (codes " " ++ tail)) =
    append_assoc (codes "@nx@ ") (spelled_number 0x20 number ++ spelled_number 0x0A size) rest
    ∙ ap (λ (t : List ℕ). codes "@nx@ " ++ t) (append_assoc (spelled_number 0x20 number) (spelled_number 0x0A size) rest ∙ append_assoc (decimal number) (codes " ") tail) in
    ap (head_at number) split
    ∙ ap (λ r. and_then r (λ _ rest1. and_then (exactly (decimal number) rest1) (λ _ rest2. and_then (exactly (codes " ") rest2) (λ _ rest3. number_at 0 largest_wide 0x0A rest3)))) (exactly_again (codes "@nx@ ") (decimal number ++ (codes " " ++ tail)))
    ∙ ap (λ r. and_then r (λ _ rest2. and_then (exactly (codes " ") rest2) (λ _ rest3. number_at 0 largest_wide 0x0A rest3))) (exactly_again (decimal number) (codes " " ++ tail))
    ∙ ap (λ r. and_then r (λ _ rest3. number_at 0 largest_wide 0x0A rest3)) (exactly_again (codes " ") tail)
    ∙ (number_reads 0 largest_wide 0x0A (omega arith) (omega arith) (omega arith) (omega arith)).again size rest (omega arith, fits)

pub head_done : (number : ℕ) (bytes : List ℕ) (size : ℕ) (rest : List ℕ) → head_at number bytes ≡ Done size rest → (size ≤ largest_wide) × (bytes ≡ head_of number size ++ rest)
head_done number bytes size rest e =
    let p = parts_of (exactly (codes "@nx@ ") bytes) _ size rest e in
    let q = parts_of (exactly (decimal number) p.1.0) _ size rest p.1.1.1 in
    let r = parts_of (exactly (codes " ") q.1.0) (λ _ mid. number_at 0 largest_wide 0x0A mid) size rest q.1.1.1 in
    let n = (number_reads 0 largest_wide 0x0A (omega arith) (omega arith) (omega arith) (omega arith)).done r.1.0 size rest r.1.1.1 in
    let tail = spelled_number 0x0A size ++ rest in
    let one : bytes ≡ codes "@nx@ " ++ p.1.0 = exactly_whole (codes "@nx@ ") bytes p.1.0 p.0 p.1.1.0 in
    let two : p.1.0 ≡ decimal number ++ q.1.0 = exactly_whole (decimal number) p.1.0 q.1.0 q.0 q.1.1.0 in
    let three : q.1.0 ≡ codes " " ++ r.1.0 = exactly_whole (codes " ") q.1.0 r.1.0 r.0 r.1.1.0 in (
      n.0.1,
      one ∙ ap (λ (t : List ℕ). codes "@nx@ " ++ t) (two ∙ ap (λ (t : List ℕ). decimal number ++ t) (three ∙ ap (λ (t : List ℕ). codes " " ++ t) n.1) ∙ sym (append_assoc (decimal number) (codes " ") tail) ∙ sym (append_assoc (spelled_number 0x20 number) (spelled_number 0x0A size) rest))
          ∙ sym (append_assoc (codes "@nx@ ") (spelled_number 0x20 number ++ spelled_number 0x0A size) rest),
    )

-- ---- groups

pub group_again : (number : ℕ) (changes : List Change) (rest : List ℕ) → IsGroup changes → group_at number (group_text number changes ++ rest) ≡ Done changes rest
group_again number changes rest is =
    ap (group_at number) (append_assoc (head_of number (length (body_of changes))) (body_of changes) rest)
    ∙ ap (λ r. and_then r body_at) (head_again number (length (body_of changes)) (body_of changes ++ rest) is.1)
    ∙ body_again changes (length (body_of changes)) rest is.0 refl

pub group_done : (number : ℕ) (bytes : List ℕ) (changes : List Change) (rest : List ℕ) → group_at number bytes ≡ Done changes rest → IsGroup changes × (bytes ≡ group_text number changes ++ rest)
group_done number bytes changes rest e =
    let p = parts_of (head_at number bytes) body_at changes rest e in
    let h = head_done number bytes p.0 p.1.0 p.1.1.0 in
    let b = below_done p.0 p.0 p.1.0 changes rest p.1.1.1 in
    let small : length (body_of changes) ≤ largest_wide = subst (λ (n : ℕ). n ≤ largest_wide) (sym b.2) h.0 in
    ((b.0, small), h.1 ∙ ap (λ (t : List ℕ). head_of number p.0 ++ t) b.1 ∙ ap (λ (n : ℕ). head_of number n ++ (body_of changes ++ rest)) (sym b.2) ∙ sym (append_assoc (head_of number (length (body_of changes))) (body_of changes) rest))

-- ---- marks

pub mark_again : (byte : ℕ) (rest : List ℕ) → mark_at (mark byte ++ rest) ≡ Done (eqb byte open_byte) rest
mark_again byte rest =
    ap (λ r. and_then r (λ _ mid. behind_sign mid)) (exactly_again (sign ∷ []) (byte ∷ (codes "x@\n" ++ rest)))
    ∙ ap (λ r. and_then r (λ _ after. done (eqb byte open_byte) after)) (exactly_again (codes "x@\n") rest)

bool_is : (a b : Bool) (r s : List ℕ) → done a r ≡ Done b s → (a ≡ b) × (r ≡ s)
bool_is a b r s e = (cc, cc)

no_mark : (opened : Bool) (rest : List ℕ) → (let r : Reading Bool = Ends in r) ≡ Done opened rest → ⊥
no_mark opened rest e = cc

behind_done : (bytes : List ℕ) (opened : Bool) (rest : List ℕ) → behind_sign bytes ≡ Done opened rest → (byte : ℕ) × ((eqb byte open_byte ≡ opened) × (bytes ≡ byte ∷ (codes "x@\n" ++ rest)))
behind_done [] opened rest e = absurd (no_mark opened rest e)
behind_done (byte ∷ bytes) opened rest e =
    let p = parts_of (exactly (codes "x@\n") bytes) (λ _ after. done (eqb byte open_byte) after) opened rest e in
    let b = bool_is (eqb byte open_byte) opened p.1.0 rest p.1.1.1 in
    (byte, (b.0, ap (λ (t : List ℕ). byte ∷ t) (exactly_whole (codes "x@\n") bytes p.1.0 p.0 p.1.1.0 ∙ ap (λ (t : List ℕ). codes "x@\n" ++ t) b.1)))

pub mark_done : (bytes : List ℕ) (opened : Bool) (rest : List ℕ) → mark_at bytes ≡ Done opened rest → (byte : ℕ) × ((eqb byte open_byte ≡ opened) × (bytes ≡ mark byte ++ rest))
mark_done bytes opened rest e =
    let p = parts_of (exactly (sign ∷ []) bytes) (λ _ mid. behind_sign mid) opened rest e in
    let b = behind_done p.1.0 opened rest p.1.1.1 in
    (b.0, (b.1.0, exactly_whole (sign ∷ []) bytes p.1.0 p.0 p.1.1.0 ∙ ap (λ (t : List ℕ). sign ∷ t) b.1.1))

-- ---- what a call wants

pub next_group : (number : ℕ) (changes : List Change) (rest : List ℕ) → IsGroup changes → next_at number (mark open_byte ++ (group_text number changes ++ rest)) ≡ Done (Some changes) rest
next_group number changes rest is =
    ap (λ r. and_then r (behind_mark number)) (mark_again open_byte (group_text number changes ++ rest))
    ∙ ap (λ r. and_then r (λ c after. done (Some c) after)) (group_again number changes rest is)

pub next_ends : (number byte : ℕ) (rest : List ℕ) → byte ≢ open_byte → next_at number (mark byte ++ rest) ≡ Done None rest
next_ends number byte rest apart =
    ap (λ r. and_then r (behind_mark number)) (mark_again byte rest) ∙ ap (λ (b : Bool). behind_mark number b rest) (ne_eqb byte open_byte apart)

some_is : (a b : List Change) (r s : List ℕ) → done (Some a) r ≡ Done (Some b) s → (a ≡ b) × (r ≡ s)
some_is a b r s e = (cc, cc)

no_some : (a : List Change) (r s : List ℕ) → done (Some a) r ≡ Done None s → ⊥
no_some a r s e = cc

no_none : (b : List Change) (r s : List ℕ) → (let x : Reading (Option (List Change)) = Done None r in x) ≡ Done (Some b) s → ⊥
no_none b r s e = cc

none_is : (r s : List ℕ) → (let x : Reading (Option (List Change)) = Done None r in x) ≡ Done None s → r ≡ s
none_is r s e = cc

behind_some : (number : ℕ) (opened : Bool) (mid : List ℕ) (changes : List Change) (rest : List ℕ) → behind_mark number opened mid ≡ Done (Some changes) rest → (opened ≡ true) × (group_at number mid ≡ Done changes rest)
behind_some number true mid changes rest e =
    let p = parts_of (group_at number mid) (λ c after. done (Some c) after) (Some changes) rest e in
    let s = some_is p.0 changes p.1.0 rest p.1.1.1 in
    (refl, p.1.1.0 ∙ ap (λ (c : List Change). done c p.1.0) s.0 ∙ ap (λ (t : List ℕ). done changes t) s.1)
behind_some number false mid changes rest e = absurd (no_none changes mid rest e)

behind_none : (number : ℕ) (opened : Bool) (mid rest : List ℕ) → behind_mark number opened mid ≡ Done None rest → (opened ≡ false) × (mid ≡ rest)
behind_none number true mid rest e =
    let p = parts_of (group_at number mid) (λ c after. done (Some c) after) None rest e in
    absurd (no_some p.0 p.1.0 rest p.1.1.1)
behind_none number false mid rest e = (refl, none_is mid rest e)

pub next_found : (number : ℕ) (bytes : List ℕ) (changes : List Change) (rest : List ℕ) → next_at number bytes ≡ Done (Some changes) rest → IsGroup changes × (bytes ≡ mark open_byte ++ (group_text number changes ++ rest))
next_found number bytes changes rest e =
    let p = parts_of (mark_at bytes) (behind_mark number) (Some changes) rest e in
    let b = behind_some number p.0 p.1.0 changes rest p.1.1.1 in
    let m = mark_done bytes p.0 p.1.0 p.1.1.0 in
    let is : m.0 ≡ open_byte = eqb-true m.0 open_byte (m.1.0 ∙ b.0) in
    let g = group_done number p.1.0 changes rest b.1 in
    (g.0, m.1.1 ∙ ap (λ (n : ℕ). mark n ++ p.1.0) is ∙ ap (λ (t : List ℕ). mark open_byte ++ t) g.1)

pub next_ended : (number : ℕ) (bytes rest : List ℕ) → next_at number bytes ≡ Done None rest → (byte : ℕ) × ((byte ≢ open_byte) × (bytes ≡ mark byte ++ rest))
next_ended number bytes rest e =
    let p = parts_of (mark_at bytes) (behind_mark number) None rest e in
    let b = behind_none number p.0 p.1.0 rest p.1.1.1 in
    let m = mark_done bytes p.0 p.1.0 p.1.1.0 in
    (m.0, (eqb-false m.0 open_byte (m.1.0 ∙ b.0), m.1.1 ∙ ap (λ (t : List ℕ). mark m.0 ++ t) b.1))
