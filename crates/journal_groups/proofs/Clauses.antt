-- What the readers of groups say to their callers.
use Rattle.std.proofs.Common.{◌≡◌, ℕ, ◌+◌, ◌-◌, ◌<◌, ◌≤◌, ◌^◌, List, ◌++◌, length, take, drop, Option, Some, None, refl, sym, ap, subst, ◌∙◌, arith, length-append, length-drop}
use Rattle.std.specs.Prelude.{Result, Ok, Err, IfOk, OnErr, ◌≢◌}
use Rattle.std.specs.Result.{IfErr}
use Rattle.std.proofs.lemmas.List.{take-append-drop, append_cancel_right}
use Rattle.db_records.specs.declared.change.Change.{Change}
use Rattle.record_text.specs.declared.fault.Part.{Part}
use Rattle.record_text.specs.Reading.{Reading, Done, Ends, Wrong}
use Rattle.journal_groups.specs.declared.fault.GroupFault.{GroupFault}
use Rattle.journal_groups.specs.declared.fault.GroupFault.TheVariants as faults
use Rattle.journal_groups.specs.Groups.{group_text, IsGroup, mark, open_byte}
use Rattle.journal_groups.specs.Reading.{group_at, next_at, GivesAt}
use Rattle.journal_groups.specs.Reader.{State, IsLeft, IsNext, HasTaken, HasRecords, IfOfText}
use Rattle.journal_groups.specs.Causes.{GroupGoesOn, GoesOn, StopsAt, GroupStopsAt, IfShort, IfBad, IsShort, IsAnswer}
use Rattle.journal_groups.proofs.Texts.{group_again, group_done, next_group, next_ends, next_found, next_ended}
use Rattle.journal_groups.proofs.Causes.{group_ends, group_goes, group_stops, next_goes_on, goes_next, next_stops}

abbrev pub Answer : Type 0
Answer = Result (List Change × ℕ) GroupFault

abbrev pub Exact : List ℕ → ℕ → Answer → Type 0
Exact bytes number result = GivesAt 0 bytes (λ x. x.0) (λ x. drop x.1 bytes) result (group_at number bytes)

abbrev done : {A : Type 0} → A → List ℕ → Reading A
done a rest = Done a rest

no_ends : {A : Type 0} (a : A) (rest : List ℕ) → done a rest ≡ Ends → ⊥
no_ends a rest e = cc

no_wrong : {A : Type 0} (a : A) (rest : List ℕ) (part : Part) (left : ℕ) → done a rest ≡ Wrong part left → ⊥
no_wrong a rest part left e = cc

ends_wrong : {A : Type 0} (part : Part) (left : ℕ) → (let r : Reading A = Ends in r) ≡ Wrong part left → ⊥
ends_wrong part left e = cc

done_is : {A : Type 0} (a b : A) (r s : List ℕ) → done a r ≡ Done b s → (a ≡ b) × (r ≡ s)
done_is a b r s e = (cc, cc)

front_is : (bytes text rest : List ℕ) (n : ℕ) → n ≤ length bytes → bytes ≡ text ++ rest → rest ≡ drop n bytes → (take n bytes ≡ text) × (length text ≡ n)
front_is bytes text rest n within e r =
    let whole : take n bytes ++ drop n bytes ≡ text ++ drop n bytes = take-append-drop n bytes ∙ e ∙ ap (λ (t : List ℕ). text ++ t) r in
    let l1 : length bytes ≡ length text + length rest = ap length e ∙ length-append text rest in
    let l2 : length rest ≡ length bytes - n = ap length r ∙ length-drop n bytes in
    (append_cancel_right (take n bytes) text (drop n bytes) whole, omega arith)

pub found_is : (bytes : List ℕ) (number : ℕ) (result : Answer) → Exact bytes number result → IfOk result (λ x. x.1 ≤ length bytes) → IfOk result (λ x. IsGroup x.0 × (take x.1 bytes ≡ group_text number x.0) × (x.1 ≤ length bytes))
found_is bytes number (Ok x) e within =
    let d = group_done number bytes x.0 (drop x.1 bytes) e in
    (d.0, (front_is bytes (group_text number x.0) (drop x.1 bytes) x.1 within d.1 refl).0, within)
found_is bytes number (Err fault) e within = tt

pub only_is : (bytes : List ℕ) (number : ℕ) (result : Answer) (changes : List Change) (rest : List ℕ) → Exact bytes number result → IfOk result (λ x. x.1 ≤ length bytes) → IsGroup changes → bytes ≡ group_text number changes ++ rest → IsAnswer result (changes, length (group_text number changes))
only_is bytes number (Ok x) changes rest e within is same =
    let d = done_is changes x.0 rest (drop x.1 bytes) (sym (ap (group_at number) same ∙ group_again number changes rest is) ∙ e) in
    let f = front_is bytes (group_text number changes) rest x.1 within same d.1 in
    ap (λ (c : List Change). (c, x.1)) (sym d.0) ∙ ap (λ (n : ℕ). (changes, n)) (sym f.1)
only_is bytes number (Err faults.Memory) changes rest e within is same = tt
only_is bytes number (Err (faults.Short place)) changes rest e within is same = no_ends changes rest (sym (ap (group_at number) same ∙ group_again number changes rest is) ∙ e.0)
only_is bytes number (Err (faults.BadGroup place)) changes rest e within is same = no_wrong changes rest e.0 e.1.0 (sym (ap (group_at number) same ∙ group_again number changes rest is) ∙ e.1.1.0)

pub short_is : (bytes : List ℕ) (number : ℕ) (result : Answer) → number < 2 ^ 64 → Exact bytes number result → IfShort result (λ place. GroupGoesOn number bytes × (place ≡ length bytes))
short_is bytes number (Ok x) small e = tt
short_is bytes number (Err faults.Memory) small e = tt
short_is bytes number (Err (faults.Short place)) small e = (group_ends number bytes small e.0, let p : place ≡ 0 + length bytes = e.1 in omega arith)
short_is bytes number (Err (faults.BadGroup place)) small e = tt

pub goes_is : (bytes : List ℕ) (number : ℕ) (result : Answer) → number < 2 ^ 64 → Exact bytes number result → GroupGoesOn number bytes → IsShort result (length bytes)
goes_is bytes number (Ok x) small e g = no_ends x.0 (drop x.1 bytes) (sym e ∙ group_goes number bytes small g)
goes_is bytes number (Err faults.Memory) small e g = tt
goes_is bytes number (Err (faults.Short place)) small e g = let p : place ≡ 0 + length bytes = e.1 in omega arith
goes_is bytes number (Err (faults.BadGroup place)) small e g = ends_wrong e.0 e.1.0 (sym (group_goes number bytes small g) ∙ e.1.1.0)

pub bad_is : (bytes : List ℕ) (number : ℕ) (result : Answer) → number < 2 ^ 64 → Exact bytes number result → IfBad result (λ place. GroupStopsAt number bytes (length bytes - place))
bad_is bytes number (Ok x) small e = tt
bad_is bytes number (Err faults.Memory) small e = tt
bad_is bytes number (Err (faults.Short place)) small e = tt
bad_is bytes number (Err (faults.BadGroup place)) small e =
    let p : place + e.1.0 ≡ 0 + length bytes = e.1.1.1 in
    let n : e.1.0 ≡ length bytes - place = omega arith in
    subst (GroupStopsAt number bytes) n (group_stops number bytes e.0 e.1.0 small e.1.1.0)

-- ---- the reader

abbrev pub Next : Type 0
Next = Result (Option (List Change)) GroupFault

pub next_short : (old new : State) (result : Next) → old.number < 2 ^ 64 → IsNext old new result → IfShort result (λ place. GoesOn old.number old.left × (place ≡ old.at + length old.left))
next_short old new (Ok x) small e = tt
next_short old new (Err faults.Memory) small e = tt
next_short old new (Err (faults.Short place)) small e = (next_goes_on old.number old.left small e.1.0, e.1.1)
next_short old new (Err (faults.BadGroup place)) small e = tt

pub next_goes : (old new : State) (result : Next) → old.number < 2 ^ 64 → IsNext old new result → GoesOn old.number old.left → IsShort result (old.at + length old.left)
next_goes old new (Ok (Some changes)) small e g = no_ends (Some changes) new.left (sym e.0 ∙ goes_next old.number old.left small g)
next_goes old new (Ok None) small e g = no_ends None e.1.0 (sym e.1.1 ∙ goes_next old.number old.left small g)
next_goes old new (Err faults.Memory) small e g = tt
next_goes old new (Err (faults.Short place)) small e g = e.1.1
next_goes old new (Err (faults.BadGroup place)) small e g = ends_wrong e.1.0 e.1.1.0 (sym (goes_next old.number old.left small g) ∙ e.1.1.1.0)

pub next_bad : (old new : State) (result : Next) → old.number < 2 ^ 64 → IsNext old new result → IfBad result (λ place. StopsAt old.number old.left (old.at + length old.left - place))
next_bad old new (Ok x) small e = tt
next_bad old new (Err faults.Memory) small e = tt
next_bad old new (Err (faults.Short place)) small e = tt
next_bad old new (Err (faults.BadGroup place)) small e =
    let p : place + e.1.1.0 ≡ old.at + length old.left = e.1.1.1.1 in
    let n : e.1.1.0 ≡ old.at + length old.left - place = omega arith in
    subst (StopsAt old.number old.left) n (next_stops old.number old.left e.1.0 e.1.1.0 small e.1.1.1.0)

pub next_taken : (old new : State) (result : Next) → IsNext old new result → IfOk result (HasTaken old new)
next_taken old new (Ok (Some changes)) e = let f = next_found old.number old.left changes new.left e.0 in (f.0, f.1, e.1, e.2, e.3)
next_taken old new (Ok None) e = let f = next_ended old.number old.left e.1.0 e.1.1 in (e.0, (f.0, (e.1.0, f.1)))
next_taken old new (Err fault) e = tt

pub next_kept : (old new : State) (result : Next) → IsNext old new result → OnErr result (IsLeft old new)
next_kept old new (Ok x) e = tt
next_kept old new (Err fault) e = e.0

pub next_records : (old new : State) (result : Next) → IsNext old new result → IfErr result (λ fault. IfOfText fault (HasRecords old.number old.at old.left new.records new.reached))
next_records old new (Ok x) e = tt
next_records old new (Err fault) e = e.2

-- what stands there is answered
answered : (old new : State) (result : Next) (value : Option (List Change)) (rest : List ℕ) → IsNext old new result → next_at old.number old.left ≡ Done value rest → IsAnswer result value
answered old new (Ok (Some changes)) value rest e is = sym (done_is value (Some changes) rest new.left (sym is ∙ e.0)).0
answered old new (Ok None) value rest e is = sym (done_is value None rest e.1.0 (sym is ∙ e.1.1)).0
answered old new (Err faults.Memory) value rest e is = tt
answered old new (Err (faults.Short place)) value rest e is = no_ends value rest (sym is ∙ e.1.0)
answered old new (Err (faults.BadGroup place)) value rest e is = no_wrong value rest e.1.0 e.1.1.0 (sym is ∙ e.1.1.1.0)

pub next_only : (old new : State) (result : Next) (changes : List Change) (rest : List ℕ) → IsNext old new result → IsGroup changes → old.left ≡ mark open_byte ++ (group_text old.number changes ++ rest) → IsAnswer result (Some changes)
next_only old new result changes rest e is same = answered old new result (Some changes) rest e (ap (next_at old.number) same ∙ next_group old.number changes rest is)

pub next_at_closed : (old new : State) (result : Next) (byte : ℕ) (rest : List ℕ) → IsNext old new result → byte ≢ open_byte → old.left ≡ mark byte ++ rest → IsAnswer result None
next_at_closed old new result byte rest e shut same = answered old new result None rest e (ap (next_at old.number) same ∙ next_ends old.number byte rest shut)
