-- The turns that numbers draw.
use Rattle.std.proofs.Common.{◌≡◌, ℕ, zero, suc, ◌+◌, ◌*◌, ◌≤◌, ◌<◌, Bool, true, false, cond, List, [], ◌∷◌, ◌++◌, get_or, length, set, Option, Some, None, refl, sym, ap, ◌∙◌, arith, inl, inr}
use Rattle.std.specs.Prelude.{All, ◌%◌, ◌||◌, filter, slice_get}
use Rattle.std.specs.List.{AllByRecursion, range_with_len, sum}
use Rattle.std.proofs.lemmas.Bool.{ltb-true}
use Rattle.std.proofs.lemmas.List.{get_or_past}
use Rattle.std.proofs.lemmas.List.Sums.{sum_by-cons, sum_by-set}
use Rattle.std.proofs.lemmas.List.Elements.{recursion_from_All}
use Rattle.std.proofs.lemmas.Nat.{mod_below}
use Rattle.std.proofs.lemmas.Option.{slice_get-get_or, slice_get_cases}
use Rattle.depot_rows.specs.depot_model.Tables.{Need, needs_of}
use Rattle.depot_rows.specs.depot_model.declared.request.Request.{Request}
use Rattle.lock_core.specs.Drawing.{has_other, may_go_on}
use Rattle.lock_machine.specs.Draws.{chosen}
use Rattle.lock_machine.specs.Machine.{Fault, Party, State, event, is_enabled, lock_number, may_party, stops}
use Rattle.lock_machine.specs.Orderly.{Rises}
use Rattle.lock_machine.specs.Runs.{beginning}
use Rattle.lock_machine.specs.Turns.{turns_in, turns_left, turns_of, turns_of_left}
use Rattle.lock_machine.proofs.Places.{some_is}
use Rattle.lock_machine.proofs.Rising.{sets_rise}
use Rattle.lock_machine.proofs.Serving.{fewer as event_less}
use Rattle.seeded_numbers.specs.Numbers.{next_number, value_of}
use Rattle.session_loop.specs.Asking.{replica_commands}
use Rattle.session_loop.specs.declared.reading.ReplicaScript.{ReplicaScript}
use Rattle.session_turns.specs.Drawn.{AreDrawn, Progress, Turn, advanced, counted, ended, going, left_after_turn, others_turned, replica_totals, turned}
use Rattle.session_turns.specs.Going.{all_left}

-- ---- one more turn

pub drawn_more : (x : ℕ) (p : Progress) (turns : List Turn) (y : ℕ) (q : Progress) (turn : Turn) → AreDrawn x p turns y q → chosen (going q) (value_of (next_number y)) ≡ Some turn.party
    → AreDrawn x p (turns ++ turn ∷ []) (next_number y) (advanced q turn)
drawn_more x p [] y q turn drawn one =
    ((λ k. chosen (going (drawn.1 k)) (value_of (next_number (drawn.0 k)))) ∙ one, (ap next_number drawn.0, ap (λ (u : Progress). advanced u turn) drawn.1))
drawn_more x p (first ∷ turns) y q turn drawn one = (drawn.0, drawn_more (next_number x) (advanced p first) turns y q turn drawn.1 one)

-- ---- who is chosen

passes : (f : ℕ → Bool) (xs : List ℕ) (k i : ℕ) → slice_get (filter f xs) k ≡ Some i → f i ≡ true
passes f [] k i at = absurd cc
passes f (x ∷ xs) k i at = go (f x) refl k (λ j at_j. passes f xs j i at_j) at
  where
    go : (b : Bool) → f x ≡ b → (k : ℕ) → ((j : ℕ) → slice_get (filter f xs) j ≡ Some i → f i ≡ true) → slice_get (cond b (x ∷ filter f xs) (filter f xs)) k ≡ Some i → f i ≡ true
    go true is zero rest at = ap f (sym (some_is at)) ∙ is
    go true is (suc k) rest at = rest k at
    go false is k rest at = rest k at

chosen_in : (xs : List ℕ) (value i : ℕ) → chosen xs value ≡ Some i → (k : ℕ) × (slice_get xs k ≡ Some i)
chosen_in [] value i is = absurd cc
chosen_in (x ∷ xs) value i is = (value % length (x ∷ xs), is)

-- it may go on
pub chosen_going : (p : Progress) (value i : ℕ) → chosen (going p) value ≡ Some i → may_go_on p.machine p.others i ≡ true
chosen_going p value i is =
    let one = chosen_in (going p) value i is in
    passes (may_go_on p.machine p.others) (range_with_len 0 (length p.machine.parties)) one.0 i one.1

-- none is chosen only of none
pub chosen_none : (xs : List ℕ) (value : ℕ) → chosen xs value ≡ None → xs ≡ []
chosen_none [] value is = refl
chosen_none (x ∷ xs) value is = absurd (
    let there = slice_get-get_or (x ∷ xs) (value % length (x ∷ xs)) x (mod_below value (length (x ∷ xs)) (omega arith)) in
    let both = sym is ∙ there in
    cc)

-- ---- how many turns are left

filter_none : (f : ℕ → Bool) (xs : List ℕ) → ((i : ℕ) → f i ≡ true → ⊥) → filter f xs ≡ []
filter_none f [] none = refl
filter_none f (x ∷ xs) none = go (f x) refl (filter_none f xs none)
  where
    go : (b : Bool) → f x ≡ b → filter f xs ≡ [] → cond b (x ∷ filter f xs) (filter f xs) ≡ []
    go true is rest = absurd (none x is)
    go false is rest = rest

there_is : (s : State) (i : ℕ) → is_enabled s i ≡ true → (p : Party) × (slice_get s.parties i ≡ Some p)
there_is s i enabled = go (slice_get s.parties i) refl
  where
    go : (found : Option Party) → slice_get s.parties i ≡ found → (p : Party) × (slice_get s.parties i ≡ Some p)
    go None at = absurd (let both : false ≡ true = sym (ap (may_party s.parties) at) ∙ enabled in cc)
    go (Some p) at = (p, at)

pub found_at : (s : State) (i : ℕ) → is_enabled s i ≡ true → (p : Party) × (slice_get s.parties i ≡ Some p)
found_at s i enabled = there_is s i enabled

set_less : (parties : List Party) (i : ℕ) (p q : Party) → slice_get parties i ≡ Some p → turns_of needs_of q ≤ turns_of needs_of p → turns_in needs_of (set parties i q) ≤ turns_in needs_of parties
set_less [] i p q at less = absurd cc
set_less (x ∷ parties) zero p q at less = let same = ap (turns_of needs_of) (some_is at) in omega (arith, less, same)
set_less (x ∷ parties) (suc i) p q at less = let more = set_less parties i p q at less in omega (arith, more)

stops_less : (s : State) (i : ℕ) (found : Option Party) → slice_get s.parties i ≡ found → turns_left needs_of (stops s i found) ≤ turns_left needs_of s
stops_less s i None at = omega arith
stops_less s i (Some p) at = set_less s.parties i p (record p { left = [] }) at (omega arith)

pub turned_less : (s : State) (turn : Turn) → is_enabled s turn.party ≡ true → turns_left needs_of (turned s turn) < turns_left needs_of s
turned_less s turn enabled = go turn.stops
  where
    go : (b : Bool) → turns_left needs_of (ended (event needs_of s turn.party turn.how) turn.party b) < turns_left needs_of s
    go false = event_less s turn.party turn.how enabled
    go true =
        let less = event_less s turn.party turn.how enabled in
        let t = event needs_of s turn.party turn.how in
        let more = stops_less t turn.party (slice_get t.parties turn.party) refl in
        omega (arith, less, more)

-- ---- how many are left to replicas

least_other : (others : List ℕ) (i : ℕ) → has_other others i ≡ true → i < length others
least_other others i has =
    elim (slice_get_cases others i).1 [
      | inl there ↦ there.1
      | inr past ↦ absurd (let none = get_or_past others i 0 past.0 in let more = ltb-true 0 (get_or others i 0) has in omega (arith, none, more))
    ]

-- one turn of a replica
other_less : (others : List ℕ) (turn : Turn) → has_other others turn.party ≡ true → sum (others_turned others turn) < sum others
other_less others turn has =
    let i = turn.party in
    let old = get_or others i 0 in
    let new = left_after_turn old turn.stops in
    let some = ltb-true 0 old has in
    let moved = sum_by-set (λ (n : ℕ). n) others i new 0 (least_other others i has) in
    let less = fewer old turn.stops some in
    omega (arith, moved, less)
  where
    fewer : (old : ℕ) (stops : Bool) → 0 < old → left_after_turn old stops < old
    fewer old true some = omega (arith, some)
    fewer old false some = omega (arith, some)

pub either_first : (a b : Bool) → (a || b) ≡ true → b ≡ false → a ≡ true
either_first true b e none = refl
either_first false b e none = absurd (let both : true ≡ false = sym e ∙ none in cc)

pub advanced_less : (p : Progress) (turn : Turn) → may_go_on p.machine p.others turn.party ≡ true → all_left (advanced p turn) < all_left p
advanced_less p turn may = go (has_other p.others turn.party) refl
  where
    go : (b : Bool) → has_other p.others turn.party ≡ b → all_left (cond b (record p { others = others_turned p.others turn; turn_counts = counted p turn.party }) (record p { machine = turned p.machine turn })) < all_left p
    go true has = let less = other_less p.others turn has in omega (arith, less)
    go false none = let less = turned_less p.machine turn (either_first (is_enabled p.machine turn.party) (has_other p.others turn.party) may none) in omega (arith, less)

pub none_left : (p : Progress) → all_left p ≤ 0 → going p ≡ []
none_left p none = filter_none (may_go_on p.machine p.others) (range_with_len 0 (length p.machine.parties)) (λ i may.
    let less = advanced_less p (record { party = i; how = Fault; stops = false }) may in
    absurd (omega (arith, none, less)))

-- ---- at first

replica_count : (scripts : List (Option ReplicaScript)) → AllByRecursion (λ (script : Option ReplicaScript). length (replica_commands script) ≤ 67108864) scripts
    → sum (replica_totals scripts) ≤ 67108864 * length scripts
replica_count [] few = omega arith
replica_count (script ∷ scripts) few =
    let here = few.0 in
    let more = replica_count scripts few.1 in
    let all : sum (replica_totals (script ∷ scripts)) ≡ length (replica_commands script) + sum (replica_totals scripts) = sum_by-cons (λ (n : ℕ). n) (length (replica_commands script)) (replica_totals scripts) in
    omega (arith, here, more, all)

pub all_replica_count : (scripts : List (Option ReplicaScript)) → All (λ (script : Option ReplicaScript). length (replica_commands script) ≤ 67108864) scripts → sum (replica_totals scripts) ≤ 67108864 * length scripts
all_replica_count scripts few = replica_count scripts (recursion_from_All (λ (script : Option ReplicaScript). length (replica_commands script) ≤ 67108864) scripts few)

set_count : (n : ℕ) (needs : List Need) → Rises n needs → n + length needs ≤ 12
set_count n [] rises = omega (arith, rises)
set_count n (need ∷ needs) rises = let more = set_count (suc (lock_number need.lock)) needs rises.1 in let here = rises.0 in omega (arith, more, here)

left_count : (left : List Request) → turns_of_left needs_of left ≤ 32 * length left
left_count [] = omega arith
left_count (request ∷ left) =
    let few = set_count 0 (needs_of request) (sets_rise request) in
    let more = left_count left in
    omega (arith, few, more)

abbrev pub AllShort : List (List Request) → Type 0
AllShort [] = Unit {0}
AllShort (left ∷ requests) = (length left ≤ 67108864) × AllShort requests

pub beginning_count : (requests : List (List Request)) → AllShort requests → turns_left needs_of (beginning requests) ≤ 2147483648 * length requests
beginning_count [] short = omega arith
beginning_count (left ∷ requests) short =
    let here = left_count left in
    let few = short.0 in
    let more = beginning_count requests short.1 in
    omega (arith, here, few, more)
