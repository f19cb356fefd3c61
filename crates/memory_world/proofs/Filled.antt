-- Open places that are filled one after another.
use Rattle.std.proofs.Common.{◌≡◌, ◌≢◌, ◌⊎◌, inl, inr, ℕ, zero, suc, ◌+◌, ◌<◌, ◌≤◌, Bool, true, false, List, length, get_or, set, drop, take, if◌then◌else◌, add-one, refl, sym, ◌∙◌, ap, subst, arith, ◌-◌, min, length-drop, get_or-drop}
use Rattle.std.proofs.lemmas.Bool.{cases_eq}
use Rattle.std.proofs.lemmas.List.{get_or-set_other, take_all, drop_min, drop-drop}
use Rattle.std.proofs.lemmas.Grind.{get_or-set_at}
use Rattle.outside_api.specs.Disk.{Files}
use Rattle.memory_world.specs.Ranges.{open_below, open_before, IsFilled}

pub below_place : (is_open : ℕ → Bool) (k : ℕ) → open_below is_open k ≤ k
below_place is_open zero = omega arith
below_place is_open (suc k) = step (is_open k) (below_place is_open k)
  where
    step : (b : Bool) → open_below is_open k ≤ k → (if b then suc (open_below is_open k) else open_below is_open k) ≤ suc k
    step true le = omega (arith, le)
    step false le = omega (arith, le)

pub one_open : (is_open : ℕ → Bool) (k : ℕ) → is_open k ≡ true → open_below is_open (k + 1) ≡ open_below is_open k + 1
one_open is_open k is =
    ap (open_below is_open) (add-one k) ∙ ap (λ (b : Bool). if b then suc (open_below is_open k) else open_below is_open k) is ∙ sym (add-one (open_below is_open k))

pub one_shut : (is_open : ℕ → Bool) (k : ℕ) → is_open k ≡ false → open_below is_open (k + 1) ≡ open_below is_open k
one_shut is_open k is =
    ap (open_below is_open) (add-one k) ∙ ap (λ (b : Bool). if b then suc (open_below is_open k) else open_below is_open k) is

-- a place that is open and one that is shut are two
two_places : (is_open : ℕ → Bool) (j k : ℕ) → is_open j ≡ true → is_open k ≡ false → k ≢ j
two_places is_open j k is_true shut same = never (sym is_true ∙ ap is_open (sym same) ∙ shut)
  where
    never : true ≡ false → ⊥
    never e = cc

pub kept_at : (is_open : ℕ → Bool) (bytes : List ℕ) (place byte k : ℕ) → place < length bytes → is_open place ≡ true → is_open k ≡ false → get_or (set bytes place byte) k 0 ≡ get_or bytes k 0
kept_at is_open bytes place byte k lt is_true shut = get_or-set_other bytes place k byte 0 (two_places is_open place k is_true shut)

pub picked_at : (is_open : ℕ → Bool) (bytes pick : List ℕ) (place used byte k : ℕ) → place < length bytes → used ≡ open_below is_open place → byte ≡ get_or pick used 0
    → ((j : ℕ) → j < place → is_open j ≡ true → get_or bytes j 0 ≡ get_or pick (open_below is_open j) 0)
    → k < place + 1 → is_open k ≡ true → get_or (set bytes place byte) k 0 ≡ get_or pick (open_below is_open k) 0
picked_at is_open bytes pick place used byte k lt count is before le is_true = at (cases_eq k place)
  where
    at : (k ≡ place) ⊎ (k ≢ place) → get_or (set bytes place byte) k 0 ≡ get_or pick (open_below is_open k) 0
    at (inl same) =
        let here : get_or (set bytes place byte) k 0 ≡ byte = get_or-set_at bytes place k byte 0 same lt in
        here ∙ is ∙ ap (λ n. get_or pick n 0) (count ∙ ap (open_below is_open) (sym same))
    at (inr other) =
        let there : get_or (set bytes place byte) k 0 ≡ get_or bytes k 0 = get_or-set_other bytes place k byte 0 other in
        there ∙ before k (omega arith) is_true

-- a shut place is passed over
pub picked_past : (is_open : ℕ → Bool) (bytes pick : List ℕ) (place k : ℕ) → is_open place ≡ false
    → ((j : ℕ) → j < place → is_open j ≡ true → get_or bytes j 0 ≡ get_or pick (open_below is_open j) 0)
    → k < place + 1 → is_open k ≡ true → get_or bytes k 0 ≡ get_or pick (open_below is_open k) 0
picked_past is_open bytes pick place k shut before le is_true =
    let other = two_places is_open k place is_true shut in
    before k (omega (arith, other)) is_true

-- what is left of a text behind so many bytes
pub rest_from : (pick : List ℕ) (m used : ℕ) → m ≡ min used (length pick) → take (length pick - m) (drop m pick) ≡ drop used pick
rest_from pick m used is =
    take_all (length pick - m) (drop m pick) (omega (arith, length-drop m pick)) ∙ ap (λ n. drop n pick) is ∙ drop_min used pick

-- files of which those of smaller numbers are filled
pub record FilledBelow (is_open : ℕ → ℕ → Bool) (pick : List ℕ) (old new : Files) (number : ℕ) : Type 0 where
  pub lengths : (f : ℕ) → length (new f) ≡ length (old f)
  pub kept : (f k : ℕ) → is_open f k ≡ false → get_or (new f) k 0 ≡ get_or (old f) k 0
  pub picked : (f k : ℕ) → f < number → k < length (old f) → is_open f k ≡ true → get_or (new f) k 0 ≡ get_or pick (open_before is_open old f + open_below (is_open f) k) 0
  pub later : (f : ℕ) → number ≤ f → new f ≡ old f

-- one file more
pub one_filled : (is_open : ℕ → ℕ → Bool) (pick rest : List ℕ) (old new next : Files) (number : ℕ) (bytes : List ℕ) → FilledBelow is_open pick old new number
    → rest ≡ drop (open_before is_open old number) pick → next number ≡ bytes → ((f : ℕ) → f ≢ number → next f ≡ new f) → length bytes ≡ length (old number)
    → ((k : ℕ) → is_open number k ≡ false → get_or bytes k 0 ≡ get_or (old number) k 0)
    → ((k : ℕ) → k < length (old number) → is_open number k ≡ true → get_or bytes k 0 ≡ get_or rest (open_below (is_open number) k) 0)
    → FilledBelow is_open pick old next (number + 1)
one_filled is_open pick rest old new next number bytes below rest_is here others long kept picked = record {
  lengths = λ f. lengths_at f (cases_eq f number);
  kept = λ f k shut. kept_in f k shut (cases_eq f number);
  picked = λ f k lt within is. picked_in f k lt within is (cases_eq f number);
  later = λ f le. others f (λ e. omega (arith, e, le)) ∙ below.later f (omega (arith, le));
}
  where
    lengths_at : (f : ℕ) → (f ≡ number) ⊎ (f ≢ number) → length (next f) ≡ length (old f)
    lengths_at f (inl is) = ap (λ g. length (next g)) is ∙ ap length here ∙ long ∙ ap (λ g. length (old g)) (sym is)
    lengths_at f (inr other) = ap length (others f other) ∙ below.lengths f

    kept_in : (f k : ℕ) → is_open f k ≡ false → (f ≡ number) ⊎ (f ≢ number) → get_or (next f) k 0 ≡ get_or (old f) k 0
    kept_in f k shut (inl is) =
        ap (λ g. get_or (next g) k 0) is ∙ ap (λ (l : List ℕ). get_or l k 0) here ∙ kept k (ap (λ g. is_open g k) (sym is) ∙ shut) ∙ ap (λ g. get_or (old g) k 0) (sym is)
    kept_in f k shut (inr other) = ap (λ (l : List ℕ). get_or l k 0) (others f other) ∙ below.kept f k shut

    picked_in : (f k : ℕ) → f < number + 1 → k < length (old f) → is_open f k ≡ true → (f ≡ number) ⊎ (f ≢ number) → get_or (next f) k 0 ≡ get_or pick (open_before is_open old f + open_below (is_open f) k) 0
    picked_in f k lt within set_is (inl is) =
        ap (λ g. get_or (next g) k 0) is
        ∙ ap (λ (l : List ℕ). get_or l k 0) here
        ∙ picked k (subst (λ g. k < length (old g)) is within) (ap (λ g. is_open g k) (sym is) ∙ set_is)
        ∙ ap (λ (l : List ℕ). get_or l (open_below (is_open number) k) 0) rest_is
        ∙ get_or-drop (open_before is_open old number) pick (open_below (is_open number) k) 0
        ∙ ap (λ g. get_or pick (open_before is_open old g + open_below (is_open g) k) 0) (sym is)
    picked_in f k lt within set_is (inr other) = ap (λ (l : List ℕ). get_or l k 0) (others f other) ∙ below.picked f k (omega (arith, lt, other)) within set_is

pub one_rest : (is_open : ℕ → ℕ → Bool) (pick rest next : List ℕ) (old : Files) (number count : ℕ) → rest ≡ drop (open_before is_open old number) pick → count ≡ length (old number) → next ≡ drop (open_below (is_open number) count) rest → next ≡ drop (open_before is_open old (number + 1)) pick
one_rest is_open pick rest next old number count rest_is count_is next_is =
    next_is
    ∙ ap (λ n. drop (open_below (is_open number) n) rest) count_is
    ∙ ap (λ (l : List ℕ). drop (open_below (is_open number) (length (old number))) l) rest_is
    ∙ drop-drop (open_below (is_open number) (length (old number))) (open_before is_open old number) pick
    ∙ ap (λ n. drop n pick) (ap (open_before is_open old) (sym (add-one number)))

open_below-same : (one other : ℕ → Bool) (k : ℕ) → ((j : ℕ) → one j ≡ other j) → open_below one k ≡ open_below other k
open_below-same one other zero same = refl
open_below-same one other (suc k) same =
    ap (λ (b : Bool). if b then suc (open_below one k) else open_below one k) (same k) ∙ ap (λ n. if other k then suc n else n) (open_below-same one other k same)

open_before-same : (one other : ℕ → ℕ → Bool) (old new : Files) (f : ℕ) → ((g k : ℕ) → one g k ≡ other g k) → ((g : ℕ) → old g ≡ new g) → open_before one old f ≡ open_before other new f
open_before-same one other old new zero places files = refl
open_before-same one other old new (suc f) places files =
    ap (λ n. n + open_below (one f) (length (old f))) (open_before-same one other old new f places files)
    ∙ ap (λ n. open_before other new f + n) (ap (λ (l : List ℕ). open_below (one f) (length l)) (files f) ∙ open_below-same (one f) (other f) (length (new f)) (places f))

-- the same files, with the same places open, are filled alike
pub filled_alike : (one other : ℕ → ℕ → Bool) (pick : List ℕ) (old was new is : Files) → ((f k : ℕ) → one f k ≡ other f k) → ((f : ℕ) → old f ≡ was f) → ((f : ℕ) → is f ≡ new f) → IsFilled one pick old new → IsFilled other pick was is
filled_alike one other pick old was new is places before after filled = record {
  lengths = λ f. ap length (after f) ∙ filled.lengths f ∙ ap length (before f);
  kept = λ f k shut. ap (λ (l : List ℕ). get_or l k 0) (after f) ∙ filled.kept f k (places f k ∙ shut) ∙ ap (λ (l : List ℕ). get_or l k 0) (before f);
  picked = λ f k lt set_is. ap (λ (l : List ℕ). get_or l k 0) (after f)
      ∙ filled.picked f k (subst (λ (l : List ℕ). k < length l) (sym (before f)) lt) (places f k ∙ set_is)
      ∙ ap (λ n. get_or pick (n + open_below (one f) k) 0) (open_before-same one other old was f places before)
      ∙ ap (λ n. get_or pick (open_before other was f + n) 0) (open_below-same (one f) (other f) k (places f));
}
