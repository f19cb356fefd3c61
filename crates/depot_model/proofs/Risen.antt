-- Numbers of changes rise.
use Rattle.std.proofs.Common.{◌≡◌, ◌⊎◌, inl, inr, ℕ, zero, suc, ◌+◌, ◌<◌, ◌≤◌, Bool, true, false, not, ◌&&◌, eqb, cond, List, [], ◌∷◌, length, Option, Some, refl, sym, ap, subst, ◌∙◌, arith}
use Rattle.std.specs.Prelude.{IsSome, Contains, find, slice_index_or, max}
use Rattle.std.proofs.Math.Nat.{le-max_left, le-max_right}
use Rattle.std.proofs.lemmas.Bool.{eq-eqb, eqb-true, and_parts}
use Rattle.depot_model.specs.Deeds.{Deed, Spec, Guard, Group, Count, Pend, Drop, Open, Shut, Hold, Free, Got, Tag, Owe, Paid, Land, Landing}
use Rattle.depot_model.specs.Numbers.{top, pending, landings, landing}
use Rattle.depot_model.specs.Rules.{NotBoth}
use Rattle.depot_model.specs.Steps.Submitting.{landing_number}

same_or_less : (n : ℕ) → n ≤ n
same_or_less n = omega arith

pub never_falls : (d : List Deed) (deed : Deed) → top d ≤ top (deed ∷ d)
never_falls d (Spec kind name form) = same_or_less (top d)
never_falls d (Guard lines) = same_or_less (top d)
never_falls d (Group name users) = same_or_less (top d)
never_falls d (Count name value) = same_or_less (top d)
never_falls d (Pend p) = le-max_right p.change (top d)
never_falls d (Drop n) = same_or_less (top d)
never_falls d (Open o) = same_or_less (top d)
never_falls d (Shut held) = same_or_less (top d)
never_falls d (Hold held) = same_or_less (top d)
never_falls d (Free held) = same_or_less (top d)
never_falls d (Got held rev) = same_or_less (top d)
never_falls d (Tag label path rev) = same_or_less (top d)
never_falls d (Owe o) = same_or_less (top d)
never_falls d (Paid held from how) = same_or_less (top d)
never_falls d (Land l) = le-max_right l.change (top d)

through : {a b c : ℕ} → a ≤ b → b ≤ c → a ≤ c
through h k = omega arith

at_most : (d : List Deed) (l : Landing) (k : ℕ) → k < length (landings d) → slice_index_or (landings d) k l ≡ l → l.change ≤ top d
at_most [] l k low e = absurd (omega arith)
at_most (Land m ∷ d) l zero low e =
    let P : Landing → Type 0 = λ x. x.change ≤ max m.change (top d) in
    subst P e (le-max_left m.change (top d))
at_most (Land m ∷ d) l (suc k) low e = through (at_most d l k (omega arith) e) (le-max_right m.change (top d))
at_most (Pend p ∷ d) l k low e = through (at_most d l k low e) (le-max_right p.change (top d))
at_most (Spec kind name form ∷ d) l k low e = at_most d l k low e
at_most (Guard lines ∷ d) l k low e = at_most d l k low e
at_most (Group name users ∷ d) l k low e = at_most d l k low e
at_most (Count name value ∷ d) l k low e = at_most d l k low e
at_most (Drop n ∷ d) l k low e = at_most d l k low e
at_most (Open o ∷ d) l k low e = at_most d l k low e
at_most (Shut held ∷ d) l k low e = at_most d l k low e
at_most (Hold held ∷ d) l k low e = at_most d l k low e
at_most (Free held ∷ d) l k low e = at_most d l k low e
at_most (Got held rev ∷ d) l k low e = at_most d l k low e
at_most (Tag label path rev ∷ d) l k low e = at_most d l k low e
at_most (Owe o ∷ d) l k low e = at_most d l k low e
at_most (Paid held from how ∷ d) l k low e = at_most d l k low e

pub landed_at_most : (d : List Deed) (l : Landing) → Contains (landings d) l → l.change ≤ top d
landed_at_most d l h = at_most d l h.0 h.1 h.2

-- a change that landed is found by its number
some_first : (b : Bool) (l : Landing) (o : Option Landing) → IsSome o → IsSome (cond b (Some l) o)
some_first true l o h = refl
some_first false l o h = h

here : (b : Bool) (l : Landing) (o : Option Landing) → b ≡ true → IsSome (cond b (Some l) o)
here true l o e = refl
here false l o e = absurd cc

found : (ls : List Landing) (n : ℕ) (l : Landing) (k : ℕ) → l.change ≡ n → k < length ls → slice_index_or ls k l ≡ l →
    IsSome (find (λ (m : Landing). eqb m.change n) ls)
found [] n l k is low e = absurd (omega arith)
found (m ∷ ls) n l zero is low e =
    let same : m.change ≡ n = ap (λ (x : Landing). x.change) e ∙ is in
    here (eqb m.change n) m (find (λ (x : Landing). eqb x.change n) ls) (eq-eqb m.change n same)
found (m ∷ ls) n l (suc k) is low e = some_first (eqb m.change n) m (find (λ (x : Landing). eqb x.change n) ls) (found ls n l k is (omega arith) e)

has_landed : (d : List Deed) (n : ℕ) (l : Landing) → Contains (landings d) l → l.change ≡ n → IsSome (landing d n)
has_landed d n l h is = found (landings d) n l h.0 is h.1 h.2

-- less, where less or equal and not equal
less : (m n : ℕ) → m ≤ n → (m ≡ n → ⊥) → m < n
less zero zero low ne = absurd (ne refl)
less zero (suc n) low ne = omega arith
less (suc m) zero low ne = absurd (omega arith)
less (suc m) (suc n) low ne = let h : m < n = less m n (omega arith) (λ e. ne (ap suc e)) in omega (arith, h)

no_zero : (n : ℕ) → not (eqb n 0) ≡ true → n ≡ 0 → ⊥
no_zero zero e h = absurd cc
no_zero (suc n) e h = absurd cc

-- N is pending, so it didn't land
not_landed : (d : List Deed) (n : ℕ) (l : Landing) → NotBoth d → (n ≡ 0) ⊎ IsSome (pending d n) → not (eqb n 0) ≡ true →
    Contains (landings d) l → l.change ≡ n → ⊥
not_landed d n l apart (inl e) nonzero h is = no_zero n nonzero e
not_landed d n l apart (inr p) nonzero h is = apart n p (has_landed d n l h is)

by_number : (n t m : ℕ) (b : Bool) → (not (eqb n 0) && eqb n t) ≡ b → m ≤ t → (not (eqb n 0) ≡ true → m ≡ n → ⊥) → m < cond b n (t + 1)
by_number n t m false e low ne = omega arith
by_number n t m true e low ne =
    let nonzero = (and_parts (not (eqb n 0)) (eqb n t) e).0 in
    let is : n ≡ t = eqb-true n t (and_parts (not (eqb n 0)) (eqb n t) e).1 in
    less m n (let P : ℕ → Type 0 = λ x. m ≤ x in subst P (sym is) low) (ne nonzero)

pub lands_above : (d : List Deed) (n : ℕ) (l : Landing) → NotBoth d → (n ≡ 0) ⊎ IsSome (pending d n) → Contains (landings d) l →
    l.change < landing_number d n
lands_above d n l apart p h =
    by_number n (top d) l.change (not (eqb n 0) && eqb n (top d)) refl (landed_at_most d l h)
    (λ nonzero is. not_landed d n l apart p nonzero h is)
