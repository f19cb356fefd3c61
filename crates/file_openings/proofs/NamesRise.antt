-- Names in their order, each once: those of which deeds speak.
use Rattle.std.proofs.Common.{◌≡◌, ℕ, Bool, true, false, List, [], ◌∷◌, Option, Some, None, refl, sym, ap, ◌∙◌}
use Rattle.std.specs.Prelude.{◌||◌, if◌then◌else◌}
use Rattle.std.specs.List.{list_any}
use Rattle.std.specs.Option.{option_map_or}
use Rattle.std.specs.Ordering.{is_eq, is_lt, nat_cmp, ordering_reverse}
use Rattle.std.specs.Cmp.{IsTotalOrder}
use Rattle.std.specs.Cmp.Lexicographic.{slice_cmp}
use Rattle.std.specs.declared.cmp.Ordering.{Ordering}
use Rattle.std.specs.declared.cmp.Ordering.TheVariants.{Less, Equal, Greater}
use Rattle.std.proofs.lemmas.Bool.{true≢false}
use Rattle.std.proofs.lemmas.Cmp.{nat_list_cmp_total}
use Rattle.std.proofs.lemmas.Map.Text.{is_eq-slice_cmp}
use Rattle.depot_rows.specs.depot_path.Bytes.{same}
use Rattle.depot_rows.specs.depot_model.Deeds.{Deed}
use Rattle.depot_rows.specs.depot_model.Latest.{keys_of}
use Rattle.depot_rows.specs.depot_model.Sorted.{inserted}
use Rattle.depot_rows.proofs.Keys.{same-is}

order : IsTotalOrder (slice_cmp nat_cmp)
order = nat_list_cmp_total

-- below all names of a list, and a list whose names rise
abbrev pub Below : List ℕ → List (List ℕ) → Type 0
Below c [] = Unit {0}
Below c (x ∷ xs) = (slice_cmp nat_cmp c x ≡ Less) × Below c xs

abbrev pub Rise : List (List ℕ) → Type 0
Rise [] = Unit {0}
Rise (c ∷ cs) = Below c cs × Rise cs

below_more : (c x : List ℕ) (xs : List (List ℕ)) → slice_cmp nat_cmp c x ≡ Less → Below x xs → Below c xs
below_more c x [] e b = tt
below_more c x (y ∷ ys) e b = (order.trans c x y e b.0, below_more c x ys e b.1)

less_is : (o : Ordering) → is_lt o ≡ true → o ≡ Less
less_is Less e = refl
less_is Equal e = absurd cc
less_is Greater e = absurd cc

-- of two names of which neither is the other nor before it, the other is before
after_it : (c x : List ℕ) → same c x ≡ false → is_lt (slice_cmp nat_cmp c x) ≡ false → slice_cmp nat_cmp x c ≡ Less
after_it c x apart late = order.antisymm x c ∙ go (slice_cmp nat_cmp c x) refl
  where
    go : (o : Ordering) → slice_cmp nat_cmp c x ≡ o → ordering_reverse o ≡ Less
    go Less e = absurd (true≢false (ap is_lt (sym e) ∙ late))
    go Equal e = absurd (true≢false (ap is_eq (sym e) ∙ is_eq-slice_cmp c x ∙ apart))
    go Greater e = refl

insert_below : (r c : List ℕ) (xs : List (List ℕ)) → slice_cmp nat_cmp r c ≡ Less → Below r xs → Below r (inserted c xs)
insert_below r c [] e b = (e, tt)
insert_below r c (x ∷ xs) e b = go (same c x) (is_lt (slice_cmp nat_cmp c x)) (insert_below r c xs e b.1)
  where
    go : (s t : Bool) → Below r (inserted c xs) → Below r (if s then x ∷ xs else (if t then c ∷ x ∷ xs else x ∷ inserted c xs))
    go true t rest = b
    go false true rest = (e, b)
    go false false rest = (b.0, rest)

insert_rises : (c : List ℕ) (xs : List (List ℕ)) → Rise xs → Rise (inserted c xs)
insert_rises c [] rise = (tt, tt)
insert_rises c (x ∷ xs) rise = go (same c x) refl (is_lt (slice_cmp nat_cmp c x)) refl (insert_rises c xs rise.1)
  where
    go : (s : Bool) → same c x ≡ s → (t : Bool) → is_lt (slice_cmp nat_cmp c x) ≡ t → Rise (inserted c xs)
        → Rise (if s then x ∷ xs else (if t then c ∷ x ∷ xs else x ∷ inserted c xs))
    go true e t f rest = rise
    go false e true f rest = let less = less_is (slice_cmp nat_cmp c x) f in ((less, below_more c x xs less rise.0), rise)
    go false e false f rest = (insert_below x c xs (after_it c x e f) rise.0, rest)

pub keys_rise : (reading : Deed → Option (List ℕ)) (d : List Deed) → Rise (keys_of reading d)
keys_rise reading [] = tt
keys_rise reading (deed ∷ d) = go (reading deed) (keys_rise reading d)
  where
    go : (key : Option (List ℕ)) → Rise (keys_of reading d) → Rise (option_map_or inserted key (λ keys. keys) (keys_of reading d))
    go None rise = rise
    go (Some c) rise = insert_rises c (keys_of reading d) rise

or_swap : (a b c : Bool) → (b || (a || c)) ≡ (a || (b || c))
or_swap true true c = refl
or_swap true false c = refl
or_swap false b c = refl

or_absorb : (a b : Bool) → (a || b) ≡ (a || (a || b))
or_absorb true b = refl
or_absorb false b = refl

pub in_inserted : (r c : List ℕ) (xs : List (List ℕ)) → list_any (same r) (inserted c xs) ≡ (same r c || list_any (same r) xs)
in_inserted r c [] = refl
in_inserted r c (x ∷ xs) = go (same c x) refl (is_lt (slice_cmp nat_cmp c x)) (in_inserted r c xs)
  where
    go : (s : Bool) → same c x ≡ s → (t : Bool) → list_any (same r) (inserted c xs) ≡ (same r c || list_any (same r) xs)
        → list_any (same r) (if s then x ∷ xs else (if t then c ∷ x ∷ xs else x ∷ inserted c xs)) ≡ (same r c || (same r x || list_any (same r) xs))
    go true e t more =
        let one : same r x ≡ same r c = ap (same r) (sym (same-is c x e)) in
        (λ i. one i || list_any (same r) xs) ∙ or_absorb (same r c) (list_any (same r) xs) ∙ (λ i. same r c || (sym one i || list_any (same r) xs))
    go false e true more = refl
    go false e false more = ap (λ b. same r x || b) more ∙ or_swap (same r c) (same r x) (list_any (same r) xs)
