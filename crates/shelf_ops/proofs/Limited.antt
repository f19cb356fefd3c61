-- How many forms deeds save, and how large the blocks in them are.
use Rattle.std.proofs.Common.{◌≡◌, ℕ, Bool, true, false, List, [], ◌∷◌, Some, length, ◌≤◌, ◌<◌, ◌+◌, refl, sym, ap, subst, ◌∙◌, take, drop, get_or, ◌-◌, arith, suc}
use Rattle.std.specs.Prelude.{map, nat_lt, sum}
use Rattle.std.proofs.lemmas.Bool.Decides.{nat_tests}
use Rattle.std.proofs.lemmas.List.{take_all}
use Rattle.std.proofs.lemmas.List.Sums.{sum-map, sum_by-cons}
use Rattle.depot_rows.specs.table_changes.Changed.{AllRows}
use Rattle.depot_rows.specs.depot_model.Deeds as model
use Rattle.depot_rows.specs.depot_model.Refusals.{refusal_row}
use Rattle.depot_rows.specs.depot_model.Step.{Step as ModelStep, refuse_if, unless}
use Rattle.depot_rows.specs.depot_model.Steps.Shelving.{size_in, within_forms}
use Rattle.depot_rows.specs.depot_model.declared.refusal.Limit.TheVariants.{Files, Shelf}
use Rattle.depot_rows.specs.depot_model.declared.refusal.Refusal.TheVariants.{OverLimit}
use Rattle.depot_rows.specs.depot_model.declared.reply.Row.{Row}
use Rattle.depot_rows.specs.Deed.{IsDeed}
use Rattle.depot_rows.specs.Effects.{Follow}
use Rattle.depot_rows.specs.declared.deed.Deed.{Deed}
use Rattle.depot_rows.specs.declared.deed.Deed.TheVariants.{Spec, Guard, Group, Count, Pend, Drop, Open, Shut, Hold, Free, Got, Tag, Owe, Paid, Land}
use Rattle.reply_rows.specs.declared.step.Step.{Step}
use Rattle.reply_rows.specs.Made.{IsMade, told}
use Rattle.reply_rows.proofs.Joined.{made_refusal}
use Rattle.shelf_ops.specs.Sizes.{size_by}

-- ---- the model's deeds

told_by : (told deed : model.Deed) → Some told ≡ Some deed → size_in told ≡ size_in deed
told_by told deed e = let one : told ≡ deed = cc in ap size_in one

one_size : (d : List model.Deed) (done : Deed) (deed : model.Deed) → IsDeed d done deed → size_by done ≡ size_in deed
one_size d (Spec kind name form) deed is = told_by _ deed is
one_size d (Guard lines) deed is = told_by _ deed is
one_size d (Group name users) deed is = told_by _ deed is
one_size d (Count name value) deed is = told_by _ deed is
one_size d (Pend p) deed is = told_by _ deed is
one_size d (Drop n) deed is = told_by _ deed is
one_size d (Open o) deed is = told_by _ deed is
one_size d (Shut held) deed is = told_by _ deed is
one_size d (Hold held) deed is = told_by _ deed is
one_size d (Free held) deed is = told_by _ deed is
one_size d (Got held rev) deed is = told_by _ deed is
one_size d (Tag label path rev) deed is = told_by _ deed is
one_size d (Owe o) deed is = told_by _ deed is
one_size d (Paid held from how) deed is = told_by _ deed is
one_size d (Land l) deed is = ap size_in is.1

same_sizes : (d : List model.Deed) (dones : List Deed) (deeds : List model.Deed) → Follow d dones deeds → map size_by dones ≡ map size_in deeds
same_sizes d [] [] f = refl
same_sizes d [] (x ∷ deeds) f = absurd f
same_sizes d (a ∷ dones) [] f = absurd f
same_sizes d (a ∷ dones) (x ∷ deeds) f = λ i. one_size d a x f.0 i ∷ same_sizes (x ∷ d) dones deeds f.2 i

as_many : (d : List model.Deed) (dones : List Deed) (deeds : List model.Deed) → Follow d dones deeds → length dones ≡ length deeds
as_many d [] [] f = refl
as_many d [] (x ∷ deeds) f = absurd f
as_many d (a ∷ dones) [] f = absurd f
as_many d (a ∷ dones) (x ∷ deeds) f = ap suc (as_many (x ∷ d) dones deeds f.2)

-- ---- the sum of sizes

pub too_large : (size left later all : ℕ) → left < size → all + left ≡ 16777216 + (size + later) → true ≡ nat_lt 16777216 all
too_large size left later all over is = over_it (omega (arith, over, is))
  where
    over_it : 16777216 < all → true ≡ nat_lt 16777216 all
    over_it h = grind (arith, nat_tests)

pub not_large : (left all : ℕ) → all + left ≡ 16777216 → false ≡ nat_lt 16777216 all
not_large left all is = within (omega (arith, is))
  where
    within : all ≤ 16777216 → false ≡ nat_lt 16777216 all
    within h = grind (arith, nat_tests)

with_first : (x : Deed) (rest : List Deed) → sum (map size_by (x ∷ rest)) ≡ size_by x + sum (map size_by rest)
with_first x rest = sum-map size_by (x ∷ rest) ∙ sum_by-cons size_by x rest ∙ ap (λ (m : ℕ). size_by x + m) (sym (sum-map size_by rest))

-- the first deed and the others
pub parted : (rest : List Deed) (x : Deed) → 1 ≤ length rest → x ≡ get_or rest 0 x
    → sum (map size_by rest) ≡ size_by x + sum (map size_by (take (length rest - 1) (drop 1 rest)))
parted [] x some is = absurd (omega arith)
parted (y ∷ rest) x some is =
    with_first y rest ∙ ap (λ (z : Deed). size_by z + sum (map size_by rest)) (sym is)
    ∙ ap (λ (l : List Deed). size_by x + sum (map size_by l)) (sym (take_all (length (y ∷ rest) - 1) rest (omega arith)))

pub none_left : (rest : List Deed) → length rest < 1 → sum (map size_by rest) ≡ 0
none_left [] few = refl
none_left (x ∷ rest) few = absurd (omega arith)

pub are_few : (n : ℕ) → n ≤ 10000 → false ≡ nat_lt 10000 n
are_few n h = grind (arith, nat_tests)

pub are_many : (n : ℕ) → 10000 < n → true ≡ nat_lt 10000 n
are_many n h = grind (arith, nat_tests)

-- ---- the limits

module _ (all : AllRows) (d e : List model.Deed) (m : ModelStep) (step : Step) (made : IsMade all d e m step) where
  abbrev tested : Bool → Bool → ModelStep
  tested many large = unless (refuse_if many (OverLimit Files) ∷ refuse_if large (OverLimit Shelf) ∷ []) m

  count_is : nat_lt 10000 (length step.deeds) ≡ nat_lt 10000 (length m.deeds)
  count_is = ap (nat_lt 10000) (as_many e step.deeds m.deeds made.deeds)

  size_is : nat_lt 16777216 (sum (map size_by step.deeds)) ≡ nat_lt 16777216 (sum (map size_in m.deeds))
  size_is = ap (λ (l : List ℕ). nat_lt 16777216 (sum l)) (same_sizes e step.deeds m.deeds made.deeds)

  pub over_count : true ≡ nat_lt 10000 (length step.deeds) → (row : Row) → row ≡ refusal_row (OverLimit Files) → (other : Step) → other ≡ told (row ∷ [])
      → IsMade all d e (within_forms m) other
  over_count over row why other is =
      subst (λ (b : Bool). IsMade all d e (tested b (nat_lt 16777216 (sum (map size_in m.deeds)))) other) (over ∙ count_is)
      (made_refusal all d e (OverLimit Files) row other why is)

  pub over_size : false ≡ nat_lt 10000 (length step.deeds) → true ≡ nat_lt 16777216 (sum (map size_by step.deeds)) → (row : Row) → row ≡ refusal_row (OverLimit Shelf)
      → (other : Step) → other ≡ told (row ∷ []) → IsMade all d e (within_forms m) other
  over_size few over row why other is =
      subst (λ (b : Bool). IsMade all d e (tested b (nat_lt 16777216 (sum (map size_in m.deeds)))) other) (few ∙ count_is)
      (subst (λ (b : Bool). IsMade all d e (tested false b) other) (over ∙ size_is) (made_refusal all d e (OverLimit Shelf) row other why is))

  pub within_both : false ≡ nat_lt 10000 (length step.deeds) → false ≡ nat_lt 16777216 (sum (map size_by step.deeds)) → IsMade all d e (within_forms m) step
  within_both few small =
      subst (λ (b : Bool). IsMade all d e (tested b (nat_lt 16777216 (sum (map size_in m.deeds)))) step) (few ∙ count_is)
      (subst (λ (b : Bool). IsMade all d e (tested false b) step) (small ∙ size_is) made)
