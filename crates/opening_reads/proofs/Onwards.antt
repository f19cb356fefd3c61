-- A loop over the items of a list that adds, for each, what it gives.
use Rattle.std.proofs.Common.{◌≡◌, ◌≤◌, ◌<◌, List, [], ◌∷◌, ◌++◌, Option, Some, None, get_or, drop, take, length, sym, ap, ◌∙◌, arith, append_assoc, append-nil}
use Rattle.std.proofs.lemmas.Grind.{common_steps}
use Rattle.std.specs.Prelude.{◌-◌, flat_map}
use Rattle.std.specs.List.{cons_option}

pub all_but_first : {A : Type 0} (first : A) (items : List A) → take (length (first ∷ items) - 1) (drop 1 (first ∷ items)) ≡ items
all_but_first first items = grind (arith, common_steps)

pub given_on : {A B : Type 0} (f : A → List B) (done new : List B) (items : List A) (item : A) → 1 ≤ length items → item ≡ get_or items 0 item → new ≡ done ++ f item
    → new ++ flat_map f (take (length items - 1) (drop 1 items)) ≡ done ++ flat_map f items
given_on f done new [] item some first is = absurd (omega arith)
given_on f done new (x ∷ items) item some first is =
    ap (λ l. new ++ flat_map f l) (all_but_first x items) ∙ ap (λ l. l ++ flat_map f items) (is ∙ ap (λ y. done ++ f y) first) ∙ append_assoc done (f x) (flat_map f items)

-- behind the last item
pub given_all : {A B : Type 0} (f : A → List B) (done all : List B) (items : List A) → length items < 1 → done ++ flat_map f items ≡ all → done ≡ all
given_all f done all [] few is = sym (append-nil done) ∙ is
given_all f done all (x ∷ items) few is = absurd (omega arith)

-- one more, where there is one
pub one_more : {A : Type 0} (xs : List A) (o : Option A) (ys : List A) → (xs ++ cons_option o []) ++ ys ≡ xs ++ cons_option o ys
one_more xs None ys = ap (λ (l : List _). l ++ ys) (append-nil xs)
one_more xs (Some x) ys = append_assoc xs (x ∷ []) ys
