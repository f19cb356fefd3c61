-- What the search for the first element that passes a test finds, and what taking it away leaves.
use Rattle.std.proofs.Common.{◌≡◌, ℕ, zero, suc, Bool, true, false, cond, List, [], ◌∷◌, take, Option, Some, None, refl, sym, ap, ◌∙◌}
use Rattle.std.specs.Prelude.{find, remove, slice_get}

-- the first of the two, where the test of y says so
passes : {X : Type 0} (p : X → Bool) (y x : X) (rest : Option X) (b : Bool) → p y ≡ b → cond b (Some y) rest ≡ Some x → (rest ≡ Some x → p x ≡ true) → p x ≡ true
passes p y x rest true t e later = let same : y ≡ x = cc in ap p (sym same) ∙ t
passes p y x rest false t e later = later e

-- an element that is found passes the test
pub find-passes : {X : Type 0} (p : X → Bool) (xs : List X) (x : X) → find p xs ≡ Some x → p x ≡ true
find-passes p [] x e = absurd cc
find-passes p (y ∷ ys) x e = passes p y x (find p ys) (p y) refl e (find-passes p ys x)

-- a search is the same after an element is taken away that doesn't pass its test
pub find-remove : {X : Type 0} (q : X → Bool) (xs : List X) (i : ℕ) (x : X) → slice_get xs i ≡ Some x → q x ≡ false → find q (remove xs i) ≡ find q xs
find-remove q [] i x at e = absurd cc
find-remove q (y ∷ ys) zero x at e = let same : y ≡ x = cc in ap (λ b. cond b (Some y) (find q ys)) (sym (ap q same ∙ e))
find-remove q (y ∷ ys) (suc i) x at e = ap (λ rest. cond (q y) (Some y) rest) (find-remove q ys i x at e)

front_none : {X : Type 0} (y : X) (rest : Option X) (b : Bool) → cond b (Some y) rest ≡ None → (b ≡ false) × (rest ≡ None)
front_none y rest true e = absurd cc
front_none y rest false e = (refl, e)

-- where none of the first i is found, and the next passes, it is found
pub find-next : {X : Type 0} (p : X → Bool) (xs : List X) (i : ℕ) (x : X) → find p (take i xs) ≡ None → slice_get xs i ≡ Some x → p x ≡ true → find p xs ≡ Some x
find-next p [] i x none at pass = absurd cc
find-next p (y ∷ ys) zero x none at pass = let same : y ≡ x = cc in ap (λ b. cond b (Some y) (find p ys)) (ap p same ∙ pass) ∙ at
find-next p (y ∷ ys) (suc i) x none at pass =
    let front = front_none y (find p (take i ys)) (p y) none in
    ap (λ b. cond b (Some y) (find p ys)) front.0 ∙ find-next p ys i x front.1 at pass

-- where none of the first i is found, and the next fails, none of the first i + 1 is found
pub find-take_more : {X : Type 0} (p : X → Bool) (xs : List X) (i : ℕ) (x : X) → find p (take i xs) ≡ None → slice_get xs i ≡ Some x → p x ≡ false → find p (take (suc i) xs) ≡ None
find-take_more p [] i x none at fail = refl
find-take_more p (y ∷ ys) zero x none at fail = let same : y ≡ x = cc in ap (λ b. cond b (Some y) (find p [])) (ap p same ∙ fail)
find-take_more p (y ∷ ys) (suc i) x none at fail =
    let front = front_none y (find p (take i ys)) (p y) none in
    ap (λ b. cond b (Some y) (find p (take (suc i) ys))) front.0 ∙ find-take_more p ys i x front.1 at fail
