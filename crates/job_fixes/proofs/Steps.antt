-- One item more of a list.
use Rattle.std.proofs.Common.{◌≡◌, ◌+◌, ◌<◌, ℕ, suc, List, [], ◌∷◌, ◌++◌, length, take, drop, map, refl, sym, ap, ◌∙◌, get_or, append_assoc, append-nil, add-one, drop-cons}
use Rattle.std.specs.Prelude.{flat_map}
use Rattle.std.proofs.lemmas.List.{take_more}

module _ {A : Type 0} (xs : List A) (i : ℕ) (x : A) (within : i < length xs) (is : x ≡ get_or xs i x) where
  pub front : take (i + 1) xs ≡ take i xs ++ x ∷ []
  front = take_more xs i x within ∙ ap (λ (y : A). take i xs ++ y ∷ []) (sym is)

  pub back : drop i xs ≡ x ∷ drop (i + 1) xs
  back = drop-cons xs i x within ∙ (λ j. sym is j ∷ drop (sym (add-one i) j) xs)

pub map_on : {A B : Type 0} (f : A → B) (xs : List A) (x : A) → map f (xs ++ x ∷ []) ≡ map f xs ++ f x ∷ []
map_on f [] x = refl
map_on f (y ∷ xs) x = ap (λ (l : List _). f y ∷ l) (map_on f xs x)

pub flat_on : {A B : Type 0} (f : A → List B) (xs : List A) (x : A) → flat_map f (xs ++ x ∷ []) ≡ flat_map f xs ++ f x
flat_on f [] x = append-nil (f x)
flat_on f (y ∷ xs) x = ap (λ (l : List _). f y ++ l) (flat_on f xs x) ∙ sym (append_assoc (f y) (flat_map f xs) (f x))

pub map_length : {A B : Type 0} (f : A → B) (xs : List A) → length (map f xs) ≡ length xs
map_length f [] = refl
map_length f (x ∷ xs) = ap (λ (n : ℕ). suc n) (map_length f xs)
