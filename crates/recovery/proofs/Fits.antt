-- Changes one after another.
use Rattle.std.proofs.Common.{◌≡◌, ℕ, ◌+◌, ◌<◌, List, [], ◌∷◌, ◌++◌, length, take, drop, get_or, refl, sym, ◌∙◌, ap, subst, append_assoc}
use Rattle.std.proofs.lemmas.List.{take_more, take-append-drop}
use Rattle.depot_rows.specs.db_records.declared.change.Change.{Change}
use Rattle.depot_rows.specs.table_changes.Changed.{AllRows, FitsIn, AllFitIn, changed_in, changed_by}
use Rattle.recovery.specs.Holding.{joined}

pub changed_joined : (rows : AllRows) (xs ys : List Change) → changed_by rows (xs ++ ys) ≡ changed_by (changed_by rows xs) ys
changed_joined rows [] ys = refl
changed_joined rows (x ∷ xs) ys = changed_joined (changed_in rows x) xs ys

pub fits_joined : (rows : AllRows) (xs ys : List Change) → AllFitIn rows xs → AllFitIn (changed_by rows xs) ys → AllFitIn rows (xs ++ ys)
fits_joined rows [] ys first then = then
fits_joined rows (x ∷ xs) ys first then = (first.0, fits_joined (changed_in rows x) xs ys first.1 then)

pub fits_front : (rows : AllRows) (xs ys : List Change) → AllFitIn rows (xs ++ ys) → AllFitIn rows xs
fits_front rows [] ys fit = tt
fits_front rows (x ∷ xs) ys fit = (fit.0, fits_front (changed_in rows x) xs ys fit.1)

pub fits_behind : (rows : AllRows) (xs ys : List Change) → AllFitIn rows (xs ++ ys) → AllFitIn (changed_by rows xs) ys
fits_behind rows [] ys fit = fit
fits_behind rows (x ∷ xs) ys fit = fits_behind (changed_in rows x) xs ys fit.1

pub joined_append : (xs ys : List (List Change)) → joined (xs ++ ys) ≡ joined xs ++ joined ys
joined_append [] ys = refl
joined_append (x ∷ xs) ys = ap (λ (l : List Change). x ++ l) (joined_append xs ys) ∙ sym (append_assoc x (joined xs) (joined ys))

-- one change more
pub fits_more : (rows : AllRows) (changes : List Change) (i : ℕ) (change : Change) → i < length changes → change ≡ get_or changes i change → AllFitIn rows (take i changes) → FitsIn (changed_by rows (take i changes)) change → AllFitIn rows (take (i + 1) changes)
fits_more rows changes i change within is before fits =
    subst (AllFitIn rows) (sym (take_more changes i change within ∙ ap (λ (c : Change). take i changes ++ c ∷ []) (sym is))) (fits_joined rows (take i changes) (change ∷ []) before (fits, tt))

pub fitted_more : (rows : AllRows) (changes : List Change) (i : ℕ) (change : Change) → i < length changes → change ≡ get_or changes i change → AllFitIn rows (take (i + 1) changes) → FitsIn (changed_by rows (take i changes)) change
fitted_more rows changes i change within is fit =
    (fits_behind rows (take i changes) (change ∷ []) (subst (AllFitIn rows) (take_more changes i change within ∙ ap (λ (c : Change). take i changes ++ c ∷ []) (sym is)) fit)).0

pub changed_more : (rows : AllRows) (changes : List Change) (i : ℕ) (change : Change) → i < length changes → change ≡ get_or changes i change → changed_by rows (take (i + 1) changes) ≡ changed_in (changed_by rows (take i changes)) change
changed_more rows changes i change within is =
    ap (changed_by rows) (take_more changes i change within ∙ ap (λ (c : Change). take i changes ++ c ∷ []) (sym is)) ∙ changed_joined rows (take i changes) (change ∷ [])

-- the first of changes that fit do
pub fits_taken : (rows : AllRows) (n : ℕ) (changes : List Change) → AllFitIn rows changes → AllFitIn rows (take n changes)
fits_taken rows n changes fit = fits_front rows (take n changes) (drop n changes) (subst (AllFitIn rows) (sym (take-append-drop n changes)) fit)
