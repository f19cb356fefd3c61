-- What is given piece by piece.
use Rattle.std.proofs.Common.{◌≡◌, ℕ, ◌<◌, ◌+◌, List, [], ◌∷◌, ◌++◌, length, take, drop, get_or, Option, Result, Ok, Err, refl, sym, ap, ◌∙◌, append_assoc, add-one, drop-cons, inl, inr}
use Rattle.std.specs.List.{flat_map}
use Rattle.std.proofs.lemmas.List.{take-append-drop}
use Rattle.outside_api.specs.Count.{HasCause}
use Rattle.outside_api.specs.Told.{extended}
use Rattle.wire_text.specs.Giving.{GotFront, GivesAll}
use Rattle.wire_text.proofs.Pieces.{front_behind, front_before}
use Rattle.end_lines.specs.Telling.{OutGot}

module _ {A : Type 0} (text_of : A → List ℕ) where
  texts-append : (xs ys : List A) → flat_map text_of (xs ++ ys) ≡ flat_map text_of xs ++ flat_map text_of ys
  texts-append [] ys = refl
  texts-append (x ∷ xs) ys = ap (λ (t : List ℕ). text_of x ++ t) (texts-append xs ys) ∙ sym (append_assoc (text_of x) (flat_map text_of xs) (flat_map text_of ys))

  -- a front of one text, behind those before it
  pub front_last : (before mid now : Option (List ℕ)) (xs ys : List A) (x : A) → mid ≡ extended before (flat_map text_of xs) → GotFront mid now (text_of x) → GotFront before now (flat_map text_of (xs ++ x ∷ ys))
  front_last before mid now xs ys x e got =
      rw (texts-append xs (x ∷ ys)) (front_behind before mid now (flat_map text_of xs) (text_of x ++ flat_map text_of ys) e (front_before mid now (text_of x) (flat_map text_of ys) got))

-- a list is what is before a place, what is at it, and what is behind it
pub parted : {A : Type 0} (xs : List A) (i : ℕ) (d : A) → i < length xs → take i xs ++ get_or xs i d ∷ drop (i + 1) xs ≡ xs
parted {A = A} xs i d lt = ap (λ (rest : List A). take i xs ++ rest) (sym (rw add-one (drop-cons xs i d lt))) ∙ take-append-drop i xs

-- what was given, or where it failed a front of it
pub got_lines : {E : Type 0} (before now : Option (List ℕ)) (faults_before faults_now : ℕ) (lines : List ℕ) (result : Result (Unit {0}) E) → GivesAll before now lines result → HasCause faults_before faults_now result → OutGot before now faults_before faults_now lines
got_lines before now faults_before faults_now lines (Ok x) gives cause = inl gives.whole
got_lines before now faults_before faults_now lines (Err x) gives cause = inr (cause.risen, gives.front)
