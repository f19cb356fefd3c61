-- A number grows with its digits.
use Rattle.std.proofs.Common.{◌≡◌, ℕ, suc, ◌<◌, ◌≤◌, None, length, drop, List, [], ◌∷◌, fold, get_or, sym, ap, ◌∙◌, arith}
use Rattle.std.proofs.Math.Seq.{drop-cons}
use Rattle.depot_path.specs.Digits.{with_digit, number_of, up_to}

grows : (n : ℕ) (digits : List ℕ) → n ≤ fold with_digit n digits
grows n [] = omega arith
grows n (d ∷ digits) = let h : with_digit n d ≤ fold with_digit (with_digit n d) digits = grows (with_digit n d) digits in omega arith

le_none : (most n m : ℕ) → n ≤ m → None ≡ up_to most n → None ≡ up_to most m
le_none most n m h e = grind arith

-- where the number with the next digit is above the limit, that with all the others is
pub too_great : (most : ℕ) (digits : List ℕ) (n i : ℕ) → i < length digits → fold with_digit n (drop i digits) ≡ number_of digits →
    None ≡ up_to most (with_digit n (get_or digits i 0)) → None ≡ up_to most (number_of digits)
too_great most digits n i low e great =
    let next : number_of digits ≡ fold with_digit (with_digit n (get_or digits i 0)) (drop (suc i) digits) =
    sym e ∙ ap (λ ds. fold with_digit n ds) (drop-cons digits i 0 low) in
    let grown : with_digit n (get_or digits i 0) ≤ number_of digits = omega (arith, next, grows (with_digit n (get_or digits i 0)) (drop (suc i) digits)) in
    le_none most (with_digit n (get_or digits i 0)) (number_of digits) grown great
