-- What follows from whether an option was given.
use Rattle.std.proofs.Common.{◌≡◌, refl, subst, ℕ, List, Option, Some, None, Result, Ok}
use Rattle.depot_path.specs.Answers.{◌>>=◌, Answers}
use Rattle.depot_path.proofs.Answers.{right}
use Rattle.depot_model.specs.declared.request.WordFault.{WordFault}
use Rattle.depot_model.specs.declared.request.WordFault.TheVariants.{Memory}
use Rattle.command_words.specs.Fields.{optional}

pub goes : {A : Type 0} (read : List ℕ → Result A WordFault) (value : Option (List ℕ)) (word : List ℕ) (answer : Result (Option A) WordFault) →
    Some word ≡ value → Answers Memory answer (read word >>= (λ x. Ok (Some x))) → Answers Memory answer (optional read value)
goes read value word answer h k = let P : Option (List ℕ) → Type 0 = λ v. Answers Memory answer (optional read v) in subst P h k

pub none : {A : Type 0} (read : List ℕ → Result A WordFault) (value : Option (List ℕ)) → None ≡ value → Answers Memory (Ok None) (optional read value)
none read value h = let P : Option (List ℕ) → Type 0 = λ v. Answers Memory (Ok None) (optional read v) in subst P h (right Memory _ _ refl)
