-- What a call answers that may find no memory.
use Rattle.std.specs.Prelude.{◌≡◌, ◌⊎◌, Option, Some, None, Result, Ok, Err}

-- The answer is the expected one, or it says that there was no memory, which any call may say that takes some.
pub record Answers {T E : Type 0} (memory : E) (answer expected : Result T E) : Type 0 where
  pub is : (answer ≡ Err memory) ⊎ (answer ≡ expected)

-- the value goes into the next step, and a fault ends the whole: what `?` does
infixl 10 ◌>>=◌
abbrev pub ◌>>=◌ : {A B E : Type 0} → Result A E → (A → Result B E) → Result B E
(Ok x) >>= f = f x
(Err fault) >>= f = Err fault

-- an answer whose value is seen otherwise
abbrev pub on_ok : {A B E : Type 0} → (A → B) → Result A E → Result B E
on_ok f (Ok x) = Ok (f x)
on_ok f (Err fault) = Err fault

-- an answer whose fault is seen otherwise
abbrev pub on_err : {A E F : Type 0} → (E → F) → Result A E → Result A F
on_err f (Ok x) = Ok x
on_err f (Err fault) = Err (f fault)

-- the fault of an answer
abbrev pub fault_of : {A E : Type 0} → Result A E → Option E
fault_of (Ok x) = None
fault_of (Err fault) = Some fault
