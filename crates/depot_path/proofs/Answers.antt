-- How answers follow from one another. With `right`, `wanting`, `after` and `fails` in a function's `using(..)`
-- a chain of `?` under a contract of the form `Answers memory result (first >>= next)` proves itself.
use Rattle.std.proofs.Common.{◌≡◌, ◌⊎◌, inl, inr, refl, sym, ap, subst, Result, Ok, Err, Some, None}
use Rattle.depot_path.specs.Answers.{Answers, ◌>>=◌, on_ok, on_err, fault_of}

pub right : {A E : Type 0} (memory : E) (answer expected : Result A E) → answer ≡ expected → Answers memory answer expected
right memory answer expected e = record { is = inr e }

pub wanting : {A E : Type 0} (memory : E) (expected : Result A E) → Answers memory (Err memory) expected
wanting memory expected = record { is = inl refl }

-- the answer of a step that goes well goes into the next
pub after : {A B E : Type 0} (memory : E) (x : A) (first : Result A E) (f : A → Result B E) (answer : Result B E) →
    Answers memory (Ok x) first → Answers memory answer (f x) → Answers memory answer (first >>= f)
after memory x first f answer h k =
    elim h.is [
      | inl e ↦ cc
      | inr e ↦ let P : Result _ _ → Type 0 = λ r. Answers memory answer (r >>= f) in subst P e k
    ]

-- a step that fails fails the whole
pub fails : {A B E : Type 0} (memory fault : E) (first : Result A E) (f : A → Result B E) →
    Answers memory (Err fault) first → Answers memory (Err fault) (first >>= f)
fails memory fault first f h =
    elim h.is [
      | inl e ↦ record { is = inl (cc) }
      | inr e ↦ record { is = inr (ap (λ r. r >>= f) e) }
    ]

-- a step's answer at another type
pub same_fault : {A B E : Type 0} (memory fault other : E) → Answers {T = A} memory (Err fault) (Err other) → Answers {T = B} memory (Err fault) (Err other)
same_fault memory fault other h =
    elim h.is [
      | inl e ↦ record { is = inl (cc) }
      | inr e ↦ record { is = inr (cc) }
    ]

pub no_fault : {A E : Type 0} (memory : E) (x : A) (expected : Result A E) → Answers memory (Ok x) expected → fault_of expected ≡ None
no_fault memory x expected h = elim h.is [ inl e ↦ cc | inr e ↦ sym (ap fault_of e) ]

pub its_fault : {A E : Type 0} (memory fault : E) (expected : Result A E) → Answers memory (Err fault) expected → (fault ≡ memory) ⊎ (fault_of expected ≡ Some fault)
its_fault memory fault expected h = elim h.is [ inl e ↦ inl (cc) | inr e ↦ inr (sym (ap fault_of e)) ]

-- an answer whose value, or whose fault, is seen otherwise
pub seen : {A B E : Type 0} (f : A → B) (memory : E) (answer expected : Result A E) → Answers memory answer expected → Answers memory (on_ok f answer) (on_ok f expected)
seen f memory answer expected h =
    elim h.is [
      | inl e ↦ record { is = inl (ap (on_ok f) e) }
      | inr e ↦ record { is = inr (ap (on_ok f) e) }
    ]

pub told : {A E F : Type 0} (f : E → F) (memory : E) (answer expected : Result A E) → Answers memory answer expected → Answers (f memory) (on_err f answer) (on_err f expected)
told f memory answer expected h =
    elim h.is [
      | inl e ↦ record { is = inl (ap (on_err f) e) }
      | inr e ↦ record { is = inr (ap (on_err f) e) }
    ]
