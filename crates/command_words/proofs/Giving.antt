-- What holds of the value that an answer gives.
use Rattle.std.proofs.Common.{◌≡◌, refl, Bool, true, false, ◌&&◌, Result, Ok, Err, IfOk, if◌then◌else◌}
use Rattle.std.proofs.lemmas.Result.{IfOk-at_ok}
use Rattle.depot_path.specs.Answers.{◌>>=◌}

pub record Gives {A E : Type 0} (P : A → Type 0) (answer : Result A E) : Type 0 where
  pub value : IfOk answer P

-- the test holds of what is given
abbrev pub Passes : {A E : Type 0} → (A → Bool) → Result A E → Type 0
Passes test answer = Gives (λ x. test x ≡ true) answer

pub both : (a b : Bool) → a ≡ true → b ≡ true → a && b ≡ true
both true b h k = k
both false b h k = h

pub first_of_both : (a b : Bool) → a && b ≡ true → a ≡ true
first_of_both true b h = refl
first_of_both false b h = h

pub second_of_both : (a b : Bool) → a && b ≡ true → b ≡ true
second_of_both true b h = h
second_of_both false b h = cc

-- ---- answers

pub gives : {A E : Type 0} (P : A → Type 0) (x : A) → P x → Gives {E = E} P (Ok x)
gives P x h = record { value = h }

pub refused : {A E : Type 0} (P : A → Type 0) (fault : E) → Gives P (Err fault)
refused P fault = record { value = tt }

pub after_it : {A B E : Type 0} (P : A → Type 0) (Q : B → Type 0) (first : Result A E) (f : A → Result B E) →
    Gives P first → ((x : A) → P x → Gives Q (f x)) → Gives Q (first >>= f)
after_it P Q (Ok x) f h k = k x h.value
after_it P Q (Err fault) f h k = record { value = tt }

pub after_any : {A B E : Type 0} (Q : B → Type 0) (first : Result A E) (f : A → Result B E) → ((x : A) → Gives Q (f x)) → Gives Q (first >>= f)
after_any Q (Ok x) f k = k x
after_any Q (Err fault) f k = record { value = tt }

pub given_where : {A E : Type 0} (P : A → Type 0) (b : Bool) (x : A) (fault : E) → (b ≡ true → P x) → Gives P (if b then Ok x else Err fault)
given_where P true x fault h = record { value = h refl }
given_where P false x fault h = record { value = tt }

pub refused_where : {A E : Type 0} (P : A → Type 0) (b : Bool) (fault : E) (answer : Result A E) → (b ≡ false → Gives P answer) → Gives P (if b then Err fault else answer)
refused_where P true fault answer h = record { value = tt }
refused_where P false fault answer h = h refl

pub weaker : {A E : Type 0} (P Q : A → Type 0) (answer : Result A E) → ((x : A) → P x → Q x) → Gives P answer → Gives Q answer
weaker P Q (Ok x) h k = record { value = h x k.value }
weaker P Q (Err fault) h k = record { value = tt }

pub taken_where : {A E : Type 0} (P : A → Type 0) (b : Bool) (answer : Result A E) (fault : E) → (b ≡ true → Gives P answer) → Gives P (if b then answer else Err fault)
taken_where P true answer fault h = h refl
taken_where P false answer fault h = record { value = tt }

pub is_given : {A E : Type 0} (P : A → Type 0) (answer : Result A E) (x : A) → answer ≡ Ok x → Gives P answer → P x
is_given P answer x e h = IfOk-at_ok P e h.value
