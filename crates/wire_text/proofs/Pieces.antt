-- Giving a piece, part by part.
use Rattle.std.proofs.Common.{◌≡◌, ℕ, ◌+◌, ◌<◌, List, [], ◌++◌, length, length-drop, length-append, take, drop, Option, Some, None, Result, Ok, Err, refl, sym, ap, ◌∙◌, arith, append_assoc}
use Rattle.std.proofs.lemmas.List.{append-nil, take-append-drop, drop-take}
use Rattle.std.proofs.lemmas.Grind.{common_steps}
use Rattle.outside_api.specs.Told.{extended}
use Rattle.wire_text.specs.Giving.{IsProperFront, GotFront, GivesAll}

pub extended-extended : (o : Option (List ℕ)) (a b : List ℕ) → extended (extended o a) b ≡ extended o (a ++ b)
extended-extended None a b = refl
extended-extended (Some bytes) a b = ap Some (append_assoc bytes a b)

pub extended-nil : (o : Option (List ℕ)) → extended o [] ≡ o
extended-nil None = refl
extended-nil (Some bytes) = ap Some (append-nil bytes)

-- the part that is left
pub left_is : (piece : List ℕ) (at : ℕ) → at < length piece → IsProperFront (take at piece) piece
left_is piece at lt = record {
  rest = drop at piece;
  some = omega (arith, length-drop at piece);
  whole = sym (take-append-drop at piece);
}

-- a front of a second piece, behind the first
pub front_behind : (before mid after : Option (List ℕ)) (a b : List ℕ) → mid ≡ extended before a → GotFront mid after b → GotFront before after (a ++ b)
front_behind before mid after a b e got = (
  a ++ got.0,
  record { rest = got.1.rest; some = got.1.some; whole = ap (λ (x : List ℕ). a ++ x) got.1.whole ∙ sym (append_assoc a got.0 got.1.rest) },
  got.2 ∙ (ap (λ (o : Option (List ℕ)). extended o got.0) e ∙ extended-extended before a got.0),
)

-- a front of the first piece
pub front_before : (before after : Option (List ℕ)) (a b : List ℕ) → GotFront before after a → GotFront before after (a ++ b)
front_before before after a b got = (
  got.0,
  record { rest = got.1.rest ++ b; some = omega (arith, got.1.some, length-append got.1.rest b); whole = ap (λ (x : List ℕ). x ++ b) got.1.whole ∙ append_assoc got.0 got.1.rest b },
  got.2,
)

-- both pieces
pub both : (before mid after : Option (List ℕ)) (a b : List ℕ) → mid ≡ extended before a → after ≡ extended mid b → after ≡ extended before (a ++ b)
both before mid after a b e f = f ∙ (ap (λ (o : Option (List ℕ)). extended o b) e ∙ extended-extended before a b)

pub then_all : {E : Type 0} (before mid after : Option (List ℕ)) (a b : List ℕ) (r : Result (Unit {0}) E) → mid ≡ extended before a → GivesAll mid after b r → GivesAll before after (a ++ b) r
then_all before mid after a b (Ok x) e g = record { whole = both before mid after a b e g.whole; front = tt }
then_all before mid after a b (Err x) e g = record { whole = tt; front = front_behind before mid after a b e g.front }

pub first_failed : {E : Type 0} (before after : Option (List ℕ)) (a b : List ℕ) (x : E) → GivesAll before after a (Err x) → GivesAll before after (a ++ b) (Err x)
first_failed before after a b x g = record { whole = tt; front = front_before before after a b g.front }

take_shorter : (at count : ℕ) (piece : List ℕ) → take at (take (at + count) piece) ≡ take at piece
take_shorter at count piece = grind (arith, common_steps)

take_part : (at count : ℕ) (piece : List ℕ) → take at piece ++ take count (drop at piece) ≡ take (at + count) piece
take_part at count piece =
    ap (λ (x : List ℕ). take at piece ++ x) (sym (drop-take at count piece))
    ∙ (ap (λ (x : List ℕ). x ++ drop at (take (at + count) piece)) (sym (take_shorter at count piece))
    ∙ take-append-drop at (take (at + count) piece))

-- one more part of a piece
pub part_more : (before mid after : Option (List ℕ)) (piece : List ℕ) (at count : ℕ) → mid ≡ extended before (take at piece) → after ≡ extended mid (take count (drop at piece)) → after ≡ extended before (take (at + count) piece)
part_more before mid after piece at count e f = both before mid after (take at piece) (take count (drop at piece)) e f ∙ ap (extended before) (take_part at count piece)
