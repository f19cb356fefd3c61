-- The seats of lanes that were made one after another, taken from the last on.
use Rattle.std.proofs.Common.{◌≡◌, ◌-◌, ◌≤◌, ℕ, suc, List, [], ◌∷◌, ◌++◌, refl, sym, ap, ◌∙◌, arith}
use Rattle.std.proofs.lemmas.List.{append_assoc}
use Rattle.locked_tables.specs.Known.{PartyKnown}
use Rattle.order_words.specs.Seats.{LaneState, Run, fresh_lane, fresh_lanes}
use Rattle.party_marks.specs.Known.{PassKnown}
use Rattle.shared_depot.specs.Sharing.{fresh_marks, fresh_passes}

no_more : {X : Type 0} (xs : List X) (x : X) → [] ≡ xs ++ x ∷ [] → ⊥
no_more [] x e = cc
no_more (y ∷ xs) x e = cc

-- lists that are one with an item behind each are one, and so are the items
same_ends : {X : Type 0} (xs ys : List X) (x y : X) → xs ++ x ∷ [] ≡ ys ++ y ∷ [] → (xs ≡ ys) × (x ≡ y)
same_ends [] [] x y e = let same : x ≡ y = cc in (refl, same)
same_ends [] (b ∷ ys) x y e = let rest : [] ≡ ys ++ y ∷ [] = cc in absurd (no_more ys y rest)
same_ends (a ∷ xs) [] x y e = let rest : [] ≡ xs ++ x ∷ [] = cc in absurd (no_more xs x rest)
same_ends (a ∷ xs) (b ∷ ys) x y e =
    let first : a ≡ b = cc in
    let rest : xs ++ x ∷ [] ≡ ys ++ y ∷ [] = cc in
    let both = same_ends xs ys x y rest in (λ i. first i ∷ both.0 i, both.1)

module _ {E : Type 0} (run : Run) (olds news : List (LaneState E)) (seat : LaneState E) (popped : olds ≡ news ++ seat ∷ []) where
  -- the last seat is that of the last lane
  pub last_seat : (n : ℕ) → olds ≡ fresh_lanes run (suc n) → (news ≡ fresh_lanes run n) × (seat ≡ fresh_lane run n)
  last_seat n is = same_ends news (fresh_lanes run n) seat (fresh_lane run n) (sym popped ∙ is)

-- the last pass for marks is that of the last party
pub last_mark : (olds news : List PassKnown) (pass : PassKnown) (count : ℕ) → 1 ≤ count → olds ≡ news ++ pass ∷ [] → olds ≡ fresh_marks count → (news ≡ fresh_marks (count - 1)) × (pass ≡ record { party = count; list = [] })
last_mark olds news pass count some popped is =
    let next : count ≡ suc (count - 1) = omega arith in
    let ends = same_ends news (fresh_marks (count - 1)) pass (record { party = suc (count - 1); list = [] }) (sym popped ∙ (is ∙ ap fresh_marks next)) in
    (ends.0, ends.1 ∙ ap (λ (n : ℕ). let p : PassKnown = record { party = n; list = [] } in p) (sym next))

-- one party more
pub passes_more : (before after : List PartyKnown) (count : ℕ) → 1 ≤ count → after ≡ before ++ fresh_passes (count - 1) → after ++ record { party = count; list = [] } ∷ [] ≡ before ++ fresh_passes count
passes_more before after count some is =
    let next : suc (count - 1) ≡ count = omega arith in
    ap (λ (l : List PartyKnown). l ++ record { party = count; list = [] } ∷ []) is
    ∙ (append_assoc before (fresh_passes (count - 1)) (record { party = count; list = [] } ∷ [])
    ∙ (ap (λ (n : ℕ). before ++ (fresh_passes (count - 1) ++ record { party = n; list = [] } ∷ [])) (sym next)
    ∙ ap (λ (n : ℕ). before ++ fresh_passes n) next))

pub marks_more : (before after : List PassKnown) (count : ℕ) → 1 ≤ count → after ≡ before ++ fresh_marks (count - 1) → after ++ record { party = count; list = [] } ∷ [] ≡ before ++ fresh_marks count
marks_more before after count some is =
    let next : suc (count - 1) ≡ count = omega arith in
    ap (λ (l : List PassKnown). l ++ record { party = count; list = [] } ∷ []) is
    ∙ (append_assoc before (fresh_marks (count - 1)) (record { party = count; list = [] } ∷ [])
    ∙ (ap (λ (n : ℕ). before ++ (fresh_marks (count - 1) ++ record { party = n; list = [] } ∷ [])) (sym next)
    ∙ ap (λ (n : ℕ). before ++ fresh_marks n) next))
