-- What a replica has taken of a generation is the front of its text.
use Rattle.std.proofs.Common.{◌≡◌, ℕ, zero, suc, ◌+◌, ◌≤◌, List, [], ◌∷◌, ◌++◌, length, take, drop, refl, sym, ◌∙◌, ap, subst, arith, append_assoc, length-append}
use Rattle.std.proofs.Math.Seq.{take-add}
use Rattle.std.proofs.lemmas.List.{append-nil, take-append-drop, take-append-le, length-take-le}
use Rattle.outside_api.specs.Link.{text_of, IsEarlier}
use Rattle.depot_rows.specs.depot_model.declared.filter.FilterRule.{FilterRule}
use Rattle.journal_groups.specs.Groups.{groups_text}
use Rattle.replica_pull.specs.Replica.{HasPassed, HasTakenPiece, IsNew, IsOfText}
use Rattle.replica_pull.specs.declared.replica.Replica.{Replica}
use Rattle.replica_pull.proofs.Taking.{groups_joined}

nothing : (r : Replica) (text : List ℕ) → r.at ≡ 0 → r.rest ≡ [] → r.number ≡ 1 → IsOfText r text
nothing r text at rest number = record {
  groups = [];
  within = omega (arith, at);
  is = ap (λ (n : ℕ). take n text) at ∙ sym rest;
  number = number;
}

pub begun : (rules : List FilterRule) (r : Replica) (text : List ℕ) → IsNew rules r → IsOfText r text
begun rules r text new = nothing r text new.at new.rest new.number

pub passed : (old new : Replica) (text : List ℕ) → HasPassed old new → IsOfText new text
passed old new text has = nothing new text has.at has.rest has.number

pub longer : (r : Replica) (text more : List ℕ) → IsOfText r text → IsOfText r (text ++ more)
longer r text more of = record {
  groups = of.groups;
  within = omega (arith, of.within, length-append text more);
  is = take-append-le r.at text more of.within ∙ of.is;
  number = of.number;
}

pub taken : (old new : Replica) (text buffer : List ℕ) (n count : ℕ) → IsOfText old text → n ≤ length (drop old.at text) → take n buffer ≡ take n (drop old.at text) → HasTakenPiece old (take n buffer) count new → IsOfText new text
taken old new text buffer n count of room same has =
    let piece = take n buffer in
    let long : length piece ≡ n = ap length same ∙ length-take-le n (drop old.at text) room in
    let at : new.at ≡ old.at + n = has.at ∙ ap (λ (k : ℕ). old.at + k) long in
    let front = groups_text 1 of.groups in
    let more = groups_text old.number has.groups in
    record {
      groups = of.groups ++ has.groups;
      within = omega (arith, at, room, of.within, ap length (take-append-drop old.at text), length-append (take old.at text) (drop old.at text), length-take-le old.at text of.within);
      is = ap (λ (k : ℕ). take k text) at
          ∙ take-add old.at n text
          ∙ (λ i. of.is i ++ sym same i)
          ∙ append_assoc front old.rest piece
          ∙ ap (λ (l : List ℕ). front ++ l) has.are.text
          ∙ sym (append_assoc front more new.rest)
          ∙ ap (λ (k : ℕ). (front ++ groups_text k has.groups) ++ new.rest) of.number
          ∙ ap (λ (l : List ℕ). l ++ new.rest) (sym (groups_joined 1 of.groups has.groups));
      number = omega (arith, has.are.number, of.number, length-append of.groups has.groups);
    }

-- a text of an earlier journal is the front of the text now
front_now : (now : List (List ℕ)) (newest bytes g : ℕ) → (more : List ℕ) × (text_of now g ≡ text_of (take newest now ++ take bytes (text_of now newest) ∷ []) g ++ more)
front_now now zero bytes zero = (drop bytes (text_of now zero), sym (take-append-drop bytes (text_of now zero)))
front_now now zero bytes (suc g) = (text_of now (suc g), refl)
front_now [] (suc newest) bytes zero = (drop bytes [], sym (take-append-drop bytes []))
front_now [] (suc newest) bytes (suc g) = ([], refl)
front_now (text ∷ now) (suc newest) bytes zero = ([], sym (append-nil text))
front_now (text ∷ now) (suc newest) bytes (suc g) = front_now now newest bytes g

pub earlier_front : (earlier now : List (List ℕ)) (g : ℕ) → IsEarlier earlier now → (more : List ℕ) × (text_of now g ≡ text_of earlier g ++ more)
earlier_front earlier now g is = subst (λ (j : List (List ℕ)). (more : List ℕ) × (text_of now g ≡ text_of j g ++ more)) (sym is.is) (front_now now is.newest is.bytes g)
