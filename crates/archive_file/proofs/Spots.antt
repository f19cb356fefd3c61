-- What a write leaves of the contents at other spots, and at its own.
use Rattle.std.proofs.Common.{◌≡◌, ℕ, ◌+◌, ◌≤◌, List, ◌++◌, length, take, drop, min, refl, sym, ◌∙◌, ap, arith, append_assoc, length-append, length-take}
use Rattle.std.proofs.lemmas.List.{take_at, drop_at, drop-take, take-take}
use Rattle.outside_api.specs.Disk.{Holds, Torn}
use Rattle.db_records.specs.declared.change.Spot.{Spot}
use Rattle.archive_file.specs.Archive.{end_of, Has}

-- bytes before a place, by what stands before it
pub front_of : (from n m : ℕ) (file : List ℕ) → from + n ≤ m → take n (drop from file) ≡ take n (drop from (take m file))
front_of from n m file le =
    sym (drop-take from n file) ∙ ap (λ (l : List ℕ). drop from l) (sym (take-take (from + n) m file le)) ∙ drop-take from n (take m file)

pub still_has : (at n : ℕ) (old new : List ℕ) (spot : Spot) (bytes : List ℕ) → end_of spot ≤ at → Torn at n old new → Has old spot bytes → Has new spot bytes
still_has at n old new spot bytes le torn has = record {
  within = omega (arith, has.within, torn.no_shorter);
  is =
      front_of spot.at spot.length (min at (length old)) new (omega (arith, has.within, le))
      ∙ ap (λ (l : List ℕ). take spot.length (drop spot.at l)) torn.before
      ∙ sym (front_of spot.at spot.length at old le)
      ∙ has.is;
}

pub has_written : (at : ℕ) (bytes old new : List ℕ) → at ≤ length old → Holds at bytes old new → Has new (record { at = at; length = length bytes }) bytes
has_written at bytes old new le holds =
    let front : length (take at old) ≡ at = omega (arith, length-take at old, le) in
    let rest = drop (at + length bytes) old in
    record {
      within = omega (arith, ap length holds, length-append (take at old ++ bytes) rest, length-append (take at old) bytes, front);
      is =
          ap (λ (l : List ℕ). take (length bytes) (drop at l)) (holds ∙ append_assoc (take at old) bytes rest)
          ∙ ap (λ (l : List ℕ). take (length bytes) l) (drop_at (take at old) (bytes ++ rest) at front)
          ∙ take_at bytes rest (length bytes) refl;
    }

pub still_read : (at : ℕ) (piece old new : List ℕ) (spot : Spot) (bytes : List ℕ) → end_of spot ≤ at → at ≤ length old → Holds at piece old new → Has old spot bytes → Has new spot bytes
still_read at piece old new spot bytes le within holds has =
    let front : length (take at old) ≡ at = omega (arith, length-take at old, within) in
    let rest = drop (at + length piece) old in
    let joined : new ≡ take at old ++ (piece ++ rest) = holds ∙ append_assoc (take at old) piece rest in
    let same : take at new ≡ take at old = ap (λ (l : List ℕ). take at l) joined ∙ take_at (take at old) (piece ++ rest) at front in
    record {
      within = omega (arith, le, ap length joined, length-append (take at old) (piece ++ rest), front);
      is =
          front_of spot.at spot.length at new le
          ∙ ap (λ (l : List ℕ). take spot.length (drop spot.at l)) same
          ∙ sym (front_of spot.at spot.length at old le)
          ∙ has.is;
    }
