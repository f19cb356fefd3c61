-- What a read of a file that begins with a text gives of the text.
use Rattle.std.proofs.Common.{◌≡◌, inl, inr, ℕ, ◌+◌, ◌-◌, ◌^◌, ◌<◌, ◌≤◌, min, List, ◌++◌, length, take, drop, sym, ◌∙◌, ap, arith, length-append, length-take, length-drop}
use Rattle.std.proofs.lemmas.List.{take-append-le, drop-append-le}
use Rattle.disk_journal.specs.Text.{blocks}
use Rattle.disk_journal.specs.Fetch.{ReachesTo}

pub text_read : (text rest file part behind : List ℕ) (at buffer room n : ℕ) → file ≡ text ++ rest → at < length text → 0 < buffer → room ≡ min buffer (length text - at) → length part ≡ room → n ≤ room → take n part ≡ take room (drop at file)
    → (0 < n) × (n ≡ min buffer (length (drop at text))) × (take n (part ++ behind) ≡ take n (drop at text))
text_read text rest file part behind at buffer room n file_is before some room_is part_is le bytes =
    let there : length (drop at text) ≡ length text - at = length-drop at text in
    let reach : length (drop at file) ≡ length text + length rest - at = length-drop at file ∙ ap (λ m. m - at) (ap length file_is ∙ length-append text rest) in
    let all : n ≡ room = omega (arith, ap length bytes, length-take n part, length-take room (drop at file), reach, part_is, room_is, le, before) in (
      omega (arith, all, room_is, before, some),
      omega (arith, all, room_is, there),
      take-append-le n part behind (omega (arith, le, part_is)) ∙ bytes ∙ ap (λ (l : List ℕ). take room (drop at l)) file_is ∙ ap (λ (l : List ℕ). take room l) (drop-append-le at text rest (omega (arith, before)))
          ∙ take-append-le room (drop at text) rest (omega (arith, room_is, there)) ∙ ap (λ m. take m (drop at text)) (sym all),
    )

-- a length that reaches as far as a buffer does, of a text of which none, or some, stands there
module _ (groups : List (List ℕ)) (enough n at : ℕ) where
  pub at_end : (room : ℕ) → ReachesTo groups enough n → length (blocks groups) < 2 ^ 63 → min (at + room) 18446744073709551615 ≤ enough → 0 < room → n ≤ at → length (blocks groups) ≤ at
  at_end room reaches small far some le = elim reaches.1 [
    | inl all ↦ omega (arith, all, le)
    | inr past ↦ absurd (omega (arith, reaches.0, past, small, far, some, le))
  ]

  pub before_end : ReachesTo groups enough n → at < n → at < length (blocks groups)
  before_end reaches lt = omega (arith, reaches.0, lt)

  pub same_room : (room : ℕ) → ReachesTo groups enough n → length (blocks groups) < 2 ^ 63 → min (at + room) 18446744073709551615 ≤ enough → at < n → min room (n - at) ≡ min room (length (blocks groups) - at)
  same_room room reaches small far lt = elim reaches.1 [
    | inl all ↦ ap (λ m. min room (m - at)) all
    | inr past ↦ omega (arith, reaches.0, past, small, far, lt)
  ]
