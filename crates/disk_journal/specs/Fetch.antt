-- What a fetch gives of a committed text, and how the text of a closed generation is measured.
use Rattle.std.specs.Prelude.{◌≡◌, ◌≢◌, ◌⊎◌, ◌<◌, ◌≤◌, ◌^◌, ℕ, List, ◌++◌, length, take, drop, min, Option, Some, None}
use Rattle.outside_api.specs.declared.link.Fetched.{Fetched}
use Rattle.outside_api.specs.declared.link.Fetched.TheVariants.{Bytes, End, Next}
use Rattle.disk_journal.specs.Text.{mark, blocks}
use Rattle.disk_journal.specs.Head.{HasBlock}

-- Bytes from the place on, as far as the buffer and the text go, and at least one; `none` exactly where none stands there.
abbrev pub Gives : List ℕ → ℕ → Fetched → ℕ → Fetched → List ℕ → Type 0
Gives text at none room (Bytes n) buffer = (0 < n) × (n ≡ min room (length (drop at text))) × (take n buffer ≡ take n (drop at text))
Gives text at none room End buffer = (length text ≤ at) × (none ≡ End)
Gives text at none room Next buffer = (length text ≤ at) × (none ≡ Next)

-- What was found at the front of some bytes: a block, and nothing at a mark that isn't open.
pub record IsBlockAt (bytes : List ℕ) (found : Option ℕ) : Type 0 where
  pub block : (n : ℕ) → HasBlock bytes n → n < 2 ^ 63 → found ≡ Some n
  pub closed : (byte : ℕ) (rest : List ℕ) → byte ≢ 101 → bytes ≡ mark byte ++ rest → found ≡ None

-- the length of the text of these groups, or of some of it that reaches far enough
abbrev pub ReachesTo : List (List ℕ) → ℕ → ℕ → Type 0
ReachesTo groups enough n = (n ≤ length (blocks groups)) × ((n ≡ length (blocks groups)) ⊎ (enough ≤ n))

-- this place lies behind some of the groups, each with its mark
pub record IsReached (groups : List (List ℕ)) (at : ℕ) : Type 0 where
  pub done : List (List ℕ)
  pub left : List (List ℕ)
  pub parts : groups ≡ done ++ left
  pub place : at ≡ length (blocks done)
