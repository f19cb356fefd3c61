-- An open mark and a group's head at the front of some bytes.
use Rattle.std.specs.Prelude.{◌≡◌, ◌<◌, ◌^◌, ◌+◌, ℕ, List, ◌++◌, length}
use Rattle.disk_journal.specs.Text.{head, mark}

-- The bytes begin with an open mark and a head; with the records that the head promises these are n bytes.
pub record HasBlock (bytes : List ℕ) (n : ℕ) : Type 0 where
  pub number : ℕ
  pub size : ℕ
  pub rest : List ℕ
  pub small : number < 2 ^ 63
  pub begins : bytes ≡ mark 101 ++ (head number size ++ rest)
  pub long : n ≡ 5 + length (head number size) + size
