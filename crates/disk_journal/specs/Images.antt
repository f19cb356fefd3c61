-- What an image of the journal's disk holds.
use Rattle.std.specs.Prelude.{◌≡◌, ◌≢◌, ◌⊎◌, ℕ, suc, ◌+◌, ◌*◌, List, [], ◌∷◌, ◌++◌, length, replicate, ◌==◌, if◌then◌else◌}
use Rattle.outside_api.specs.Disk.{Files}
use Rattle.disk_journal.specs.Text.{mark, blocks, AreGroups}

-- a generation, the bytes of its checkpoint, and the groups of its journal
pub record Committed : Type 0 where
  pub generation : ℕ
  pub checkpoint : List ℕ
  pub groups : List (List ℕ)

-- one group more
abbrev pub with_group : Committed → List ℕ → Committed
with_group was group = record { generation = was.generation; checkpoint = was.checkpoint; groups = was.groups ++ group ∷ [] }

-- the number of leading open bytes of the root
abbrev pub generation_of : List ℕ → ℕ
generation_of [] = 0
generation_of (byte ∷ root) = if byte == 101 then suc (generation_of root) else 0

-- the next generation, with this checkpoint
abbrev pub with_generation : Committed → List ℕ → Committed
with_generation was checkpoint = record { generation = was.generation + 1; checkpoint = checkpoint; groups = [] }

-- the file begins with the text; what follows is ignored
pub record Begins (text file : List ℕ) : Type 0 where
  pub behind : List ℕ
  pub is : file ≡ text ++ behind

-- what is behind the open bytes of a root: nothing, or a byte that isn't open and closed ones
abbrev pub IsTail : List ℕ → Type 0
IsTail [] = Unit {0}
IsTail (byte ∷ rest) = (byte ≢ 101) × (rest ≡ replicate (length rest) 109)

-- the root of a generation
pub record IsRoot (generation : ℕ) (root : List ℕ) : Type 0 where
  pub tail : List ℕ
  pub is : root ≡ replicate generation 101 ++ tail
  pub shut : IsTail tail
  pub long : length root ≡ 4095

-- the checkpoint, and the journal's file: the committed text, a mark with this byte, and what is behind it
pub record HasForm (was : Committed) (byte : ℕ) (behind : List ℕ) (image : Files) : Type 0 where
  pub checkpoint : Begins was.checkpoint (image (2 + 2 * was.generation))
  pub file : image (1 + 2 * was.generation) ≡ blocks was.groups ++ mark byte ++ behind

-- a mark that isn't open, and anything behind it
pub record IsAtRest (was : Committed) (image : Files) : Type 0 where
  pub root : IsRoot was.generation (image 0)
  pub byte : ℕ
  pub closed : byte ≢ 101
  pub behind : List ℕ
  pub form : HasForm was byte behind image

-- The image is of that generation, with that checkpoint and those groups, and nothing is in doubt in it.
pub record HasCommitted (was : Committed) (image : Files) : Type 0 where
  pub rest : IsAtRest was image
  pub root : generation_of (image 0) ≡ was.generation
  pub are_groups : AreGroups was.groups

-- the one or the other
abbrev pub HasEither : Committed → Committed → Files → Type 0
HasEither one other image = HasCommitted one image ⊎ HasCommitted other image

-- a mark with any byte, and behind it a group and a closed mark
pub record IsReady (was : Committed) (group : List ℕ) (image : Files) : Type 0 where
  pub root : IsRoot was.generation (image 0)
  pub byte : ℕ
  pub behind : List ℕ
  pub form : HasForm was byte (group ++ mark 109 ++ behind) image

-- The files of the next generation: its checkpoint, and a closed mark.
pub record HasNext (was : Committed) (checkpoint : List ℕ) (image : Files) : Type 0 where
  pub next_checkpoint : Begins checkpoint (image (4 + 2 * was.generation))
  pub next_journal : Begins (mark 109) (image (3 + 2 * was.generation))

-- the root with any byte at its mark, and closed ones behind it
pub record IsRootWith (generation byte : ℕ) (root : List ℕ) : Type 0 where
  pub rest : List ℕ
  pub is : root ≡ replicate generation 101 ++ byte ∷ rest
  pub all_closed : rest ≡ replicate (length rest) 109
  pub long : length root ≡ 4095

-- any byte at the root's mark, a journal at rest, and the next generation's files
pub record IsOpening (was : Committed) (checkpoint : List ℕ) (image : Files) : Type 0 where
  pub root_byte : ℕ
  pub root : IsRootWith was.generation root_byte (image 0)
  pub byte : ℕ
  pub closed : byte ≢ 101
  pub behind : List ℕ
  pub form : HasForm was byte behind image
  pub next : HasNext was checkpoint image
