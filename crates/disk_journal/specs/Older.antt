-- What the disk keeps of the generations before the newest. That their journals stay there is this project's own choice.
use Rattle.std.specs.Prelude.{◌≡◌, ◌≢◌, ◌<◌, ◌+◌, ◌*◌, ℕ, List, [], ◌∷◌, ◌++◌, length, get_or, map}
use Rattle.outside_api.specs.Disk.{Files}
use Rattle.disk_journal.specs.Text.{mark, blocks, AreGroups}
use Rattle.disk_journal.specs.Images.{Committed}

-- The file begins with these groups, each behind an open mark, and a mark that isn't open.
pub record IsClosed (groups : List (List ℕ)) (file : List ℕ) : Type 0 where
  pub are_groups : AreGroups groups
  pub byte : ℕ
  pub closed : byte ≢ 101
  pub behind : List ℕ
  pub is : file ≡ blocks groups ++ mark byte ++ behind

-- the groups of the generations from 0 on, each in its generation's file
abbrev pub AreOlder : List (List (List ℕ)) → Files → Type 0
AreOlder older files = (generation : ℕ) → generation < length older → IsClosed (get_or older generation []) (files (1 + 2 * generation))

-- the committed texts of these generations and of the newest
abbrev pub texts : List (List (List ℕ)) → Committed → List (List ℕ)
texts older was = map blocks (older ++ was.groups ∷ [])

-- the files before this one are the same, but for the root
abbrev pub SameBefore : ℕ → Files → Files → Type 0
SameBefore file old new = (f : ℕ) → 0 < f → f < file → new f ≡ old f
