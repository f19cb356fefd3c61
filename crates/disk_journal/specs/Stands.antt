-- What a journal's disk may leave, by what is committed and what is in doubt.
use Rattle.std.specs.Prelude.{◌≡◌, ◌≤◌, ◌<◌, ◌+◌, ◌-◌, ◌^◌, ◌++◌, ℕ, List, length, take}
use Rattle.outside_api.specs.Disk.{Files}
use Rattle.outside_api.specs.Moments.{LeavesOnly}
use Rattle.outside_api.specs.Says.{DiskSays}
use Rattle.disk_journal.specs.Text.{AreGroups, IsGroup, blocks, mark}
use Rattle.disk_journal.specs.Images.{Committed, HasCommitted, HasEither, with_group, with_generation, IsAtRest, IsReady, IsOpening}
use Rattle.disk_journal.specs.declared.journal.Journal.{Journal}
use Rattle.disk_journal.specs.declared.journal.Prepared.{Prepared}
use Rattle.disk_journal.specs.declared.journal.Doubt.{Doubt}
use Rattle.disk_journal.specs.declared.journal.Doubt.TheVariants.{Nothing, Group, Generation}

-- the disk of a journal
abbrev pub disk_of : {D : Type 0} → Journal D → D
disk_of journal = journal.disk

-- the number of a journal's next group
abbrev pub next_number : {D : Type 0} → Journal D → ℕ
next_number journal = journal.end.groups + 1

-- its generation
abbrev pub generation_of_journal : {D : Type 0} → Journal D → ℕ
generation_of_journal journal = journal.end.generation

-- the group of a prepared text
abbrev pub group_of : Prepared → List ℕ
group_of prepared = take (length prepared.text - 5) prepared.text

-- a group of this number and a closed mark
pub record IsPrepared (number : ℕ) (prepared : Prepared) : Type 0 where
  pub is_group : IsGroup number (group_of prepared)
  pub text : prepared.text ≡ group_of prepared ++ mark 109

-- what may or may not count
pub data Doubtful : Type 0 where
  nothing : Doubtful
  group : List ℕ → Doubtful
  opening : List ℕ → Doubtful

-- the journal knows of it; a group has the number that follows
abbrev pub Knows : Doubtful → ℕ → Doubt → Type 0
Knows nothing number doubt = doubt ≡ Nothing
Knows (group g) number doubt = (doubt ≡ Group) × IsGroup number g
Knows (opening checkpoint) number doubt = doubt ≡ Generation

-- each image, by what is in doubt
abbrev pub IsImage : Committed → Doubtful → Files → Type 0
IsImage was nothing image = IsAtRest was image
IsImage was (group g) image = IsReady was g image
IsImage was (opening checkpoint) image = IsOpening was checkpoint image

-- what is committed, with or without what is in doubt
abbrev pub HasWithOrWithout : Committed → Doubtful → Files → Type 0
HasWithOrWithout was nothing image = HasCommitted was image
HasWithOrWithout was (group g) image = HasEither was (with_group was g) image
HasWithOrWithout was (opening checkpoint) image = HasEither was (with_generation was checkpoint) image

-- The journal's disk has what is committed and what is in doubt, in each image.
pub record Stands {D : Type 0} (disk_says : DiskSays D) (journal : Journal D) (was : Committed) (doubt : Doubtful) : Type 0 where
  pub generation : journal.end.generation ≡ was.generation
  pub are_groups : AreGroups was.groups
  pub count : journal.end.groups ≡ length was.groups
  pub length : journal.end.length ≡ length (blocks was.groups)
  pub known : Knows doubt (journal.end.groups + 1) journal.doubt
  pub each : (image : Files) → disk_says.may_leave journal.disk image → IsImage was doubt image
  -- what the layers above need of it
  pub holds : (image : Files) → disk_says.may_leave journal.disk image → HasWithOrWithout was doubt image

-- Nothing is in doubt, and no image since has anything else.
pub record IsStill {D : Type 0} (disk_says : DiskSays D) (old new : Journal D) (was : Committed) : Type 0 where
  pub stands : Stands disk_says new was nothing
  pub any_moment : LeavesOnly disk_says old.disk new.disk (HasCommitted was)

-- What a journal is made of: each image has the root, the checkpoint and the committed text, and a mark that isn't
-- open. The bound is that of a disk's files.
pub record CanBeAdopted {D : Type 0} (disk_says : DiskSays D) (disk : D) (generation groups length_of_text : ℕ) (was : Committed) : Type 0 where
  pub generation_is : generation ≡ was.generation
  pub last : was.generation ≤ 4095
  pub are_groups : AreGroups was.groups
  pub count : groups ≡ length was.groups
  pub length_is : length_of_text ≡ length (blocks was.groups)
  pub short : length_of_text + 5 < 2 ^ 63
  pub each : (image : Files) → disk_says.may_leave disk image → IsAtRest was image
