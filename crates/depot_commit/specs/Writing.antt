-- What a place writes to the disk of the journal, and what that leaves. This project's own choice.
use Rattle.std.specs.Prelude.{◌≡◌, ◌⊎◌, ◌+◌, ◌<◌, ℕ, Bool, true, false, List, length, if◌then◌else◌}
use Rattle.outside_api.specs.Says.{DiskSays}
use Rattle.depot_rows.specs.db_records.declared.change.Change.{Change}
use Rattle.disk_journal.specs.Images.{Committed, with_generation, with_group}
use Rattle.disk_journal.specs.Stands.{Doubtful, nothing, group, opening, IsPrepared, Stands, generation_of_journal, group_of, next_number}
use Rattle.disk_journal.specs.declared.journal.Journal.{Journal}
use Rattle.recovery.specs.Holding.{HasAllRows}
use Rattle.depot_rows.specs.table_changes.Changed.{AllRows, changed_by}
use Rattle.depot_commit.specs.declared.writing.Writing.{Writing}
use Rattle.depot_commit.specs.declared.writing.Writing.TheVariants.{Group, Generation}

-- the next generation, if one is opened
abbrev pub next_if : Bool → ℕ → ℕ
next_if opens generation = if opens then generation + 1 else generation

-- what is committed together with what is in doubt
abbrev pub with_doubtful : Committed → Doubtful → Committed
with_doubtful was nothing = was
with_doubtful was (group text) = with_group was text
with_doubtful was (opening checkpoint) = with_generation was checkpoint

-- what is in doubt where its writing fails
abbrev pub left_by : Writing → Doubtful
left_by (Group prepared) = group (group_of prepared)
left_by (Generation text) = opening text

-- a journal can take it
abbrev pub CanWrite : {D : Type 0} → Journal D → Writing → Type 0
CanWrite journal (Group prepared) = IsPrepared (next_number journal) prepared
CanWrite journal (Generation text) = generation_of_journal journal < 4095

-- what may be in doubt where a writing failed: nothing, or what was written
abbrev pub IsLeft : Doubtful → Doubtful → Type 0
IsLeft written now = (now ≡ nothing) ⊎ (now ≡ written)

-- the journal has what was written; or the disk failed, and it has what it had, perhaps with that in doubt
abbrev pub StandsBy : {D : Type 0} → DiskSays D → Journal D → Committed → Doubtful → Bool → Type 0
StandsBy disk_says journal was written false = Stands disk_says journal (with_doubtful was written) nothing
StandsBy disk_says journal was written true = (now : Doubtful) × IsLeft written now × Stands disk_says journal was now

-- With what is written, what is committed has the rows after the changes.
pub record IsWritingOf (rows now : AllRows) (number generation : ℕ) (opens : Bool) (written : Doubtful) (changes : List Change) : Type 0 where
  pub rows_are : now ≡ changed_by rows changes
  pub has : (was : Committed) → number ≡ length was.groups + 1 → generation ≡ was.generation → HasAllRows was rows → HasAllRows (with_doubtful was written) (changed_by rows changes)
