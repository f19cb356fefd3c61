-- What a run of commits leaves, some of which a fault of the disk may cut short.
use Rattle.std.specs.Prelude.{◌≡◌, ◌⊎◌, ◌≤◌, ◌<◌, ◌+◌, ℕ, List, [], ◌∷◌, length, take, get_or}
use Rattle.outside_api.specs.Count.{HasRisen}
use Rattle.outside_api.specs.Disk.{Files}
use Rattle.outside_api.specs.Says.{DiskSays}
use Rattle.db_records.specs.declared.change.Change.{Change}
use Rattle.journal_groups.specs.Groups.{group_text}
use Rattle.disk_journal.specs.declared.journal.Journal.{Journal}
use Rattle.disk_journal.specs.Images.{Committed, HasCommitted, with_group}
use Rattle.disk_journal.specs.Stands.{Doubtful, nothing, group, Stands}
use Rattle.journal_runs.specs.declared.landing.Landing.{Landing}
use Rattle.journal_runs.specs.declared.landing.Landing.TheVariants.{Landed, Faulted, NoMemory}

-- what is in doubt after a fault: what was before, nothing, or the group
abbrev pub IsAfterFault : Doubtful → List ℕ → Doubtful → Type 0
IsAfterFault doubt g now = (now ≡ doubt) ⊎ ((now ≡ nothing) ⊎ (now ≡ group g))

-- the group of these changes, as the next one
abbrev pub next_group : Committed → List Change → List ℕ
next_group was changes = group_text (length was.groups + 1) changes

abbrev pub with_changes : Committed → List Change → Committed
with_changes was changes = with_group was (next_group was changes)

-- how a journal stands after the commit of these changes
abbrev pub StandsAfter : {D : Type 0} → DiskSays D → Journal D → Committed → Doubtful → List Change → Landing → Type 0
StandsAfter disk_says journal was doubt changes Landed = Stands disk_says journal (with_changes was changes) nothing
StandsAfter disk_says journal was doubt changes Faulted = (now : Doubtful) × IsAfterFault doubt (next_group was changes) now × Stands disk_says journal was now
StandsAfter disk_says journal was doubt changes NoMemory = Stands disk_says journal was doubt

-- a fault has its cause
abbrev pub IsCaused : ℕ → ℕ → Landing → Type 0
IsCaused before now Faulted = HasRisen before now
IsCaused before now _ = Unit {0}

-- with the changes that landed, each list of them as one group
abbrev pub after : Committed → List (List Change) → List Landing → Committed
after was (changes ∷ batch) (Landed ∷ landings) = after (with_changes was changes) batch landings
after was (changes ∷ batch) (Faulted ∷ landings) = after was batch landings
after was (changes ∷ batch) (NoMemory ∷ landings) = after was batch landings
after was batch landings = was

-- An image of some moment: it has what had landed by one of the commits, or that with the group of this commit.
pub record IsPrefix (was : Committed) (batch : List (List Change)) (landings : List Landing) (image : Files) : Type 0 where
  pub count : ℕ
  pub within : count ≤ length batch
  pub has : HasCommitted (after was (take count batch) (take count landings)) image
      ⊎ ((count < length batch) × HasCommitted (with_changes (after was (take count batch) (take count landings)) (get_or batch count [])) image)
