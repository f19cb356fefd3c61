-- The depot that the replicas of a run follow, as its journal tells it from the first change on (Server Administrator Guide, on filtered replicas). That each
-- group of the journal is one change, and so is the beginning of each generation but the first, is this project's own choice.
use Rattle.std.specs.Prelude.{◌≡◌, ◌≤◌, ◌<◌, ◌⊎◌, ◌+◌, ℕ, suc, List, [], ◌∷◌, length, map}
use Rattle.std.specs.List.{AllByRecursion}
use Rattle.outside_api.specs.Says.{DiskSays}
use Rattle.archive_file.specs.Archive.{disk_of, used_of}
use Rattle.archive_file.specs.declared.archive.Archive.{Archive}
use Rattle.depot_rows.specs.db_records.declared.change.Change.{Change}
use Rattle.depot_rows.specs.db_records.declared.table.TableId.TheVariants.{Rev}
use Rattle.depot_rows.specs.depot_model.Deeds.{Deed}
use Rattle.depot_rows.specs.depot_model.Places.{Placed, done_at}
use Rattle.depot_rows.specs.depot_model.Step.{after}
use Rattle.depot_rows.specs.Standing.{Stand}
use Rattle.depot_runs.specs.Kept.{IsChange}
use Rattle.depot_runs.specs.Replica.{IsAfterChanges}
use Rattle.depot_rows.specs.depot_model.Commands.{step}
use Rattle.journal_groups.specs.Groups.{IsGroup, groups_text}
use Rattle.recovery.specs.Holding.{joined, spots_end}
use Rattle.replica_pull.specs.Prefix.{FitFrom, HasGrown, changes_from, first_rows}
use Rattle.depot_commit.specs.Growing.{Chronicle, HasGroups, generations_of}
use Rattle.depot_commit.specs.Holding.{KeepContents}
use Rattle.serial_depot.specs.declared.depot.SerialDepot.{SerialDepot}
use Rattle.depot_rows.specs.table_changes.Changed.{AllRows, changed_by, no_rows, rows_of}

-- ---- a journal

-- the changes of all its generations
abbrev pub all_changes : Chronicle → List (List Change)
all_changes c = changes_from 0 (generations_of c)

-- each of its groups is one
abbrev pub AreGroupsOf : Chronicle → Type 0
AreGroupsOf c = AllByRecursion (AllByRecursion IsGroup) (generations_of c)

-- the rows that its first n changes make
abbrev pub first_of : ℕ → Chronicle → AllRows
first_of n c = first_rows n (generations_of c)

-- its changes fit, one after another
abbrev pub AllFit : Chronicle → Type 0
AllFit c = FitFrom no_rows 0 (generations_of c)

-- its texts
abbrev pub texts_in : Chronicle → List (List ℕ)
texts_in c = map (groups_text 1) (generations_of c)

-- they are the same, or they grew
abbrev pub HasGrownTo : Chronicle → Chronicle → Type 0
HasGrownTo c now = HasGrown (texts_in c) (texts_in now)

-- ---- the first changes

-- what a depot has done before a run: how many changes, the depot after each of them, and the groups of its journal
pub record Past : Type 0 where
  pub count : ℕ
  pub after : ℕ → List Deed
  pub journal : Chronicle

-- the depot after the first n changes: those before the run, and then those among its places
abbrev pub IsNth : Past → List Deed → List Placed → ℕ → List Deed → Type 0
IsNth past start places n d =
    ((n < past.count) × (d ≡ past.after n)) ⊎ ((m : ℕ) × (n ≡ past.count + m) × IsAfterChanges m start places d)

-- exactly n of these places are changes
abbrev pub AreChanges : ℕ → List Deed → List Placed → Type 0
AreChanges n d [] = n ≡ 0
AreChanges n d (p ∷ places) =
    ((IsChange d p → ⊥) × AreChanges n (after d (done_at step d p)) places)
    ⊎ (IsChange d p × (m : ℕ) × (n ≡ suc m) × AreChanges m (after d (done_at step d p)) places)

-- ---- the journal after places

-- A journal after the places of a run: it has whole groups, as many changes as were done before the run and then among the places, and the rows that the
-- first n of them make stand for the depot after n changes. They fit where those before the run did.
pub record IsJournalAfter (past : Past) (start : List Deed) (places : List Placed) (c : Chronicle) : Type 0 where
  pub are_groups : AreGroupsOf c
  pub changes : ℕ
  pub count : length (all_changes c) ≡ past.count + changes
  pub are_changes : AreChanges changes start places
  pub each : (n : ℕ) → n ≤ length (all_changes c) → (d : List Deed) × IsNth past start places n d × Stand (first_of n c) d
  pub fit : AllFit past.journal → AllFit c

-- ---- a depot in files

-- The rows that its first n changes make stand for the depot after these, whose contents each image of the archive's disk has.
pub record HasNth {D : Type 0} (disk_says : DiskSays D) (archive : Archive D) (IsIt : List Deed → Type 0) (c : Chronicle) (n : ℕ) : Type 0 where
  pub depot : List Deed
  pub is : IsIt depot
  pub stand : Stand (first_rows n (generations_of c)) depot
  pub kept : KeepContents (disk_says.may_leave (disk_of archive)) (used_of archive) (first_rows n (generations_of c)) depot

-- The journal has these groups, which make the rows of the tables; of its changes there are those before the run and those among the places that were taken,
-- and after each number of them it had a depot that is known, none of whose spots ended behind those of the tables. They fit where those before the run did.
pub record IsMaster {D : Type 0} (disk_says : DiskSays D) (past : Past) (start : List Deed) (places : List Placed) (depot : SerialDepot D) (c : Chronicle) : Type 0 where
  pub groups : HasGroups disk_says depot.journal c
  pub rows : rows_of depot.tables ≡ changed_by no_rows (joined (all_changes c))
  pub changes : ℕ
  pub count : length (all_changes c) ≡ past.count + changes
  pub are_changes : AreChanges changes start places
  pub each : (n : ℕ) → n ≤ length (all_changes c) → HasNth disk_says depot.archive (IsNth past start places n) c n
  pub ends : (n : ℕ) → n ≤ length (all_changes c) → spots_end (first_of n c Rev) ≤ spots_end (rows_of depot.tables Rev)
  pub fit : AllFit past.journal → AllFit c

-- the depot is one that replicas follow, after these places
abbrev pub CanBeFollowed : {D : Type 0} → DiskSays D → Past → List Deed → List Placed → SerialDepot D → Type 0
CanBeFollowed disk_says past start places depot = (c : Chronicle) × IsMaster disk_says past start places depot c
