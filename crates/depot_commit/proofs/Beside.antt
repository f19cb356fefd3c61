-- The run beside an archive in which contents were stored since a moment.
use Rattle.std.proofs.Common.{◌≡◌, ◌+◌, ℕ, max, Bool, true, false, List, [], ◌++◌, refl, sym, ap, subst, ◌∙◌, append-nil, arith}
use Rattle.outside_api.specs.Disk.{Files, NoMore, StillTells}
use Rattle.outside_api.specs.Says.{DiskSays}
use Rattle.archive_file.specs.Archive.{disk_of, used_of}
use Rattle.archive_file.specs.declared.archive.Archive.{Archive}
use Rattle.depot_rows.specs.db_records.declared.change.Change.{Change}
use Rattle.depot_rows.specs.depot_model.Deeds.{Deed}
use Rattle.depot_rows.specs.depot_model.Places.{Placed}
use Rattle.depot_rows.specs.table_changes.Changed.{AllRows, changed_by}
use Rattle.depot_rows.specs.table_store.declared.tables.Tables.{Tables}
use Rattle.disk_journal.specs.declared.journal.Journal.{Journal}
use Rattle.depot_commit.specs.Committing.{AreRowsAfter}
use Rattle.depot_commit.specs.Growing.{KeepsStored}
use Rattle.depot_commit.specs.Placing.{HasRunBeside, StoresBehind}
use Rattle.depot_commit.specs.Running.{HasRunOver}
use Rattle.depot_commit.specs.Storing.{AllReach, AllStored, HasStored, KeepsBelow, stores_end}
use Rattle.depot_commit.proofs.Moved.{over_fewer}
use Rattle.depot_commit.proofs.Stored.{ends_twice, grows, keeps_reach, stored_once, stored_twice, stored_within}

-- the rows after a place, whose writing failed or didn't
pub rows_so : (rows changed now : AllRows) (changes : List Change) (fault : Bool) → changed ≡ changed_by rows changes → (fault ≡ false → now ≡ changed) → (fault ≡ true → now ≡ rows) → AreRowsAfter rows changes fault now
rows_so rows changed now changes false made done kept = done refl ∙ made
rows_so rows changed now changes true made done kept = kept refl

-- what is used of the archive ends where the contents do
pub ends_there : (before kept used from end : ℕ) (stores : List (List ℕ)) → from ≡ before → kept ≡ before → used ≡ max kept (end + 0) → end ≡ stores_end stores from → used ≡ end
ends_there before kept used from end stores start same most is = let more = grows stores from in omega (arith, start, same, most, is, more)

-- ---- an archive

module _ {D : Type 0} (disk_says : DiskSays D) where
  -- a content couldn't be stored
  pub none_counted : (old new : Archive D) → used_of new ≡ used_of old → KeepsBelow (disk_says.may_leave (disk_of old)) (disk_says.may_leave (disk_of new)) (used_of old) → AllReach (disk_says.may_leave (disk_of old)) (used_of old)
      → StillTells (disk_says.seen (disk_of old)) (disk_says.seen (disk_of new)) → StoresBehind disk_says [] old new
  none_counted old new same kept room tells = record {
    used = same;
    kept = kept;
    all = tt;
    room = λ image left.
        let far = keeps_reach (disk_says.may_leave (disk_of old)) (disk_says.may_leave (disk_of new)) (used_of old) (used_of old) (omega arith) kept room image left in
        omega (arith, far, same);
    tells = tells;
  }

  -- what its disk may leave is among the images that it may leave now
  pub among_now : (archive : Archive D) → AllReach (disk_says.may_leave (disk_of archive)) (used_of archive) → NoMore (HasStored (disk_says.may_leave (disk_of archive)) (used_of archive) []) (disk_says.may_leave (disk_of archive))
  among_now archive room image left = record { below = λ spot bytes le all. all image left; stored = tt; reach = room image left }

  -- what was there stays
  pub stored_so : (old new : Archive D) (stored : List (List ℕ)) → StoresBehind disk_says stored old new → KeepsStored disk_says old new
  stored_so old new stored behind = record { below = behind.kept; more = let used = behind.used in let more = grows stored (used_of old) in omega (arith, used, more) }

  -- what its disk may leave is among the images, after the contents as before them
  pub among_on : (images : Files → Type 0) (from : ℕ) (before stored : List (List ℕ)) (old new : Archive D) → used_of old ≡ stores_end before from → NoMore (HasStored images from before) (disk_says.may_leave (disk_of old))
      → StoresBehind disk_says stored old new → NoMore (HasStored images from (before ++ stored)) (disk_says.may_leave (disk_of new))
  among_on images from before stored old new used among behind image left =
      let old_images = disk_says.may_leave (disk_of old) in
      let new_images = disk_says.may_leave (disk_of new) in
      let kept : KeepsBelow old_images new_images (stores_end before from) = subst (KeepsBelow old_images new_images) used behind.kept in
      let all : AllStored new_images stored (stores_end before from) = subst (AllStored new_images stored) used behind.all in
      let end : used_of new ≡ stores_end stored (stores_end before from) = behind.used ∙ ap (stores_end stored) used in
      let reach : AllReach new_images (stores_end stored (stores_end before from)) = subst (AllReach new_images) end behind.room in
      stored_once images from before stored image
      (stored_within (HasStored images from before) (stores_end before from) stored old_images new_images among kept all reach image left)

  -- and it is used up to where they end
  pub used_on : (images : Files → Type 0) (from : ℕ) (before stored : List (List ℕ)) (old new : Archive D) → used_of old ≡ stores_end before from → StoresBehind disk_says stored old new → used_of new ≡ stores_end (before ++ stored) from
  used_on images from before stored old new used behind = behind.used ∙ ap (stores_end stored) used ∙ sym (ends_twice images from before stored)

-- ---- a run

module _ {D : Type 0} (disk_says : DiskSays D) (images : Files → Type 0) (from : ℕ) (tables : Tables) (journal : Journal D) (since : ℕ) (start : List Deed) (places : List Placed) where
  -- contents were stored, and then others
  pub beside_more : (before stores : List (List ℕ)) → HasRunOver disk_says (HasStored (HasStored images from before) (stores_end before from) stores) (stores_end stores (stores_end before from)) tables journal since start places
      → HasRunBeside disk_says images from (before ++ stores) tables journal since start places
  beside_more before stores h =
      subst (λ (used : ℕ). HasRunOver disk_says (HasStored images from (before ++ stores)) used tables journal since start places) (sym (ends_twice images from before stores))
      (over_fewer disk_says (HasStored (HasStored images from before) (stores_end before from) stores) (stores_end stores (stores_end before from)) tables journal since start places h
      (HasStored images from (before ++ stores)) (stored_twice images from before stores))

  -- none were
  pub beside_same : (before : List (List ℕ)) → HasRunBeside disk_says images from before tables journal since start places → HasRunBeside disk_says images from (before ++ []) tables journal since start places
  beside_same before h =
      subst (λ (stores : List (List ℕ)). HasRunBeside disk_says images from stores tables journal since start places) (sym (append-nil before)) h
