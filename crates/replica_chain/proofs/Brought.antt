-- The contents of a node's archive, when some were brought.
use Rattle.std.proofs.Common.{◌≡◌, ℕ, ◌<◌, ◌^◌, max, List, [], take, refl, sym, subst, arith}
use Rattle.outside_api.specs.Disk.{Files, StillTells}
use Rattle.outside_api.specs.Says.{DiskSays}
use Rattle.archive_file.specs.Archive.{AllHave, disk_of, used_of}
use Rattle.archive_file.specs.Contents.{IsFront}
use Rattle.archive_file.specs.declared.archive.Archive.{Archive}
use Rattle.depot_rows.specs.db_records.declared.change.Change.{Change}
use Rattle.depot_rows.specs.db_records.declared.table.TableId.TheVariants.{Rev}
use Rattle.depot_rows.specs.table_changes.Changed.{AllRows, changed_by}
use Rattle.recovery.specs.Contents.{AreWhole}
use Rattle.replica_chain.specs.Copying.{AreBrought, AreCopied, HasAllNamed, IsFilled, KeepsUsed}
use Rattle.replica_chain.specs.Node.{AllReach, HasContentsOf, HasFrontTo}
use Rattle.replica_chain.proofs.Chains.{front_same, grown}
use Rattle.replica_chain.proofs.Copied.{front_cut, front_itself}
use Rattle.replica_chain.proofs.Kept.{keeps_brought}
use Rattle.replica_chain.proofs.Named.{ends_changed, named_there, whole_changed, whole_there}

-- ---- archives

module _ {D : Type 0} (disk_says : DiskSays D) (told_before told_now : List ℕ → Type 0) (old new : Archive D) (keeps : KeepsUsed disk_says old new) where
  -- the first bytes stay
  kept_front : (bytes : List ℕ) → HasFrontTo (disk_says.may_leave (disk_of old)) (used_of old) bytes → HasFrontTo (disk_says.may_leave (disk_of new)) (used_of new) bytes
  kept_front bytes front =
      subst (λ (place : ℕ). HasFrontTo (disk_says.may_leave (disk_of new)) place bytes) (sym keeps.used)
      (record { within = front.within; has = keeps.below (record { at = 0; length = used_of old }) (take (used_of old) bytes) (omega arith) front.has })

  kept_reach : AllReach (disk_says.may_leave (disk_of old)) (used_of old) → AllReach (disk_says.may_leave (disk_of new)) (used_of new)
  kept_reach reach image left =
      let there : AllHave (disk_says.may_leave (disk_of old)) (record { at = used_of old; length = 0 }) [] = λ was before. record { within = (let within = reach was before in omega (arith, within)); is = refl } in
      let still = keeps.below (record { at = used_of old; length = 0 }) [] (omega arith) there image left in
      let within = still.within in
      let same = keeps.used in
      omega (arith, within, same)

  -- nothing was counted as used
  pub filled_none : used_of old < 2 ^ 63 → AllReach (disk_says.may_leave (disk_of old)) (used_of old) → ((before : List ℕ) → told_before before → (now : List ℕ) × (told_now now × IsFront before now))
      → IsFilled disk_says told_before told_now old new
  filled_none small reach grows = record {
    keeps = keeps_brought disk_says old new new keeps refl (let same = keeps.used in omega (arith, same));
    tells = keeps.tells;
    small = (let same = keeps.used in omega (arith, small, same));
    reach = kept_reach reach;
    same = λ before front. (take (used_of old) before, (front_itself (take (used_of old) before), kept_front (take (used_of old) before) (front_cut (disk_says.may_leave (disk_of old)) (used_of old) before front)));
    told = λ before told front. (
        let now = grows before told in
        (now.0, (now.1.0, (now.1.1, grown (disk_says.may_leave (disk_of new)) (used_of new) before now.0 now.1.1 (kept_front before front))))
        );
  }

  -- what was copied up to a place was
  pub filled_to : (kept : Archive D) (place : ℕ) → disk_of kept ≡ disk_of new → used_of kept ≡ max (used_of old) place → used_of kept < 2 ^ 63 → AreCopied disk_says told_before told_now old new place
      → IsFilled disk_says told_before told_now old kept
  filled_to kept place same used small copied =
      let images : Files → Type 0 = disk_says.may_leave (disk_of kept) in
      let there : (bytes : List ℕ) → HasFrontTo (disk_says.may_leave (disk_of new)) (max (used_of old) place) bytes → HasFrontTo images (used_of kept) bytes =
      λ bytes front. subst (λ (place : ℕ). HasFrontTo images place bytes) (sym used) (subst (λ (disk : D). HasFrontTo (disk_says.may_leave disk) (max (used_of old) place) bytes) (sym same) front) in
      record {
        keeps = keeps_brought disk_says old new kept keeps same (omega (arith, used));
        tells = subst (λ (disk : D). StillTells (disk_says.seen (disk_of old)) (disk_says.seen disk)) (sym same) keeps.tells;
        small = small;
        reach = λ image left. (let far = copied.reach image (subst (λ (disk : D). disk_says.may_leave disk image) same left) in omega (arith, far, used));
        same = λ before front. (let now = copied.same before front in (now.0, (now.1.0, there now.0 now.1.1)));
        told = λ before told front. (let now = copied.told before told front in (now.0, (now.1.0, (now.1.1.0, there now.0 now.1.1.1))));
      }

-- ---- contents

module _ {D : Type 0} (disk_says : DiskSays D) (told_before told_now : List ℕ → Type 0) (old new : Archive D) (filled : IsFilled disk_says told_before told_now old new) (rows : AllRows) (has : HasContentsOf disk_says old rows) where
  abbrev now : List ℕ
  now = (filled.same has.bytes has.front).0

  front_now : HasFrontTo (disk_says.may_leave (disk_of new)) (used_of new) now
  front_now = (filled.same has.bytes has.front).1.1

  rows_whole : AreWhole now (rows Rev)
  rows_whole =
      let same = front_same has.bytes now (used_of old) (filled.same has.bytes has.front).1.0 has.front.within in
      whole_there has.bytes now (used_of old) same.0 same.1 (rows Rev) has.ends has.whole

  -- they stay
  pub filled_contents : HasContentsOf disk_says new rows
  filled_contents = record { bytes = now; front = front_now; ends = (let ends = has.ends in let used = filled.keeps.used in omega (arith, ends, used)); whole = rows_whole }

  -- and those that changes name are there too
  pub brought_contents : (changes : List Change) → ((files : Files) → disk_says.seen (disk_of new) files → disk_says.may_leave (disk_of new) files) → (files : Files) → disk_says.seen (disk_of new) files
      → AreBrought disk_says new changes → HasContentsOf disk_says new (changed_by rows changes)
  brought_contents changes image files sees brought =
      let there = front_now.has files (image files sees) in
      let all_named : HasAllNamed now changes = named_there (files 0) now (used_of new) (sym there.is) front_now.within changes brought.within (brought.named files sees) in
      record {
        bytes = now;
        front = front_now;
        ends = ends_changed rows changes (used_of new) filled_contents.ends brought.within;
        whole = whole_changed now rows changes rows_whole all_named;
      }
