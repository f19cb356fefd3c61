-- An archive that has the contents of an order's places has those of a beginning.
use Rattle.std.proofs.Common.{◌≤◌, ◌+◌, ℕ, List, [], ◌∷◌, ◌++◌, length, ◌∙◌, ap, sym, subst, arith}
use mathlib.Core.List.{IsPrefix}
use Rattle.archive_file.specs.declared.archive.Archive.{Archive}
use Rattle.depot_rows.specs.depot_model.Deeds.{Deed}
use Rattle.locked_tables.specs.declared.taken.Taken.{Taken}
use Rattle.outside_api.specs.Disk.{Files, NoMore}
use Rattle.outside_api.specs.Says.{DiskSays}
use Rattle.depot_commit.specs.Storing.{AreStored, HasStored, stores_end}
use Rattle.depot_commit.proofs.Stored.{grows}
use Rattle.shared_depot.specs.Common.{HasAllStored}
use Rattle.shared_depot.specs.Stored.{stores_of}
use Rattle.shared_depot.proofs.Stored.{stores_append}

first_stored : (file : List ℕ) (first second : List (List ℕ)) (from : ℕ) → AreStored file (first ++ second) from → AreStored file first from
first_stored file [] second from all = tt
first_stored file (store ∷ first) second from all = (all.0, first_stored file first second (from + length store) all.1)

first_end : (first second : List (List ℕ)) (from : ℕ) → stores_end first from ≤ stores_end (first ++ second) from
first_end [] second from = grows second from
first_end (store ∷ first) second from = first_end first second (from + length store)

-- images with all these contents have the first
fewer_stored : (images : Files → Type 0) (from : ℕ) (first second : List (List ℕ)) → NoMore (HasStored images from first) (HasStored images from (first ++ second))
fewer_stored images from first second image has =
    let far = has.reach in
    let less = first_end first second from in
    record { below = has.below; stored = first_stored (image 0) first second from has.stored; reach = omega (arith, far, less) }

module _ {D : Type 0} (disk_says : DiskSays D) (end : ℕ) (images : Files → Type 0) (begins : ℕ → List Deed → Type 0) where
  pub stored_front : (known order : List Taken) (archive : Archive D) → IsPrefix known order → HasAllStored disk_says end images begins order archive
      → HasAllStored disk_says end images begins known archive
  stored_front known order archive (rest, is) all =
      let apart = sym (ap stores_of is) ∙ stores_append known rest in
      let used = all.used in
      let less = first_end (stores_of known) (stores_of rest) end in
      let there = ap (λ (stores : List (List ℕ)). stores_end stores end) apart in
      record {
        used = omega (arith, used, less, there);
        among = λ image left.
            fewer_stored images end (stores_of known) (stores_of rest) image (subst (λ (stores : List (List ℕ)). HasStored images end stores image) apart (all.among image left));
        room = all.room;
        tells = all.tells;
      }
