-- What is told of an archive, and how long a content is.
use Rattle.std.proofs.Common.{◌≡◌, ℕ, ◌+◌, ◌≤◌, List, [], length, take, drop, refl, sym, ap, ◌∙◌, arith}
use Rattle.std.proofs.lemmas.List.{append-nil, length-drop, length-take-le}
use Rattle.outside_api.specs.Disk.{Files, Same}
use Rattle.outside_api.specs.Says.{DiskSays}
use Rattle.db_records.specs.declared.change.Spot.{Spot}
use Rattle.archive_file.specs.Archive.{Has, disk_of, end_of, used_of}
use Rattle.archive_file.specs.Contents.{IsFront, IsTold}
use Rattle.archive_file.specs.declared.archive.Archive.{Archive}
use Rattle.archive_file.proofs.Spots.{front_of}

-- a content has as many bytes as its spot says
pub has_length : (file : List ℕ) (spot : Spot) (bytes : List ℕ) → Has file spot bytes → length bytes ≡ spot.length
has_length file spot bytes has =
    ap length (sym has.is) ∙ length-take-le spot.length (drop spot.at file) (omega (arith, has.within, length-drop spot.at file))

pub front_same : (bytes : List ℕ) → IsFront bytes bytes
front_same bytes = record { more = []; is = sym (append-nil bytes) }

pub stays : (old new before : List ℕ) → new ≡ old → before ≡ old → (now : List ℕ) × (now ≡ new) × IsFront before now
stays old new before same is = (new, refl, record { more = []; is = same ∙ sym is ∙ sym (append-nil before) })

module _ {D : Type 0} (disk_says : DiskSays D) (old new : Archive D) (same : Same (disk_says.seen (disk_of old)) (disk_says.seen (disk_of new))) (used : used_of new ≡ used_of old) where
  told_on : (bytes : List ℕ) → IsTold disk_says old bytes → IsTold disk_says new bytes
  told_on bytes told = record {
    files = told.files;
    sees = same.kept told.files told.sees;
    within = omega (arith, told.within, used);
    are = told.are ∙ ap (λ (n : ℕ). take n (told.files 0)) (sym used);
  }

  -- what was only read tells what it told
  pub told_same : (before : List ℕ) → IsTold disk_says old before → (now : List ℕ) × IsTold disk_says new now × IsFront before now
  told_same before told = (before, told_on before told, front_same before)

  -- what is read of it stands in what it tells
  pub told_has : (bytes text : List ℕ) (spot : Spot) → IsTold disk_says new bytes → end_of spot ≤ used_of old → ((files : Files) → disk_says.seen (disk_of old) files → text ≡ take spot.length (drop spot.at (files 0))) → Has bytes spot text
  told_has bytes text spot told within read =
      let file = told.files 0 in
      let le : spot.at + spot.length ≤ used_of new = omega (arith, within, used) in
      record {
        within = omega (arith, le, ap length told.are, length-take-le (used_of new) file told.within);
        is =
            ap (λ (l : List ℕ). take spot.length (drop spot.at l)) told.are
            ∙ sym (front_of spot.at spot.length (used_of new) file le)
            ∙ sym (read told.files (same.no_more told.files told.sees));
      }
