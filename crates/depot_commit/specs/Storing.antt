-- Contents that are stored in the archive, one after another from a place on, and contents that are read there or given. This project's own choice.
use Rattle.std.specs.Prelude.{◌≡◌, ◌≤◌, ◌<◌, ◌+◌, ◌^◌, ℕ, List, [], ◌∷◌, length}
use Rattle.outside_api.specs.Disk.{Files}
use Rattle.depot_rows.specs.db_records.declared.change.Spot.{Spot}
use Rattle.archive_file.specs.Archive.{AllHave, Has, end_of}
use Rattle.reply_rows.specs.declared.content.RowContent.{RowContent}
use Rattle.reply_rows.specs.declared.content.RowContent.TheVariants.{At, Given}

-- new images keep each content that ends at or before a place
abbrev pub KeepsBelow : (Files → Type 0) → (Files → Type 0) → ℕ → Type 0
KeepsBelow old new place = (spot : Spot) (bytes : List ℕ) → end_of spot ≤ place → AllHave old spot bytes → AllHave new spot bytes

-- each image reaches as far as a place
abbrev pub AllReach : (Files → Type 0) → ℕ → Type 0
AllReach images place = (image : Files) → images image → place ≤ length (image 0)

-- each image has these contents one after another from a place on
abbrev pub AllStored : (Files → Type 0) → List (List ℕ) → ℕ → Type 0
AllStored images [] from = Unit {0}
AllStored images (store ∷ stores) from = AllHave images (record { at = from; length = length store }) store × AllStored images stores (from + length store)

-- where they end
abbrev pub stores_end : List (List ℕ) → ℕ → ℕ
stores_end [] from = from
stores_end (store ∷ stores) from = stores_end stores (from + length store)

-- each image has these contents one after another from a place on, and reaches as far as the place where they end
pub record AllStoredTo (images : Files → Type 0) (stores : List (List ℕ)) (from end : ℕ) : Type 0 where
  pub end_is : end ≡ stores_end stores from
  pub fits : end < 2 ^ 63
  pub stored : AllStored images stores from
  pub room : AllReach images end

-- a file has these contents one after another from a place on
abbrev pub AreStored : List ℕ → List (List ℕ) → ℕ → Type 0
AreStored file [] from = Unit {0}
AreStored file (store ∷ stores) from = Has file (record { at = from; length = length store }) store × AreStored file stores (from + length store)

-- An image of the archive's disk after contents were stored behind a place: it has each content that all images before had at or before the place, these
-- contents from there on, and reaches as far as they do.
pub record HasStored (images : Files → Type 0) (used : ℕ) (stores : List (List ℕ)) (image : Files) : Type 0 where
  pub below : (spot : Spot) (bytes : List ℕ) → end_of spot ≤ used → AllHave images spot bytes → Has (image 0) spot bytes
  pub stored : AreStored (image 0) stores used
  pub reach : stores_end stores used ≤ length (image 0)

-- what is read for a content, if anything is, ends at or before a place
abbrev pub EndsBy : ℕ → RowContent → Type 0
EndsBy place (At spot) = end_of spot ≤ place
EndsBy place (Given text) = Unit {0}

-- a file has a content at its spot, or it is the text that is given
abbrev pub IsAt : List ℕ → RowContent → List ℕ → Type 0
IsAt file (At spot) content = Has file spot content
IsAt file (Given text) content = text ≡ content

-- so is each of several
abbrev pub AreAt : List ℕ → List RowContent → List (List ℕ) → Type 0
AreAt file [] [] = Unit {0}
AreAt file (place ∷ places) (content ∷ contents) = IsAt file place content × AreAt file places contents
AreAt file _ _ = ⊥
