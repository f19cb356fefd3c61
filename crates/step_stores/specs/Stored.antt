-- Where the contents of a submitted change stand: at the spot of a revision that has the same content, or among those that the command stores, one
-- after another from a place of the archive on. This project's own choice.
use Rattle.std.specs.Prelude.{◌≡◌, ◌⊎◌, ◌+◌, ℕ, List, [], ◌∷◌, length, map, Option, Some}
use Rattle.depot_rows.specs.db_records.declared.change.Spot.{Spot}
use Rattle.depot_rows.specs.table_changes.Changed.{AllRows}
use Rattle.depot_rows.specs.depot_model.Deeds as model
use Rattle.depot_rows.specs.depot_model.Step.{Step as ModelStep}
use Rattle.depot_rows.specs.Effects.{Follow}
use Rattle.depot_rows.specs.declared.deed.Deed.{Deed}
use Rattle.depot_rows.specs.declared.deed.Deed.TheVariants as deeds
use Rattle.depot_rows.specs.declared.deed.Entry.{Entry}
use Rattle.depot_rows.specs.declared.deed.Stored.{Stored}
use Rattle.reply_rows.specs.declared.step.Step.{Step}
use Rattle.reply_rows.specs.Made.{ComeFrom, IsSpotOf, contents_of, waiting}

-- the content is one of those that are stored, and the spot is where it comes to stand
abbrev pub StandsAmong : List (List ℕ) → ℕ → Spot → List ℕ → Type 0
StandsAmong [] from spot bytes = ⊥
StandsAmong (store ∷ stores) from spot bytes =
    ((spot ≡ record { at = from; length = length store }) × (store ≡ bytes)) ⊎ StandsAmong stores (from + length store) spot bytes

-- a content that an entry has stands so
abbrev pub IsPlaced : AllRows → List model.Deed → List (List ℕ) → ℕ → Option Stored → Option (List ℕ) → Type 0
IsPlaced all d stores from (Some s) (Some bytes) = IsSpotOf all d bytes s.spot ⊎ StandsAmong stores from s.spot bytes
IsPlaced all d stores from _ _ = Unit {0}

-- so do the contents of all entries
abbrev pub ArePlaced : AllRows → List model.Deed → List (List ℕ) → ℕ → List Entry → List model.Entry → Type 0
ArePlaced all d stores from (e ∷ es) (entry ∷ entries) = IsPlaced all d stores from e.content entry.content × ArePlaced all d stores from es entries
ArePlaced all d stores from _ _ = Unit {0}

-- no change is submitted
abbrev pub LandNothing : List Deed → Type 0
LandNothing [] = Unit {0}
LandNothing (deeds.Land l ∷ dones) = ⊥
LandNothing (done ∷ dones) = LandNothing dones

abbrev pub NothingLands : List model.Deed → Type 0
NothingLands [] = Unit {0}
NothingLands (model.Land l ∷ told) = ⊥
NothingLands (deed ∷ told) = NothingLands told

-- A change is submitted first of all, and its contents stand at the places that its deed says, or none is submitted and nothing is stored.
abbrev pub AreStored : AllRows → ℕ → List model.Deed → List (List ℕ) → List Deed → List model.Deed → Type 0
AreStored all from d stores (deeds.Land l ∷ dones) (model.Land m ∷ told) =
    ArePlaced all d stores from l.entries m.entries × (LandNothing dones × NothingLands told)
AreStored all from d stores dones told = (stores ≡ []) × (LandNothing dones × NothingLands told)

-- Its deeds are the model's and may follow the depot; its rows are the model's, waiting for their contents, which are given or stand at spots by the
-- rows of the depot; and what it stores, from a place of the archive on, are contents of the change that it submits.
pub record IsStoring (all : AllRows) (from : ℕ) (d : List model.Deed) (told : ModelStep) (step : Step) : Type 0 where
  pub deeds : Follow d step.deeds told.deeds
  pub rows : step.rows ≡ map waiting told.rows
  pub stores : AreStored all from d step.stores step.deeds told.deeds
  pub reads : ComeFrom all d (contents_of told.rows) step.reads
