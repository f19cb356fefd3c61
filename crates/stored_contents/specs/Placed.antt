-- Where the contents of revisions stand after a command: at the spot of a revision that was there and has the same content, or among those that the
-- command stores; a deleted revision has no spot. This project's own choice.
use Rattle.std.specs.Prelude.{◌≡◌, ◌⊎◌, ℕ, IsFalse, List, Some}
use Rattle.std.specs.List.{AllByRecursion}
use Rattle.depot_rows.specs.depot_path.Path.{printed}
use Rattle.depot_rows.specs.db_records.Record.{is_live}
use Rattle.depot_rows.specs.db_records.declared.change.Change.{Change}
use Rattle.depot_rows.specs.db_records.declared.change.Op.{Op}
use Rattle.depot_rows.specs.db_records.declared.change.Op.TheVariants.{Remove}
use Rattle.depot_rows.specs.db_records.declared.change.Spot.{Spot}
use Rattle.depot_rows.specs.db_records.declared.key.Key.TheVariants as keys
use Rattle.depot_rows.specs.db_records.declared.record.Record.{Record}
use Rattle.depot_rows.specs.db_records.declared.record.Record.TheVariants as records
use Rattle.depot_rows.specs.db_records.declared.rows.RevRecord.{RevRecord}
use Rattle.depot_rows.specs.table_changes.Changed.{AllRows, changed_by}
use Rattle.depot_rows.specs.depot_model.Deeds.{Deed}
use Rattle.depot_rows.specs.depot_model.Rules.{IsSound}
use Rattle.depot_rows.specs.depot_model.Steps.Submitting.{content_at}
use Rattle.depot_rows.specs.Standing.{row_in}
use Rattle.reply_rows.specs.Made.{IsSpotOf}
use Rattle.step_stores.specs.Stored.{StandsAmong}

-- the spot of a revision's row, and that of a revision without a content
abbrev pub spot_of : RevRecord → Spot
spot_of row = record { at = row.at; length = row.length }

abbrev pub no_spot : Spot
no_spot = record { at = 0; length = 0 }

-- the content is at the spot: by the rows before the command, or once it is stored
abbrev pub IsPlacedAt : AllRows → List Deed → List (List ℕ) → ℕ → Spot → List ℕ → Type 0
IsPlacedAt all d stores from spot bytes = IsSpotOf all d bytes spot ⊎ StandsAmong stores from spot bytes

-- what holds of the row of a revision that is put
abbrev pub IfPut : (RevRecord → Type 0) → Op → Record → Type 0
IfPut P Remove row = Unit {0}
IfPut P op (records.Rev row) = P row
IfPut P op row = Unit {0}

-- the row has the spot of such a content, or none
abbrev pub HasSpot : AllRows → List Deed → List (List ℕ) → ℕ → RevRecord → Type 0
HasSpot all d stores from row = (spot_of row ≡ no_spot) ⊎ ((bytes : List ℕ) × IsPlacedAt all d stores from (spot_of row) bytes)

abbrev pub HasPlace : AllRows → List Deed → List (List ℕ) → ℕ → Op → Record → Type 0
HasPlace all d stores from op row = IfPut (HasSpot all d stores from) op row

-- that of a deleted revision has none
abbrev pub HasNoneIfDeleted : RevRecord → Type 0
HasNoneIfDeleted row = IsFalse (is_live (records.Rev row)) → spot_of row ≡ no_spot

-- From the rows of a depot changes lead to those of another, whose contents stand where they stood, or among those that are stored from a place on.
pub record StandAfter (all : AllRows) (from : ℕ) (d e : List Deed) (stores : List (List ℕ)) (changes : List Change) : Type 0 where
  -- each content at the spot of its revision's row
  pub contents : (path : List ℕ) (n : ℕ) (bytes : List ℕ) → content_at e path n ≡ Some bytes →
      (row : RevRecord) × (row_in (changed_by all changes) (keys.Rev (printed path) n) ≡ Some (records.Rev row)) × IsPlacedAt all d stores from (spot_of row) bytes
  -- no row that is put has another spot
  pub places : AllByRecursion (λ change. HasPlace all d stores from change.op change.row) changes
  -- and where the depot after it is sound no row of a deleted revision that is put has any
  pub deletes : IsSound e → AllByRecursion (λ change. IfPut HasNoneIfDeleted change.op change.row) changes
