-- When a step of the code is one of the model. This project's own choice.
use Rattle.std.specs.Prelude.{◌≡◌, ◌++◌, ℕ, List, [], ◌∷◌, map, Some, option_map}
use Rattle.std.specs.Option.{option_to_list}
use Rattle.depot_rows.specs.depot_path.Path.{printed}
use Rattle.depot_rows.specs.db_records.declared.change.Spot.{Spot}
use Rattle.depot_rows.specs.db_records.declared.key.Key.TheVariants as keys
use Rattle.depot_rows.specs.db_records.declared.record.Record.TheVariants as records
use Rattle.depot_rows.specs.db_records.declared.rows.RevRecord.{RevRecord}
use Rattle.depot_rows.specs.table_changes.Changed.{AllRows}
use Rattle.depot_rows.specs.depot_model.declared.reply.Row.{Row}
use Rattle.depot_rows.specs.depot_model.Deeds.{Deed}
use Rattle.depot_rows.specs.depot_model.Step.{Step as ModelStep}
use Rattle.depot_rows.specs.depot_model.Steps.Submitting.{content_at}
use Rattle.depot_rows.specs.Effects.{Follow}
use Rattle.depot_rows.specs.Standing.{row_in}
use Rattle.depot_rows.specs.declared.deed.Deed.{Deed as Done}
use Rattle.reply_rows.specs.declared.content.RowContent.{RowContent}
use Rattle.reply_rows.specs.declared.content.RowContent.TheVariants.{At, Given}
use Rattle.reply_rows.specs.declared.step.Step.{Step}

-- rows alone
abbrev pub told : List Row → Step
told rows = record { deeds = []; rows = rows; stores = []; reads = [] }

-- deeds and a row
abbrev pub does : List Done → Row → Step
does deeds row = record { deeds = deeds; rows = row ∷ []; stores = []; reads = [] }

-- a row with an empty text in the place of its content
abbrev pub waiting : Row → Row
waiting row = record row { content = option_map (λ _. []) row.content }

-- the contents of rows, in their order
abbrev pub contents_of : List Row → List (List ℕ)
contents_of [] = []
contents_of (row ∷ rows) = option_to_list row.content ++ contents_of rows

-- the spot is that of a revision with this content
pub record IsSpotOf (all : AllRows) (d : List Deed) (content : List ℕ) (spot : Spot) : Type 0 where
  pub path : List ℕ
  pub rev : ℕ
  pub row : RevRecord
  pub there : row_in all (keys.Rev (printed path) rev) ≡ Some (records.Rev row)
  pub at : spot ≡ record { at = row.at; length = row.length }
  pub content_is : content_at d path rev ≡ Some content

-- a content comes from where it stands, or is given
abbrev pub ComesFrom : AllRows → List Deed → List ℕ → RowContent → Type 0
ComesFrom all d content (At spot) = IsSpotOf all d content spot
ComesFrom all d content (Given text) = text ≡ content

-- so does each of several
abbrev pub ComeFrom : AllRows → List Deed → List (List ℕ) → List RowContent → Type 0
ComeFrom all d [] [] = Unit {0}
ComeFrom all d (content ∷ contents) (place ∷ places) = ComesFrom all d content place × ComeFrom all d contents places
ComeFrom all d _ _ = ⊥

-- Its deeds are the model's and may follow a depot; its rows are the model's, waiting for their contents, which are given or stand at spots by the
-- rows of the depot before the command; and it stores nothing.
pub record IsMade (all : AllRows) (d e : List Deed) (model : ModelStep) (step : Step) : Type 0 where
  pub deeds : Follow e step.deeds model.deeds
  pub rows : step.rows ≡ map waiting model.rows
  pub stores : step.stores ≡ []
  pub reads : ComeFrom all d (contents_of model.rows) step.reads
