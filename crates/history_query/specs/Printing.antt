-- The row of a revision that waits for its content, and where that stands (Command-Line Reference, "p4 print"; Helix Core database schema
-- reference, "db.rev"). That a revision has a content exactly where its row has a digest is this project's own choice.
use Rattle.std.specs.Prelude.{ℕ, List, [], ◌∷◌, codes, Option, Some, None}
use Rattle.depot_rows.specs.db_records.declared.change.Spot.{Spot}
use Rattle.depot_rows.specs.db_records.declared.rows.RevRecord.{RevRecord}
use Rattle.depot_rows.specs.table_changes.Changed.{AllRows}
use Rattle.depot_rows.specs.depot_model.declared.reply.Field.{Field}
use Rattle.depot_rows.specs.depot_model.declared.reply.Row.{Row}
use Rattle.depot_rows.specs.depot_model.declared.request.Caller.{Caller}
use Rattle.depot_rows.specs.depot_model.Deeds.{Deed}
use Rattle.depot_rows.specs.depot_model.Rows.{path_field, number_field, text_field}
use Rattle.named_files.specs.Asked.{IsAsker}
use Rattle.named_files.specs.declared.asker.Asker.{Asker}
use Rattle.reply_rows.specs.declared.content.RowContent.{RowContent}
use Rattle.reply_rows.specs.declared.content.RowContent.TheVariants.{At}
use Rattle.reply_rows.specs.declared.step.Step.{Step}
use Rattle.history_query.specs.Choosing.{ChoiceReads}

-- the length of a content, where there is a digest of one
abbrev pub length_fields : List ℕ → ℕ → List Field
length_fields [] n = []
length_fields (_ ∷ _) n = number_field (codes "fileSize") n ∷ []

-- the content for which a row waits
abbrev pub awaited : List ℕ → Option (List ℕ)
awaited [] = None
awaited (_ ∷ _) = Some []

abbrev pub print_row_of : List ℕ → RevRecord → Row
print_row_of path r = record {
  fields = path_field (codes "depotFile") path ∷ number_field (codes "rev") r.rev ∷ number_field (codes "change") r.change
      ∷ text_field (codes "action") r.action ∷ text_field (codes "type") r.file_type ∷ length_fields r.digest r.length;
  content = awaited r.digest;
}

abbrev pub spot_of : RevRecord → Spot
spot_of r = record { at = r.at; length = r.length }

abbrev pub places : List ℕ → RevRecord → List RowContent
places [] r = []
places (_ ∷ _) r = At (spot_of r) ∷ []

-- what is printed of a chosen revision, if there is one
abbrev pub prints : List ℕ → Option RevRecord → Step
prints path None = record { deeds = []; rows = []; stores = []; reads = [] }
prints path (Some r) = record { deeds = []; rows = print_row_of path r ∷ []; stores = []; reads = places r.digest r }

-- the asker is that of the depot, and a choice reads its rows
pub record PrintReads (caller : Caller) (asker : Asker) (rows : AllRows) (d : List Deed) : Type 0 where
  pub asked : IsAsker d caller asker
  pub choice : ChoiceReads rows d
