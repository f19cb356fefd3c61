-- What is read for the choice of a revision, and what is chosen. Which tables are read is this project's own choice.
use Rattle.std.specs.Prelude.{◌≡◌, ℕ, List, Ok, Option, Some, option_map}
use Rattle.std.specs.List.{All}
use Rattle.depot_rows.specs.depot_path.Path.{path_of, printed}
use Rattle.depot_rows.specs.depot_path.declared.revision.Wanted.{Wanted}
use Rattle.depot_rows.specs.db_records.declared.key.Key.TheVariants as keys
use Rattle.depot_rows.specs.db_records.declared.record.Record.TheVariants as records
use Rattle.depot_rows.specs.db_records.declared.rows.RevRecord.{RevRecord}
use Rattle.depot_rows.specs.db_records.declared.table.TableId.TheVariants as tables
use Rattle.depot_rows.specs.table_changes.Changed.{AllRows}
use Rattle.depot_rows.specs.depot_model.declared.request.Caller.{Caller}
use Rattle.depot_rows.specs.depot_model.Choice.{chosen}
use Rattle.depot_rows.specs.depot_model.Deeds.{Deed}
use Rattle.depot_rows.specs.depot_model.Rules.{IsSound}
use Rattle.depot_rows.specs.depot_model.Steps.Listing.{numbered}
use Rattle.depot_rows.specs.Standing.{HasRows, row_in}
use Rattle.revision_reads.specs.History.{numbered_record, seen}
use Rattle.newest_revisions.specs.Seen.{kept}
use Rattle.newest_revisions.specs.declared.seen.SeenRows.{SeenRows}

-- the depot is sound, and the rows of the tables for which a choice may ask are its
pub record ChoiceReads (rows : AllRows) (d : List Deed) : Type 0 where
  pub sound : IsSound d
  pub has_domain : HasRows rows d tables.Domain
  pub has_have : HasRows rows d tables.Have
  pub has_label : HasRows rows d tables.Label
  pub has_change : HasRows rows d tables.Change
  pub has_rev : HasRows rows d tables.Rev

-- a row is that of the revision which is chosen of a file, if there is one, with the place of its content
pub record IsChoice (rows : AllRows) (d : List Deed) (caller : Caller) (wanted : Wanted) (path : List ℕ) (row : Option RevRecord) : Type 0 where
  pub row_is : option_map seen row ≡ option_map numbered_record (numbered d path (chosen d caller path wanted))
  pub stored : (r : RevRecord) → row ≡ Some r → row_in rows (keys.Rev (printed path) r.rev) ≡ Some (records.Rev r)

-- a row is that of the revision which is chosen of its file
abbrev pub IsChosen : AllRows → List Deed → Caller → Wanted → RevRecord → Type 0
IsChosen rows d caller wanted r = (path : List ℕ) → path_of r.path ≡ Ok path → IsChoice rows d caller wanted path (Some r)

-- so are rows that were seen
abbrev pub AreChosen : AllRows → List Deed → Caller → Wanted → SeenRows → Type 0
AreChosen rows d caller wanted seen = All (IsChosen rows d caller wanted) (kept seen)
