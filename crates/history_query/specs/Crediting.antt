-- The integration records of a file, as the rows of the table have them (Command-Line Reference, "p4 integrated"; Helix Core database schema
-- reference, "db.integed").
use Rattle.std.specs.Prelude.{◌≡◌, ◌==◌, ◌++◌, ℕ, Bool, false, List, [], ◌∷◌, filter, flat_map, map, if◌then◌else◌, Option, Some, None, Ok, Err}
use Rattle.std.specs.BTreeMap.{get}
use Rattle.std.specs.Ordering.{nat_cmp}
use Rattle.depot_rows.specs.depot_path.Path.{path_of}
use Rattle.depot_rows.specs.db_records.declared.record.Record.{Record}
use Rattle.depot_rows.specs.db_records.declared.record.Record.TheVariants.{Integed}
use Rattle.depot_rows.specs.db_records.declared.rows.IntegedRecord.{IntegedRecord}
use Rattle.depot_rows.specs.db_records.declared.table.TableId.TheVariants as tables
use Rattle.depot_rows.specs.protect_table.Rights.{may}
use Rattle.depot_rows.specs.table_changes.Changed.{AllRows}
use Rattle.depot_rows.specs.depot_model.declared.reply.Row.{Row}
use Rattle.depot_rows.specs.depot_model.declared.request.Caller.{Caller}
use Rattle.depot_rows.specs.depot_model.Deeds.{Deed}
use Rattle.depot_rows.specs.depot_model.Steps.History.{integrated_row}
use Rattle.depot_rows.specs.Standing.{HasRows}
use Rattle.named_files.specs.Asked.{IsAsker}
use Rattle.named_files.specs.declared.asker.Asker.{Asker}
use Rattle.history_query.specs.declared.crediting.Credits.{Credits}

-- the asker may list the file whose path a text spells
abbrev pub may_list_in : Asker → List ℕ → Bool
may_list_in asker text = elim (path_of text) [ Err fault ↦ false | Ok path ↦ may asker.protects asker.who path 1 ]

-- the rows that are integration records
abbrev pub integeds : List Record → List IntegedRecord
integeds [] = []
integeds (Integed r ∷ rows) = r ∷ integeds rows
integeds (_ ∷ rows) = integeds rows

-- those of them whose other file the asker may list
abbrev pub is_listed_in : Asker → IntegedRecord → Bool
is_listed_in asker r = may_list_in asker r.from_file

abbrev pub listed_in : Asker → List Record → List IntegedRecord
listed_in asker rows = filter (is_listed_in asker) (integeds rows)

-- the row of such a record
abbrev pub integed_in : Record → Option IntegedRecord
integed_in (Integed r) = Some r
integed_in _ = None

abbrev pub told_by : Asker → Option IntegedRecord → List Row
told_by asker None = []
told_by asker (Some r) = if is_listed_in asker r then integrated_row r ∷ [] else []

abbrev pub rows_told_in : Asker → List Record → List Row
rows_told_in asker rows = flat_map (λ row. told_by asker (integed_in row)) rows

-- the record that a row is, if it is to be listed
abbrev pub listed_by : Asker → Option IntegedRecord → List IntegedRecord
listed_by asker None = []
listed_by asker (Some r) = if is_listed_in asker r then r ∷ [] else []

abbrev pub records_listed_in : Asker → List Record → List IntegedRecord
records_listed_in asker rows = flat_map (λ row. listed_by asker (integed_in row)) rows

-- those of some records that are into a revision
abbrev pub into_revision : ℕ → List IntegedRecord → List IntegedRecord
into_revision rev records = filter (λ (i : IntegedRecord). i.end_to == rev) records

-- the records into a revision, among those that are kept by it
abbrev pub credited : Credits → ℕ → List IntegedRecord
credited credits rev = elim (get nat_cmp credits.by_revision rev) [ None ↦ [] | Some records ↦ map (λ r. r.now) records.items ]

-- these are the records, each by its revision
abbrev pub AreCredited : Credits → List IntegedRecord → Type 0
AreCredited credits records = (rev : ℕ) → credited credits rev ≡ into_revision rev records

-- they were added
abbrev pub AreAdded : Credits → Credits → List IntegedRecord → Type 0
AreAdded before after records = (rev : ℕ) → credited after rev ≡ credited before rev ++ into_revision rev records

-- the asker is that of the depot, and the integration records are the depot's
pub record RecordReads (caller : Caller) (asker : Asker) (rows : AllRows) (d : List Deed) : Type 0 where
  pub asked : IsAsker d caller asker
  pub has_integed : HasRows rows d tables.Integed
