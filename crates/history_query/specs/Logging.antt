-- The fields of a revision in the log of its file, as the rows of the tables have them (Command-Line Reference, "p4 filelog"; Helix Core database
-- schema reference, "db.rev", "db.change", "db.integed").
use Rattle.std.specs.Prelude.{ℕ, ◌+◌, List, [], ◌∷◌, ◌++◌, codes, decimal, flat_map, map, Option, Some, None}
use Rattle.std.specs.List.{enumerate_from}
use Rattle.depot_rows.specs.db_records.declared.record.Record.{Record}
use Rattle.depot_rows.specs.db_records.declared.record.Record.TheVariants.{Change, Rev}
use Rattle.depot_rows.specs.db_records.declared.rows.ChangeRecord.{ChangeRecord}
use Rattle.depot_rows.specs.db_records.declared.rows.IntegedRecord.{IntegedRecord}
use Rattle.depot_rows.specs.db_records.declared.rows.RevRecord.{RevRecord}
use Rattle.depot_rows.specs.db_records.declared.table.TableId.TheVariants as tables
use Rattle.depot_rows.specs.table_changes.Changed.{AllRows}
use Rattle.depot_rows.specs.depot_model.declared.reply.Field.{Field}
use Rattle.depot_rows.specs.depot_model.declared.reply.Row.{Row}
use Rattle.depot_rows.specs.depot_model.declared.request.Caller.{Caller}
use Rattle.depot_rows.specs.depot_model.Deeds.{Deed}
use Rattle.depot_rows.specs.depot_model.Records.{change_record}
use Rattle.depot_rows.specs.depot_model.Rows.{row, path_field, number_field, text_field}
use Rattle.depot_rows.specs.depot_model.Steps.History.{record_fields, records_of, up_to}
use Rattle.depot_rows.specs.Standing.{HasRows}
use Rattle.named_files.specs.Asked.{IsAsker}
use Rattle.named_files.specs.declared.asker.Asker.{Asker}
use Rattle.revision_reads.specs.History.{numbered_record}
use Rattle.history_query.specs.Choosing.{ChoiceReads}
use Rattle.history_query.specs.Crediting.{into_revision}

-- what a revision and its change say
abbrev pub revision_fields : List ℕ → RevRecord → ChangeRecord → List Field
revision_fields index r c =
    number_field (codes "rev" ++ index) r.rev ∷ number_field (codes "change" ++ index) r.change ∷ text_field (codes "action" ++ index) r.action
    ∷ text_field (codes "type" ++ index) r.file_type ∷ number_field (codes "time" ++ index) c.moment ∷ text_field (codes "user" ++ index) c.user
    ∷ text_field (codes "client" ++ index) c.client ∷ []

-- the length of the content and its digest, where there is one
abbrev pub size_fields : List ℕ → List ℕ → ℕ → List Field
size_fields index [] n = []
size_fields index (_ ∷ _) n = number_field (codes "fileSize" ++ index) n ∷ []

abbrev pub digest_fields : List ℕ → List ℕ → List Field
digest_fields index [] = []
digest_fields index (b ∷ sum) = text_field (codes "digest" ++ index) (b ∷ sum) ∷ []

-- the integration records of a revision
abbrev pub credit_fields : List ℕ → List IntegedRecord → List Field
credit_fields index records = flat_map (record_fields index) (enumerate_from 0 records)

-- what is told of a revision, where each revision has its integration records
abbrev pub fields_of : List ℕ → (ℕ → List IntegedRecord) → RevRecord → ChangeRecord → List Field
fields_of index credits r c =
    ((revision_fields index r c ++ size_fields index r.digest r.length) ++ digest_fields index r.digest)
    ++ (text_field (codes "desc" ++ index) c.text ∷ credit_fields index (credits r.rev))

abbrev pub fields_by : List ℕ → (ℕ → List IntegedRecord) → RevRecord → Option Record → List Field
fields_by index credits r (Some (Change c)) = fields_of index credits r c
fields_by index credits r _ = []

-- with the change that a depot has
abbrev pub logged : List Deed → List ℕ → (ℕ → List IntegedRecord) → Record → List Field
logged d index credits (Rev r) = fields_by index credits r (change_record d r.change)
logged d index credits _ = []

-- revisions one after another, with their indices
abbrev pub logged_from : List Deed → ℕ → (ℕ → List IntegedRecord) → List Record → List Field
logged_from d n credits [] = []
logged_from d n credits (r ∷ rows) = logged d (decimal n) credits r ++ logged_from d (n + 1) credits rows

abbrev pub log_row : List Deed → List ℕ → (ℕ → List IntegedRecord) → List Record → Row
log_row d path credits rows = row (path_field (codes "depotFile") path ∷ logged_from d 0 credits rows)

-- the integration records of each revision of a file
abbrev pub credits_in : List Deed → Caller → List ℕ → ℕ → List IntegedRecord
credits_in d caller path rev = into_revision rev (records_of d caller path)

abbrev pub rows_logged : List Deed → Caller → List ℕ → Option ℕ → List Row
rows_logged d caller path None = []
rows_logged d caller path (Some last) = log_row d path (credits_in d caller path) (map numbered_record (up_to d path last)) ∷ []

-- the asker is that of the depot, and the integration records and those of a choice are the depot's
pub record LogReads (caller : Caller) (asker : Asker) (rows : AllRows) (d : List Deed) : Type 0 where
  pub asked : IsAsker d caller asker
  pub choice : ChoiceReads rows d
  pub has_integed : HasRows rows d tables.Integed
