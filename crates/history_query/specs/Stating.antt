-- The row of a file's revision with what the client has of the file, as the rows of the tables have it (Command-Line Reference, "p4 fstat").
use Rattle.std.specs.Prelude.{ℕ, ◌==◌, List, [], ◌∷◌, ◌++◌, codes, if◌then◌else◌, Option, Some, None}
use Rattle.depot_rows.specs.db_records.declared.record.Record.{Record}
use Rattle.depot_rows.specs.db_records.declared.record.Record.TheVariants.{Change, Rev}
use Rattle.depot_rows.specs.db_records.declared.rows.ChangeRecord.{ChangeRecord}
use Rattle.depot_rows.specs.db_records.declared.rows.RevRecord.{RevRecord}
use Rattle.depot_rows.specs.db_records.declared.rows.WorkingRecord.{WorkingRecord}
use Rattle.depot_rows.specs.db_records.declared.table.TableId.TheVariants as tables
use Rattle.depot_rows.specs.table_changes.Changed.{AllRows}
use Rattle.depot_rows.specs.depot_model.declared.reply.Field.{Field}
use Rattle.depot_rows.specs.depot_model.declared.reply.Row.{Row}
use Rattle.depot_rows.specs.depot_model.declared.request.Caller.{Caller}
use Rattle.depot_rows.specs.depot_model.Deeds.{Deed}
use Rattle.depot_rows.specs.depot_model.Rows.{row, path_field, number_field, text_field, if_any}
use Rattle.depot_rows.specs.Standing.{HasRows}
use Rattle.named_files.specs.Asked.{IsAsker}
use Rattle.named_files.specs.declared.asker.Asker.{Asker}
use Rattle.history_query.specs.Choosing.{ChoiceReads}

abbrev pub have_fields : ℕ → List Field
have_fields have = if have == 0 then [] else number_field (codes "haveRev") have ∷ []

abbrev pub head_fields : RevRecord → ChangeRecord → List Field
head_fields r c =
    text_field (codes "headAction") r.action ∷ text_field (codes "headType") r.file_type ∷ number_field (codes "headTime") c.moment
    ∷ number_field (codes "headRev") r.rev ∷ number_field (codes "headChange") r.change ∷ []

abbrev pub stat_row_of : List ℕ → Option (List ℕ) → ℕ → Option WorkingRecord → Record → Record → Row
stat_row_of path place have opening (Rev r) (Change c) = row (
    path_field (codes "depotFile") path ∷ if_any (path_field (codes "clientFile")) place
    ++ text_field (codes "headAction") r.action ∷ text_field (codes "headType") r.file_type
    ∷ number_field (codes "headTime") c.moment ∷ number_field (codes "headRev") r.rev
    ∷ number_field (codes "headChange") r.change
    ∷ (if have == 0 then [] else number_field (codes "haveRev") have ∷ [])
    ++ if_any (λ (o : WorkingRecord). text_field (codes "action") o.action) opening)
stat_row_of path place have opening _ _ = row []

abbrev pub stats_told : List ℕ → Option (List ℕ) → ℕ → Option WorkingRecord → Option (Record × Record) → List Row
stats_told path place have opening None = []
stats_told path place have opening (Some p) = stat_row_of path place have opening p.0 p.1 ∷ []

-- beside what a choice reads, the opened files
pub record StatReads (caller : Caller) (asker : Asker) (rows : AllRows) (d : List Deed) : Type 0 where
  pub asked : IsAsker d caller asker
  pub choice : ChoiceReads rows d
  pub has_working : HasRows rows d tables.Working
