-- What is told of a change, by its record and by those of its revisions (Command-Line Reference, "p4 describe", option -s; Helix Core database schema
-- reference, "db.change", "db.rev"). That a revision has a content exactly where its row has a digest is this project's own choice.
use Rattle.std.specs.Prelude.{ℕ, List, [], ◌∷◌, ◌++◌, codes, decimal, flat_map, if◌then◌else◌, length, Option, Some, None, ◌==◌}
use Rattle.std.specs.List.{enumerate_from}
use Rattle.depot_rows.specs.depot_path.Bytes.{same}
use Rattle.depot_rows.specs.db_records.declared.rows.ChangeRecord.{ChangeRecord}
use Rattle.depot_rows.specs.db_records.declared.rows.RevRecord.{RevRecord}
use Rattle.depot_rows.specs.depot_model.declared.refusal.Refusal.TheVariants.{NoSuchChange}
use Rattle.depot_rows.specs.depot_model.declared.reply.Field.{Field}
use Rattle.depot_rows.specs.depot_model.declared.reply.Row.{Row}
use Rattle.depot_rows.specs.depot_model.declared.request.Caller.{Caller}
use Rattle.depot_rows.specs.depot_model.Deeds.{Deed}
use Rattle.depot_rows.specs.depot_model.Refusals.{refusal_row}
use Rattle.depot_rows.specs.depot_model.Rows.{number_field, row, text_field}
use Rattle.depot_rows.specs.depot_model.Steps.History.{change_fields, describe_fields, landed_files}

abbrev pub record_fields : ChangeRecord → List Field
record_fields r = change_fields r.change r.user r.client r.moment r.status r.text

abbrev pub numbered_name : List ℕ → ℕ → List ℕ
numbered_name name k = name ++ decimal k

-- the fields of a content, where there is a digest of one
abbrev pub content_fields : ℕ → List ℕ → ℕ → List Field
content_fields k [] length = []
content_fields k (b ∷ digest) length =
    number_field (numbered_name (codes "fileSize") k) length ∷ text_field (numbered_name (codes "digest") k) (b ∷ digest) ∷ []

abbrev pub revision_fields : ℕ → RevRecord → List Field
revision_fields k r =
    text_field (numbered_name (codes "depotFile") k) r.path ∷ text_field (numbered_name (codes "action") k) r.action
    ∷ text_field (numbered_name (codes "type") k) r.file_type ∷ number_field (numbered_name (codes "rev") k) r.rev
    ∷ content_fields k r.digest r.length

abbrev pub fields_at : ℕ × RevRecord → List Field
fields_at item = revision_fields item.0 item.1

-- what is told of a submitted change, by the records of its revisions
abbrev pub landed_by : ChangeRecord → List RevRecord → Row
landed_by r [] = refusal_row (NoSuchChange r.change)
landed_by r (x ∷ rows) = row (record_fields r ++ flat_map fields_at (enumerate_from 0 (x ∷ rows)))

-- what is told of a submitted change
abbrev pub landed_told : List Deed → Caller → ChangeRecord → Row
landed_told d caller r =
    if length (landed_files d caller r.change) == 0 then refusal_row (NoSuchChange r.change)
    else row (record_fields r ++ flat_map (describe_fields d) (enumerate_from 0 (landed_files d caller r.change)))

-- what is told of a change, by its record
abbrev pub described_told : List Deed → Caller → ℕ → Option ChangeRecord → Row
described_told d caller n None = refusal_row (NoSuchChange n)
described_told d caller n (Some r) = if same r.status (codes "pending") then row (record_fields r) else landed_told d caller r
