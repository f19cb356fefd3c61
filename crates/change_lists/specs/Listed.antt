-- What is listed of changes, by their records (Command-Line Reference, "p4 changes"; Helix Core database schema reference, "db.change").
use Rattle.std.specs.Prelude.{ℕ, Bool, false, ◌&&◌, ◌-◌, codes, filter, filter_map, flat_map, if◌then◌else◌, map, List, [], ◌∷◌, Option, Some, None}
use Rattle.std.specs.List.{list_any}
use Rattle.std.specs.Option.{option_to_list}
use Rattle.depot_rows.specs.depot_path.Bytes.{same}
use Rattle.depot_rows.specs.db_records.declared.record.Record.{Record}
use Rattle.depot_rows.specs.db_records.declared.record.Record.TheVariants.{Change}
use Rattle.depot_rows.specs.db_records.declared.rows.ChangeRecord.{ChangeRecord}
use Rattle.depot_rows.specs.depot_model.declared.reply.Row.{Row}
use Rattle.depot_rows.specs.depot_model.declared.request.Caller.{Caller}
use Rattle.depot_rows.specs.depot_model.declared.command.FileArgument.{FileArgument}
use Rattle.depot_rows.specs.depot_model.Arguments.{is_in}
use Rattle.depot_rows.specs.depot_model.Asking.{may_list}
use Rattle.depot_rows.specs.depot_model.Choice.{made_by}
use Rattle.depot_rows.specs.depot_model.Deeds.{Deed}
use Rattle.depot_rows.specs.depot_model.Range.{in_range}
use Rattle.depot_rows.specs.depot_model.Records.{change_record}
use Rattle.depot_rows.specs.depot_model.Revisions.{revisions}
use Rattle.depot_rows.specs.depot_model.Rows.{number_field, row, text_field}
use Rattle.depot_rows.specs.depot_model.Steps.Changes.{Listed, at_most, change_at, change_row, is_made, listed, numbers, passes}

-- a change's row, by its record
abbrev pub row_told : ChangeRecord → Row
row_told r = row (
    number_field (codes "change") r.change ∷ number_field (codes "time") r.moment ∷ text_field (codes "user") r.user
    ∷ text_field (codes "client") r.client ∷ text_field (codes "status") r.status ∷ text_field (codes "desc") r.text ∷ [])

-- the caller may list the file, and the change made a revision of it
abbrev pub lists_one : List Deed → Caller → ℕ → List ℕ → Bool
lists_one d caller n path = may_list d caller path && list_any (made_by n) (revisions d path)

-- which changes are asked for
abbrev pub is_asked : Option (List ℕ) → Option (List ℕ) → Option (List ℕ) → ChangeRecord → Bool
is_asked status user client r = passes status r.status && passes user r.user && passes client r.client

-- the row of a change, where it is asked for
abbrev pub record_asked : Option (List ℕ) → Option (List ℕ) → Option (List ℕ) → ChangeRecord → Option Row
record_asked status user client r = if is_asked status user client r then Some (row_told r) else None

abbrev pub asked_of : Option (List ℕ) → Option (List ℕ) → Option (List ℕ) → Option Record → Option Row
asked_of status user client (Some (Change r)) = record_asked status user client r
asked_of status user client _ = None

abbrev pub asked_at : List Deed → Option (List ℕ) → Option (List ℕ) → Option (List ℕ) → ℕ → Option Row
asked_at d status user client n = asked_of status user client (change_record d n)

-- those of the changes of numbers
abbrev pub rows_asked : List Deed → Option (List ℕ) → Option (List ℕ) → Option (List ℕ) → List ℕ → List Row
rows_asked d status user client ns = flat_map (λ n. option_to_list (asked_at d status user client n)) ns

-- the change of a number is pending
abbrev pub is_pending_record : Option Record → Bool
is_pending_record (Some (Change r)) = same r.status (codes "pending")
is_pending_record _ = false

abbrev pub is_pending : List Deed → ℕ → Bool
is_pending d n = is_pending_record (change_record d n)

-- the row of the change of a number, where it is listed and asked for
abbrev pub listed_at : List Deed → Caller → Option (List ℕ) → Option (List ℕ) → Option (List ℕ) → ℕ → List Row
listed_at d caller status user client n =
    map change_row (filter (λ l. passes status l.status && passes user l.user && passes client l.client) (option_to_list (listed d caller n)))

-- how many rows may still come
abbrev pub less : Option ℕ → Option ℕ
less None = None
less (Some n) = Some (n - 1)

abbrev pub less_by : Option Row → Option ℕ → Option ℕ
less_by None left = left
less_by (Some row) left = less left

-- the changes that are listed
abbrev pub changes_listed : List Deed → Caller → Option ℕ → Option (List ℕ) → Option (List ℕ) → Option (List ℕ) → List FileArgument → List Listed
changes_listed d caller most status user client arguments =
    at_most most (filter (λ l. passes status l.status && passes user l.user && passes client l.client)
    (filter_map (listed d caller) (filter (is_made d caller arguments) (numbers d))))

-- the changes that made the revisions of a file that an argument selects, unless the file was taken
abbrev pub made_in_file : List Deed → Caller → FileArgument → List (List ℕ) → List ℕ → List ℕ
made_in_file d caller argument taken path =
    if is_in taken path then [] else flat_map (λ rev. option_to_list (change_at d path rev)) (in_range d caller path argument.spec.wanted)
