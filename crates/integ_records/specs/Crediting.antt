-- The revisions of a file that integration records tell of (Command-Line Reference, "p4 integrated"; Helix Core database schema reference,
-- "db.integed").
use Rattle.std.specs.Prelude.{ℕ, Bool, ◌&&◌, nat_le, List, flat_map, if◌then◌else◌, Option, Some, None, option_and_then}
use Rattle.std.specs.Option.{option_to_list}
use Rattle.depot_rows.specs.depot_path.Bytes.{same}
use Rattle.depot_rows.specs.db_records.declared.record.Record.{Record}
use Rattle.depot_rows.specs.db_records.declared.record.Record.TheVariants.{Integed}
use Rattle.depot_rows.specs.db_records.declared.rows.IntegedRecord.{IntegedRecord}
use Rattle.integ_records.specs.declared.crediting.Span.{Span}

abbrev pub is_within : ℕ → Span → Bool
is_within n span = nat_le span.first n && nat_le n span.last

-- of a record of the file of a text
abbrev pub span_in : List ℕ → IntegedRecord → Option Span
span_in from r = if same r.from_file from then Some (record { first = r.start_from; last = r.end_from }) else None

abbrev pub record_in : Record → Option IntegedRecord
record_in (Integed r) = Some r
record_in _ = None

abbrev pub span_of_row : List ℕ → Record → Option Span
span_of_row from row = option_and_then (span_in from) (record_in row)

abbrev pub span_of_rows : List ℕ → List Record → List Span
span_of_rows from rows = flat_map (λ row. option_to_list (span_of_row from row)) rows
