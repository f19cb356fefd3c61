-- Resolves as rows have them (Helix Core database schema reference, "db.resolve").
use Rattle.std.specs.Prelude.{ℕ, Bool, false, ◌==◌, List, length, if◌then◌else◌, Option, Some, None, option_map}
use Rattle.depot_rows.specs.db_records.declared.record.Record.{Record}
use Rattle.depot_rows.specs.db_records.declared.record.Record.TheVariants.{Resolve}
use Rattle.depot_rows.specs.db_records.declared.rows.ResolveRecord.{ResolveRecord}
use Rattle.depot_rows.specs.declared.deed.Owing.{Owing}
use Rattle.opening_reads.specs.Read.{path_in_text}

-- the row of a resolve, if it is one
abbrev pub resolve_of : Option Record → Option ResolveRecord
resolve_of (Some (Resolve r)) = Some r
resolve_of _ = None

-- a row of a resolve that is owed
abbrev pub is_unpaid_row : Record → Bool
is_unpaid_row (Resolve r) = length r.how == 0
is_unpaid_row _ = false

-- the resolve of a row of a client and a file
abbrev pub owing_from : List ℕ → List ℕ → ℕ → ℕ → List ℕ → Owing
owing_from client path first last from = record { client = client; path = path; from = from; first = first; last = last }

abbrev pub owing_in_row : List ℕ → List ℕ → ResolveRecord → Option Owing
owing_in_row client path r = option_map (owing_from client path r.first r.last) (path_in_text r.from)

-- where it is owed
abbrev pub owing_of_row : List ℕ → List ℕ → Record → Option Owing
owing_of_row client path (Resolve r) = if length r.how == 0 then owing_in_row client path r else None
owing_of_row client path _ = None
