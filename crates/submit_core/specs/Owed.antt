-- Paid resolves as rows have them (Helix Core database schema reference, "db.resolve").
use Rattle.std.specs.Prelude.{ℕ, List, codes, if◌then◌else◌, Option, Some, None}
use Rattle.depot_rows.specs.depot_path.Bytes.{same}
use Rattle.depot_rows.specs.db_records.declared.record.Record.{Record}
use Rattle.depot_rows.specs.db_records.declared.record.Record.TheVariants.{Resolve}
use Rattle.depot_rows.specs.db_records.declared.rows.ResolveRecord.{ResolveRecord}
use Rattle.opening_reads.specs.Read.{path_in_text}
use Rattle.depot_rows.specs.declared.deed.Credit.{Credit}
use Rattle.depot_rows.specs.declared.deed.How.{How}
use Rattle.depot_rows.specs.declared.deed.How.TheVariants.{CopyFrom, BranchFrom, DeleteFrom, Ignored, MovedFrom}

-- how a resolve was paid, where a word says it
abbrev pub how_in : List ℕ → Option How
how_in word =
    if same word (codes "copy from") then Some CopyFrom else
    (if same word (codes "branch from") then Some BranchFrom else
    (if same word (codes "delete from") then Some DeleteFrom else
    (if same word (codes "ignored") then Some Ignored else
    (if same word (codes "moved from") then Some MovedFrom else None))))

abbrev pub credit_by : Option How → Option (List ℕ) → ℕ → ℕ → Option Credit
credit_by (Some how) (Some from) first last = Some (record { from = from; first = first; last = last; how = how })
credit_by (Some how) None first last = None
credit_by None from first last = None

-- the credit of a paid resolve from another file than that of a text
abbrev pub credit_in : List ℕ → ResolveRecord → Option Credit
credit_in text r = if same r.from text then None else credit_by (how_in r.how) (path_in_text r.from) r.first r.last

abbrev pub credit_of_row : List ℕ → Record → Option Credit
credit_of_row text (Resolve r) = credit_in text r
credit_of_row text _ = None
