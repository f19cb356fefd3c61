-- The rows of the newest revisions of files, as a walk over the rows of revisions in key order passes them: the last row of each file (Helix Core
-- database schema reference, "db.rev"). That they are taken in such a walk is this project's own choice.
use Rattle.std.specs.Prelude.{◌≡◌, ℕ, suc, Bool, false, List, [], ◌∷◌, ◌++◌, filter, flat_map, if◌then◌else◌, Option, Some, None}
use Rattle.std.specs.Option.{option_to_list}
use Rattle.depot_rows.specs.depot_path.Bytes.{same}
use Rattle.depot_rows.specs.db_records.declared.key.Key.TheVariants as keys
use Rattle.depot_rows.specs.db_records.declared.record.Record.{Record}
use Rattle.depot_rows.specs.db_records.declared.record.Record.TheVariants.{Rev}
use Rattle.depot_rows.specs.db_records.declared.rows.RevRecord.{RevRecord}
use Rattle.depot_rows.specs.table_store.Rows.{row_at}
use Rattle.revision_reads.specs.Probes.{rev_of}
use Rattle.named_files.specs.Listed.{is_in_front}
use Rattle.named_files.specs.declared.listing.Listing.{Listing}

-- the row of a revision is among the rows, and none is of the next revision of its file
abbrev pub IsHead : List Record → RevRecord → Type 0
IsHead rows r = (row_at (keys.Rev r.path r.rev) rows ≡ Some (Rev r)) × (row_at (keys.Rev r.path (suc r.rev)) rows ≡ None)

-- a row is of a revision of the same file
abbrev pub is_of_its_file : RevRecord → Record → Bool
is_of_its_file r (Rev s) = same r.path s.path
is_of_its_file r _ = false

-- the row before one, where it is of a revision, and the two aren't of one file
abbrev pub ended : Option Record → Record → List RevRecord
ended (Some (Rev before)) row = if is_of_its_file before row then [] else before ∷ []
ended before row = []

-- the last row of each file, from a row on
abbrev pub heads_after : Option Record → List Record → List RevRecord
heads_after before [] = option_to_list (rev_of before)
heads_after before (row ∷ rows) = ended before row ++ heads_after (Some row) rows

-- those of the rows in front whose paths begin with a text
abbrev pub heads_in_front : Listing → List Record → List ℕ → List RevRecord
heads_in_front listing rows beginning = heads_after None (filter (is_in_front listing beginning) rows)

-- those of each beginning, in turn
abbrev pub heads_in_turn : Listing → List Record → List (List ℕ) → List RevRecord
heads_in_turn listing rows beginnings = flat_map (λ beginning. heads_in_front listing rows beginning) beginnings
