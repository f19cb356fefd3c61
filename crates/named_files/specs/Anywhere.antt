-- The files that any client has opened, as the rows of opened files have them: a row a client, in the order of paths (Command-Line Reference,
-- "p4 opened", option -a; Helix Core database schema reference, "db.working").
use Rattle.std.specs.Prelude.{ℕ, Bool, false, List, [], ◌∷◌, ◌++◌, filter, flat_map, if◌then◌else◌, length, nat_lt, Option, Some, None}
use Rattle.depot_rows.specs.depot_path.Bytes.{same}
use Rattle.depot_rows.specs.depot_path.Path.{printed}
use Rattle.depot_rows.specs.db_records.declared.record.Record.{Record}
use Rattle.depot_rows.specs.db_records.declared.record.Record.TheVariants.{Working}
use Rattle.depot_rows.specs.depot_model.Arguments.{open_paths, paths_of}
use Rattle.depot_rows.specs.depot_model.Deeds.{Deed}
use Rattle.depot_rows.specs.depot_model.Steps.Opening.{openers}
use Rattle.row_ranges.specs.Ranges.{has_row}
use Rattle.row_ranges.specs.declared.range.KeyRange.TheVariants.{OpenedFiles}
use Rattle.named_files.specs.Listed.{is_in_front, path_in_text}
use Rattle.named_files.specs.declared.listing.Listing.{Listing}

abbrev pub opened_anywhere : List Deed → List (List ℕ)
opened_anywhere d = filter (λ path. nat_lt 0 (length (openers d path))) (paths_of open_paths d)

-- some row is of an opening of a file
abbrev pub has_opening : List Record → List ℕ → Bool
has_opening rows path = nat_lt 0 (length (filter (has_row (OpenedFiles (printed path))) rows))

-- a text is that of the row before
abbrev pub is_last : Option (List ℕ) → List ℕ → Bool
is_last None text = false
is_last (Some last) text = same last text

-- the text of the path of a row, where that of the row before is another
abbrev pub new_text : Option (List ℕ) → Record → List (List ℕ)
new_text last (Working r) = if is_last last r.path then [] else r.path ∷ []
new_text last _ = []

abbrev pub next_last : Option (List ℕ) → Record → Option (List ℕ)
next_last last (Working r) = Some r.path
next_last last _ = last

-- the texts of rows after one, each once
abbrev pub texts_after : Option (List ℕ) → List Record → List (List ℕ)
texts_after last [] = []
texts_after last (row ∷ rows) = new_text last row ++ texts_after (next_last last row) rows

-- their paths
abbrev pub paths_after : Option (List ℕ) → List Record → List (List ℕ)
paths_after last rows = flat_map path_in_text (texts_after last rows)

-- the paths of the rows in front whose paths begin with a text, each once
abbrev pub paths_in_front : Listing → List Record → List ℕ → List (List ℕ)
paths_in_front listing rows beginning = paths_after None (filter (is_in_front listing beginning) rows)

-- those of each beginning, in turn
abbrev pub paths_in_turn : Listing → List Record → List (List ℕ) → List (List ℕ)
paths_in_turn listing rows beginnings = flat_map (λ beginning. paths_in_front listing rows beginning) beginnings
