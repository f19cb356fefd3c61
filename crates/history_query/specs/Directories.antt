-- The directories of files, from the printed texts of their paths (Command-Line Reference, "p4 dirs").
use Rattle.std.specs.Prelude.{ℕ, not, ◌&&◌, List, [], ◌∷◌, ◌++◌, filter, flat_map, map, codes, if◌then◌else◌, Option, Some, None}
use Rattle.std.specs.BTreeSet.{insert_key}
use Rattle.std.specs.Cmp.Lexicographic.{slice_cmp}
use Rattle.std.specs.List.{list_any}
use Rattle.std.specs.Option.{option_to_list}
use Rattle.std.specs.Ordering.{nat_cmp}
use Rattle.depot_rows.specs.depot_path.Bytes.{same}
use Rattle.depot_rows.specs.depot_path.Fit.{fits}
use Rattle.depot_rows.specs.depot_path.Path.{printed}
use Rattle.depot_rows.specs.depot_path.declared.piece.Piece.{Piece}
use Rattle.depot_rows.specs.depot_path.declared.revision.Wanted.TheVariants.{Head}
use Rattle.depot_rows.specs.depot_model.declared.command.FileArgument.{FileArgument}
use Rattle.depot_rows.specs.depot_model.declared.refusal.Refusal.TheVariants.{NoSuchFile}
use Rattle.depot_rows.specs.depot_model.declared.reply.Row.{Row}
use Rattle.depot_rows.specs.depot_model.declared.request.Caller.{Caller}
use Rattle.depot_rows.specs.depot_model.Arguments.{in_client_syntax}
use Rattle.depot_rows.specs.depot_model.Asking.{may_list}
use Rattle.depot_rows.specs.depot_model.Choice.{shown}
use Rattle.depot_rows.specs.depot_model.Deeds.{Deed}
use Rattle.depot_rows.specs.depot_model.Refusals.{refusal_row}
use Rattle.depot_rows.specs.depot_model.Revisions.{is_live_head}
use Rattle.depot_rows.specs.depot_model.Rows.{row, text_field}
use Rattle.depot_rows.specs.depot_model.Steps.History.{directories, dirs_of}
use Rattle.named_files.specs.Asked.{is_begun}
use Rattle.named_files.specs.declared.asker.Asker.{Asker}

-- a text is put at its place in the order of bytes, unless it is there
abbrev pub text_inserted : List ℕ → List (List ℕ) → List (List ℕ)
text_inserted text texts = insert_key (slice_cmp nat_cmp) texts text

-- a directory that fits is put among the printed ones
abbrev pub fitting_inserted : List Piece → List ℕ → List (List ℕ) → List (List ℕ)
fitting_inserted pattern directory texts = if fits pattern directory then text_inserted (printed directory) texts else texts

-- so are all, the last first
abbrev pub all_fitting : List Piece → List (List ℕ) → List (List ℕ) → List (List ℕ)
all_fitting pattern [] texts = texts
all_fitting pattern (directory ∷ directories) texts = fitting_inserted pattern directory (all_fitting pattern directories texts)

-- the path whose directories an argument asks for, of a file
abbrev pub seen_path : List Deed → Caller → List Piece → List ℕ → Option (List ℕ)
seen_path d caller pattern path =
    if may_list d caller path && is_live_head d path
    then (if in_client_syntax caller.client pattern then shown d caller Head path else Some path)
    else None

abbrev pub directories_of : List Deed → Caller → List Piece → List ℕ → List (List ℕ)
directories_of d caller pattern path = flat_map directories (option_to_list (seen_path d caller pattern path))

-- those of a file that begins as a pattern does, and of files
abbrev pub begun_directories : List Deed → Caller → Asker → List Piece → List ℕ → List (List ℕ)
begun_directories d caller asker pattern path = if is_begun asker pattern path then directories_of d caller pattern path else []

abbrev pub all_directories : List Deed → Caller → Asker → List Piece → List (List ℕ) → List (List ℕ)
all_directories d caller asker pattern paths = flat_map (begun_directories d caller asker pattern) paths

-- the row of a directory as it is printed
abbrev pub text_row : List ℕ → Row
text_row text = row (text_field (codes "dir") text ∷ [])

-- the rows of an argument's directories that were not taken before; of one that has none a refusal
abbrev pub new_rows : List (List ℕ) → List (List ℕ) → List Row
new_rows taken texts = map text_row (filter (λ text. not (list_any (same text) taken)) texts)

abbrev pub missing_rows : FileArgument → List (List ℕ) → List Row
missing_rows argument [] = refusal_row (NoSuchFile argument.text) ∷ []
missing_rows argument (_ ∷ _) = []

abbrev pub taken_after : List (List ℕ) → List (List ℕ) → List (List ℕ)
taken_after taken [] = taken
taken_after taken (text ∷ texts) = taken_after (text_inserted text taken) texts

abbrev pub texts_of : List Deed → Caller → FileArgument → List (List ℕ)
texts_of d caller argument = map printed (dirs_of d caller argument.spec.pattern)

-- the rows of arguments one after another
abbrev pub told_after : List Deed → Caller → List (List ℕ) → List FileArgument → List Row
told_after d caller taken [] = []
told_after d caller taken (a ∷ arguments) =
    (missing_rows a (texts_of d caller a) ++ new_rows taken (texts_of d caller a)) ++ told_after d caller (taken_after taken (texts_of d caller a)) arguments
