-- The files that arguments name (Command-Line Reference, "File specifications"). That files are taken by argument and then by path, each once, and
-- the limit of 10,000 files, are this project's own choice.
use Rattle.std.specs.Prelude.{ℕ, Bool, true, false, not, ◌&&◌, ◌==◌, nat_lt, List, [], ◌∷◌, ◌++◌, map, filter, codes, length, if◌then◌else◌, Option, Some, None, is_some}
use Rattle.std.specs.List.{list_any}
use Rattle.db_records.specs.depot_path.Bytes.{same}
use Rattle.depot_model.specs.Sorted.{all_inserted}
use Rattle.db_records.specs.depot_path.Fit.{fits}
use Rattle.db_records.specs.depot_path.declared.piece.Piece.{Piece}
use Rattle.db_records.specs.depot_path.declared.piece.Piece.TheVariants.{Byte, Dots}
use Rattle.db_records.specs.depot_path.declared.file_spec.FileSpec.{FileSpec}
use Rattle.db_records.specs.depot_path.declared.revision.Wanted.TheVariants.{Head}
use Rattle.view_map.specs.Mapping.{path_in}
use Rattle.depot_model.specs.declared.request.Caller.{Caller}
use Rattle.depot_model.specs.declared.command.FileArgument.{FileArgument}
use Rattle.depot_model.specs.declared.refusal.Refusal.TheVariants.{OverLimit, NoSuchFile}
use Rattle.depot_model.specs.declared.refusal.Limit.TheVariants.{Files}
use Rattle.depot_model.specs.Deeds.{Deed, Land, Entry, Open, Shut, Hold, Free, Got, Tag, Owe, Paid}
use Rattle.depot_model.specs.Latest.{have}
use Rattle.depot_model.specs.Opened.{opened}
use Rattle.depot_model.specs.Asking.{view, may_list}
use Rattle.depot_model.specs.Choice.{shown}
use Rattle.depot_model.specs.Step.{Step, nothing, both, all_of, refuses}

-- the paths of which deeds speak
abbrev pub paths_of : (Deed → List (List ℕ)) → List Deed → List (List ℕ)
paths_of reading [] = []
paths_of reading (deed ∷ d) = all_inserted (reading deed) (paths_of reading d)

abbrev pub landed_paths : Deed → List (List ℕ)
landed_paths (Land l) = map (λ (e : Entry). e.path) l.entries
landed_paths _ = []

abbrev pub got_paths : List ℕ → Deed → List (List ℕ)
got_paths client (Got held rev) = if same held.client client then held.path ∷ [] else []
got_paths client _ = []

abbrev pub open_paths : Deed → List (List ℕ)
open_paths (Open o) = o.path ∷ []
open_paths _ = []

-- the submitted files, the files of a client's have list, and the files that it has opened
abbrev pub submitted : List Deed → List (List ℕ)
submitted d = paths_of landed_paths d

abbrev pub had : List Deed → List ℕ → List (List ℕ)
had d client = filter (λ path. not (have d client path == 0)) (paths_of (got_paths client) d)

abbrev pub opened_by : List Deed → List ℕ → List (List ℕ)
opened_by d client = filter (λ path. is_some (opened d client path)) (paths_of open_paths d)

-- a pattern's first component is the client's name
abbrev pub begins_with_name : List ℕ → List Piece → Bool
begins_with_name [] [] = true
begins_with_name [] (Byte b ∷ pattern) = b == 0x2F
begins_with_name [] (_ ∷ pattern) = false
begins_with_name (x ∷ name) (Byte b ∷ pattern) = (x == b) && begins_with_name name pattern
begins_with_name (x ∷ name) _ = false

abbrev pub in_client_syntax : List ℕ → List Piece → Bool
in_client_syntax client pattern = begins_with_name (codes "//" ++ client) pattern

-- where an argument in client syntax looks for a file
abbrev pub place : Bool → List Deed → Caller → FileSpec → List ℕ → Option (List ℕ)
place mapped_only d caller spec path = if mapped_only then path_in (view d caller.client) path else shown d caller spec.wanted path

abbrev pub fits_at : List Piece → Option (List ℕ) → Bool
fits_at pattern None = false
fits_at pattern (Some path) = fits pattern path

abbrev pub names : Bool → List Deed → Caller → FileSpec → List ℕ → Bool
names mapped_only d caller spec path =
    may_list d caller path && (if in_client_syntax caller.client spec.pattern then fits_at spec.pattern (place mapped_only d caller spec path) else fits spec.pattern path)

-- the files among those given that an argument names
abbrev pub named : Bool → List Deed → Caller → List (List ℕ) → FileArgument → List (List ℕ)
named mapped_only d caller files argument = filter (names mapped_only d caller argument.spec) files

abbrev pub is_in : List (List ℕ) → List ℕ → Bool
is_in paths path = list_any (same path) paths

abbrev pub not_in : List (List ℕ) → List (List ℕ) → List (List ℕ)
not_in taken paths = filter (λ path. not (is_in taken path)) paths

-- what is done for an argument's files that were not taken before; for an argument that names none, something else
abbrev pub each_or : {A : Type 0} → Step → (A → Step) → List A → List A → Step
each_or missing act [] _ = missing
each_or missing act (_ ∷ _) left = all_of act left

-- what is done by argument, and then by path, for each file once
abbrev pub over : (FileArgument → List (List ℕ)) → (FileArgument → Step) → (FileArgument → List ℕ → Step) → List (List ℕ) → List FileArgument → Step
over files missing act taken [] = nothing
over files missing act taken (argument ∷ arguments) =
    both (each_or (missing argument) (act argument) (files argument) (not_in taken (files argument)))
    (over files missing act (taken ++ files argument) arguments)

-- an argument that names no file
abbrev pub no_file : FileArgument → Step
no_file argument = refuses (NoSuchFile argument.text)

-- the argument `//...`, for an absent one
abbrev pub everything : FileArgument
everything = record { text = codes "//..."; spec = record { pattern = Byte 0x2F ∷ Byte 0x2F ∷ Dots ∷ []; wanted = Head } }

-- the same for arguments that may be absent: then no row is given where there is no file
abbrev pub over_all : (FileArgument → List (List ℕ)) → (FileArgument → Step) → (FileArgument → List ℕ → Step) → List FileArgument → Step
over_all files missing act [] = over files (λ _. nothing) act [] (everything ∷ [])
over_all files missing act (argument ∷ arguments) = over files missing act [] (argument ∷ arguments)

-- at most 10,000 files change
abbrev pub changed_paths : Deed → List (List ℕ)
changed_paths (Open o) = o.path ∷ []
changed_paths (Shut held) = held.path ∷ []
changed_paths (Hold held) = held.path ∷ []
changed_paths (Free held) = held.path ∷ []
changed_paths (Got held rev) = held.path ∷ []
changed_paths (Tag label path rev) = path ∷ []
changed_paths (Owe o) = o.path ∷ []
changed_paths (Paid held from how) = held.path ∷ []
changed_paths _ = []

abbrev pub within_files : Step → Step
within_files step = if nat_lt 10000 (length (paths_of changed_paths step.deeds)) then refuses (OverLimit Files) else step
