-- Where a view puts a file: the last line that takes it decides (Command-Line Reference, "Views", "p4 client"). That a file is hidden where
-- a later exclusion's client side fits its client path, and what the rivals of a file are, is this project's own choice.
use Rattle.std.specs.Prelude.{ℕ, Bool, not, ◌&&◌, ◌||◌, List, [], ◌∷◌, ◌++◌, if◌then◌else◌, Option, Some, None}
use Rattle.std.specs.List.{list_any}
use Rattle.depot_path.specs.Fit.{fits}
use Rattle.view_map.specs.Carry.{client_path, depot_file, takes, is_exclusion, is_overlay}
use Rattle.view_map.specs.declared.line.ViewLine.{ViewLine}
use Rattle.view_map.specs.declared.mapped.Mapped.{Mapped}
use Rattle.view_map.specs.declared.mapped.Mapped.TheVariants.{Nothing, At}

-- a plain or exclusion line whose client side fits a client path hides what earlier lines put there
abbrev pub hides : List ℕ → ViewLine → Bool
hides path line = not (is_overlay line.sign) && fits line.client path

abbrev pub taken_by_some : List ViewLine → List ℕ → Bool
taken_by_some lines file = list_any (takes file) lines

abbrev pub hidden_by_some : List ViewLine → List ℕ → Bool
hidden_by_some lines path = list_any (hides path) lines

-- a client path that no line of these hides
abbrev pub unhidden : List ViewLine → Option (List ℕ) → Option (List ℕ)
unhidden later None = None
unhidden later (Some path) = if hidden_by_some later path then None else Some path

-- the client path that a line gives a file, where no line after it takes the file
abbrev pub given_by : ViewLine → List ViewLine → List ℕ → Option (List ℕ)
given_by line later file = if is_exclusion line.sign then None else unhidden later (client_path line file)

-- the client path of a file: the last line that takes it decides
abbrev pub path_in : List ViewLine → List ℕ → Option (List ℕ)
path_in [] file = None
path_in (line ∷ later) file = if taken_by_some later file then path_in later file else given_by line later file

-- the file that a line puts at a client path, where it decides for that file and no later line hides the path
abbrev pub file_by : ViewLine → List ViewLine → List ℕ → Option (List ℕ) → List (List ℕ)
file_by line later path None = []
file_by line later path (Some file) =
    if is_exclusion line.sign || taken_by_some later file || hidden_by_some later path then [] else file ∷ []

-- the files mapped to a client path, that of the last line first
abbrev pub files_at : List ViewLine → List ℕ → List (List ℕ)
files_at [] path = []
files_at (line ∷ later) path = files_at later path ++ file_by line later path (depot_file line path)

-- the lines after the one that decides for a file
abbrev pub after_deciding : List ViewLine → List ℕ → List ViewLine
after_deciding [] file = []
after_deciding (line ∷ later) file = if taken_by_some later file then after_deciding later file else later

abbrev pub at_path : List ViewLine → Option (List ℕ) → Mapped
at_path later None = Nothing
at_path later (Some path) = At path (files_at later path)

-- where a view puts a file, with its rivals: the files that the lines after the deciding one put there
abbrev pub mapped : List ViewLine → List ℕ → Mapped
mapped view file = at_path (after_deciding view file) (path_in view file)
